-- Values that are kept.
use Rattle.std.specs.Prelude.{◌≡◌, ℕ, List, Some, slice_get}
use Rattle.rp_eval_parts.specs.declared.kept.Derived.{Derived}
use Rattle.rp_eval_parts.specs.declared.kept.Kept.{Kept}
use Rattle.rp_eval_parts.specs.declared.kept.Row.{Row}
use Rattle.rp_eval_parts.specs.declared.memory.Remembered.{Remembered}
use Rattle.rp_meaning.specs.declared.body.Body.{Body}
use Rattle.rp_meaning.specs.declared.body.Body.TheVariants as b
use Rattle.rp_meaning.specs.declared.counter.Counter.{Counter}
use Rattle.rp_meaning.specs.Expressions.{World}
use Rattle.rp_meaning.specs.Laws.{kept}
use Rattle.rp_meaning.specs.Levels.{bodies}

-- what is kept of a body is what it comes to wherever it is evaluated
abbrev pub Serves : World → Body → Kept → Type 0
Serves w body k = (levels : ℕ) (c : Counter) → bodies w levels body c ≡ kept k.steps k.bodies k.value levels c

-- the body of a derived attribute of an instance
abbrev pub derived_body : Derived → Body
derived_body of = b.Derived of.derivation.entity of.derivation.place of.instance

-- each row is what its derived attribute comes to, wherever it is asked
pub record Remembers (w : World) (rows : List Row) : Type 0 where
  pub each : (number : ℕ) (row : Row) → slice_get rows number ≡ Some row → Serves w (derived_body row.of) row.kept

-- what an evaluation remembers: the rows of before, and those that it found
pub record Ready (w : World) (r : Remembered) : Type 0 where
  pub settled : Remembers w r.settled.now
  pub found : Remembers w r.found.items
