-- What holds of computations whatever they are given.
use Rattle.std.specs.Prelude.{◌≡◌, ℕ, ◌+◌, ◌-◌, ◌≤◌, ◌&&◌, max, Option, Some, None, nat_le, if◌then◌else◌}
use Rattle.rp_meaning.specs.declared.counter.Counter.{Counter}
use Rattle.rp_meaning.specs.Computations.{Computation}

-- A computation, where so many bodies may nest, from one count to another: it takes some number of steps, and some
-- number of bodies nest; and it gives the value wherever it has the steps and the bodies, and takes as many of them.
pub record Taken {A : Type 0} (m : ℕ → Computation A) (levels : ℕ) (old new : Counter) (a : A) : Type 0 where
  pub steps : ℕ
  pub bodies : ℕ
  pub left : old.left ≡ steps + new.left
  pub nesting : new.nesting ≡ max old.nesting bodies
  pub nests : bodies ≤ levels
  pub same : (others left nesting : ℕ) → bodies ≤ others
      → m others (record { left = steps + left; nesting = nesting }) ≡ Some (a, record { left = left; nesting = max nesting bodies })

-- what it takes doesn't depend on what it may take
pub record Steady {A : Type 0} (m : ℕ → Computation A) (levels : ℕ) : Type 0 where
  pub taken : (old new : Counter) (a : A) → m levels old ≡ Some (a, new) → Taken m levels old new a

-- what a value comes to that is kept with the steps that it took and the bodies that nested
abbrev pub kept : {A : Type 0} → ℕ → ℕ → A → ℕ → Counter → Option (A × Counter)
kept steps bodies a levels c =
    if nat_le steps c.left && nat_le bodies levels
    then Some (a, record { left = c.left - steps; nesting = max c.nesting bodies })
    else None
