-- How statements end.
use Rattle.std.specs.Prelude.{◌≡◌, Option, Some, Result, Ok, Err}
use Rattle.rp_value.specs.declared.value.Value.{Value}
use Rattle.rp_meaning.specs.declared.counter.Counter.{Counter}
use Rattle.rp_meaning.specs.declared.stop.Stop.{Stop}
use Rattle.rp_meaning.specs.Computations.{Stops}
use Rattle.rp_meaning.specs.Expressions.{Scope}
use Rattle.rp_meaning.specs.Statements.{After, Next, Skipped, Escaped, Returned, Turn, Again, Over}
use Rattle.rp_eval.specs.declared.statements.Ending.{Ending}
use Rattle.rp_eval.specs.declared.statements.Ending.TheVariants as e
use Rattle.rp_eval.specs.declared.statements.Turning.{Turning}
use Rattle.rp_eval.specs.declared.statements.Turning.TheVariants as t

-- with the value that is returned, and with what the frame then is
abbrev pub after : Ending → Value → Scope → After
after e.Next x s = Next s
after e.Skipped x s = Skipped s
after e.Escaped x s = Escaped s
after e.Returned x s = Returned x

-- The result, what is written, the frame and what is counted are what comes of statements; unless memory ran out.
abbrev pub Ends : Option (After × Counter) → Result Ending Stop → Value → Scope → Counter → Type 0
Ends outcome (Ok ending) x s c = outcome ≡ Some (after ending x s, c)
Ends outcome (Err e) x s c = Stops outcome e

abbrev pub after_turn : Turning → Value → Scope → Turn
after_turn t.Again x s = Again s
after_turn (t.Over ending) x s = Over (after ending x s)

-- the same of a turn
abbrev pub Turns : Option (Turn × Counter) → Result Turning Stop → Value → Scope → Counter → Type 0
Turns outcome (Ok turning) x s c = outcome ≡ Some (after_turn turning x s, c)
Turns outcome (Err e) x s c = Stops outcome e

-- The same of what leaves a scope.
abbrev pub Leaves : Option (Scope × Counter) → Result (Unit {0}) Stop → Scope → Counter → Type 0
Leaves outcome (Ok u) s c = outcome ≡ Some (s, c)
Leaves outcome (Err e) s c = Stops outcome e
