-- Results that are written in place.
use Rattle.std.specs.Prelude.{◌≡◌, Option, Some, Result, Ok, Err}
use Rattle.rp_meaning.specs.declared.counter.Counter.{Counter}
use Rattle.rp_meaning.specs.declared.stop.Stop.{Stop}
use Rattle.rp_meaning.specs.Computations.{Stops}

-- What is written, and what is counted, are what comes of a computation; unless memory ran out.
abbrev pub RunsInto : {A : Type 0} → Option (A × Counter) → Result (Unit {0}) Stop → A → Counter → Type 0
RunsInto outcome (Ok u) a c = outcome ≡ Some (a, c)
RunsInto outcome (Err e) a c = Stops outcome e
