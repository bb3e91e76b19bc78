use Rattle.std.proofs.Common.{◌≡◌, ℕ, ◌+◌, drop}
use Rattle.std.specs.BTreeMap.{get}
use Rattle.std.specs.Option.{unwrap_or}
use Rattle.std.specs.Ordering.{nat_cmp}
use Rattle.ex_layouts.specs.Layouts as spec
use Rattle.ex_layouts.proofs.layout.first_places.Given as goal

abbrev pub invariant-loop-number : goal.invariant-loop-number
invariant-loop-number l =
    (l.place ≡ l.number-index)
    × ((n : ℕ) → unwrap_or (get nat_cmp l.table n) (l.place + spec.place_in (drop l.number-index l.numbers) n) ≡ spec.place_in l.numbers n)
