use Rattle.std.proofs.Common.{◌≡◌, ◌++◌, drop}
use Rattle.std.specs.Option.{option_map}
use Rattle.rp_faults.specs.Twice.{places_in}
use Rattle.rp_faults.proofs.twice.places_in.Given as goal

abbrev pub invariant-loop-item : goal.invariant-loop-item
invariant-loop-item l = option_map (λ places. l.found.items ++ places) (places_in l.count (drop l.item-index l.items)) ≡ places_in l.count l.items
