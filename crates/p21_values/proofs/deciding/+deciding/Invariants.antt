use Rattle.std.proofs.Common.{◌≡◌, ◌++◌, map, take, drop}
use Rattle.std.specs.List.{flat_map}
use Rattle.ex_selects.specs.Seen.{seen_target}
use Rattle.p21_values.specs.Taking.{meaning}
use Rattle.p21_values.specs.Deciding.{rows, takes_each}
use Rattle.p21_values.proofs.deciding.+deciding.Given as goal

abbrev pub invariant-take_all-values : goal.invariant-take_all-values
invariant-take_all-values l = record {
  taken : l.taken.items ≡ map (λ t. takes_each (map (meaning l.types) (take l.value-index l.values)) (seen_target t)) l.targets;
  rows : l.rows.items ++ flat_map (rows l.types l.below) (drop l.value-index l.values) ≡ l.fn.rows.items ++ flat_map (rows l.types l.below) l.values;
}
