use Rattle.std.proofs.Common.{◌≡◌, ◌++◌, map, drop}
use Rattle.rp_population.specs.Populations.{placed}
use Rattle.rp_group_domain.proofs.models.push_placed.Given as goal

abbrev pub invariant-loop-instance : goal.invariant-loop-instance
invariant-loop-instance l = l.found.items ++ map (placed l.model) (drop l.instance-index l.instance-items) ≡ l.initial.found.items ++ map (placed l.model) l.instance-items
