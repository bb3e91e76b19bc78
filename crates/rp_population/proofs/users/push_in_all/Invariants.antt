use Rattle.std.proofs.Common.{◌≡◌, ◌++◌, drop}
use Rattle.std.specs.List.{flat_map}
use Rattle.rp_population.specs.Found.{told_in_all}
use Rattle.rp_population.proofs.users.push_in_all.Given as goal

abbrev pub invariant-loop-instance : goal.invariant-loop-instance
invariant-loop-instance l =
    l.found.items ++ flat_map (told_in_all l.names.keys l.model) (drop l.instance-index l.instances)
    ≡ l.initial.found.items ++ flat_map (told_in_all l.names.keys l.model) l.instances
