use Rattle.std.proofs.Common.{◌≡◌, ◌++◌, drop}
use Rattle.std.specs.List.{flat_map}
use Rattle.rp_population.specs.Found.{told_in}
use Rattle.rp_population.proofs.users.push_in.Given as goal

abbrev pub invariant-loop-instance : goal.invariant-loop-instance
invariant-loop-instance l = record {
  layouts : l.layouts ≡ l.initial.layouts;
  places :
      l.found.items ++ flat_map (told_in l.initial.layouts l.attribute l.names.keys l.model) (drop l.instance-index l.instances)
      ≡ l.initial.found.items ++ flat_map (told_in l.initial.layouts l.attribute l.names.keys l.model) l.instances;
}
