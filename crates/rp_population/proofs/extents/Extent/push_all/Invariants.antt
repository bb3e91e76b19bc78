use Rattle.std.proofs.Common.{◌≡◌, ◌++◌, drop}
use Rattle.std.specs.List.{flat_map}
use Rattle.rp_population.specs.Candidates.{found_in}
use Rattle.rp_population.proofs.extents.Extent.push_all.Given as goal

abbrev pub invariant-loop-instance : goal.invariant-loop-instance
invariant-loop-instance l = record {
  same : l.self ≡ l.initial.self;
  places :
      l.found.items ++ flat_map (found_in l.initial.self.schema l.initial.self.entity l.model) (drop l.instance-index l.instances)
      ≡ l.initial.found.items ++ flat_map (found_in l.initial.self.schema l.initial.self.entity l.model) l.instances;
}
