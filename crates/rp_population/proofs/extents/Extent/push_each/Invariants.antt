use Rattle.std.proofs.Common.{◌≡◌, ◌++◌}
use Rattle.std.specs.List.{flat_map}
use Rattle.rp_index.specs.Told.{told_of}
use Rattle.rp_population.specs.Candidates.{found_in}
use Rattle.rp_population.proofs.extents.Extent.push_each.Given as goal

abbrev pub invariant-loop-name : goal.invariant-loop-name
invariant-loop-name l = record {
  same : l.self ≡ l.initial.self;
  places :
      l.found.items ++ flat_map (told_of (found_in l.initial.self.schema l.initial.self.entity l.model) l.instances) l.name-iterator
      ≡ l.initial.found.items ++ flat_map (told_of (found_in l.initial.self.schema l.initial.self.entity l.model) l.instances) l.candidates.keys;
}
