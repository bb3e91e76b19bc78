use Rattle.std.proofs.Common.{◌≡◌, ◌++◌}
use Rattle.std.specs.List.{flat_map}
use Rattle.rp_index.specs.Told.{told_of}
use Rattle.rp_population.specs.Found.{told_in_all}
use Rattle.rp_population.proofs.users.push_each_in_all.Given as goal

abbrev pub invariant-loop-name : goal.invariant-loop-name
invariant-loop-name l =
    l.found.items ++ flat_map (told_of (told_in_all l.names.keys l.model) l.instances) l.name-iterator
    ≡ l.initial.found.items ++ flat_map (told_of (told_in_all l.names.keys l.model) l.instances) l.candidates.keys
