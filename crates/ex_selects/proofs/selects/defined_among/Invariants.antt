use Rattle.std.proofs.Common.{◌≡◌, ◌++◌, map, drop}
use Rattle.std.specs.List.{filter_map}
use Rattle.ex_selects.specs.Ends as ends
use Rattle.ex_selects.specs.Shared as spec
use Rattle.ex_selects.proofs.selects.defined_among.Given as goal

abbrev pub invariant-loop-name : goal.invariant-loop-name
invariant-loop-name l =
    l.found ++ map (spec.unrenamed l.types) (filter_map ends.defined (drop l.name-index l.members)) ≡ map (spec.unrenamed l.types) (filter_map ends.defined l.members)
