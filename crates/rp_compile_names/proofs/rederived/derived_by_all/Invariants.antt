use Rattle.std.proofs.Common.{◌≡◌, drop, ◌++◌}
use Rattle.std.specs.List.{flat_map}
use Rattle.rp_compile_names.specs.Found as found
use Rattle.rp_compile_names.proofs.rederived.derived_by_all.Given as goal

abbrev pub invariant-loop-number : goal.invariant-loop-number
invariant-loop-number l = l.found.items ++ flat_map (found.rederived_by l.entities) (drop l.number-index l.numbers) ≡ flat_map (found.rederived_by l.entities) l.numbers
