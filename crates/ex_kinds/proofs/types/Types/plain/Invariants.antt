use Rattle.std.proofs.Common.{◌≡◌, ◌++◌, drop}
use Rattle.std.specs.List.{flat_map}
use Rattle.ex_kinds.specs.Types as spec
use Rattle.ex_kinds.proofs.types.Types.plain.Given as goal

abbrev pub invariant-loop-kind : goal.invariant-loop-kind
invariant-loop-kind l = l.found ++ flat_map (spec.meanings l.self) (drop l.kind-index l.kinds) ≡ flat_map (spec.meanings l.self) l.kinds
