use Rattle.std.proofs.Common.{◌≡◌, drop}
use Rattle.std.specs.List.{list_all}
use Rattle.ex_resolve.specs.Proved.{is_type_identified}
use Rattle.ex_resolve.proofs.identifiers.types.Given as goal

abbrev pub invariant-loop-declared : goal.invariant-loop-declared
invariant-loop-declared l = list_all is_type_identified (drop l.declared-index l.types) ≡ list_all is_type_identified l.types
