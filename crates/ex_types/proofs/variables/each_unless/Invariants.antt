use Rattle.std.proofs.Common.{◌≡◌, drop}
use Rattle.ex_types.specs.Declarations as spec
use Rattle.ex_typing_statements.specs.Statements.{assign_unless}
use Rattle.ex_types.proofs.variables.each_unless.Given as goal

abbrev pub invariant-loop-name : goal.invariant-loop-name
invariant-loop-name l = spec.told_after (λ n. assign_unless l.fine n.at) l.found (drop l.name-index l.names) ≡ spec.told (λ n. assign_unless l.fine n.at) l.names
