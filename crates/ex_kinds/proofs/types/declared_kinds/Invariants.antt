use Rattle.std.proofs.Common.{◌≡◌, ◌++◌, drop}
use Rattle.plain_data.specs.Numbers.{numbered, numbered_from}
use Rattle.ex_kinds.specs.Types as spec
use Rattle.ex_kinds.proofs.types.declared_kinds.Given as goal

abbrev pub invariant-loop-number : goal.invariant-loop-number
invariant-loop-number l =
    l.found.items ++ numbered_from (λ n x. spec.of_underlying n x.underlying) l.number (drop l.number l.types) ≡ numbered (λ n x. spec.of_underlying n x.underlying) l.types
