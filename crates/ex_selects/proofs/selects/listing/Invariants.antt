use Rattle.std.proofs.Common.{◌≡◌, ◌++◌, drop}
use Rattle.plain_data.specs.Numbers.{numbered, numbered_from}
use Rattle.ex_selects.specs.Shared as spec
use Rattle.ex_selects.proofs.selects.listing.Given as goal

abbrev pub invariant-loop-number : goal.invariant-loop-number
invariant-loop-number l =
    l.marks.items ++ numbered_from (λ number x. spec.lists_entity l.types number) l.number (drop l.number l.types)
    ≡ numbered (λ number x. spec.lists_entity l.types number) l.types
