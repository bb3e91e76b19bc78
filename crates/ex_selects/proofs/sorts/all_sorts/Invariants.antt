use Rattle.std.proofs.Common.{◌≡◌, ◌++◌, drop}
use Rattle.plain_data.specs.Numbers.{numbered, numbered_from}
use Rattle.ex_selects.specs.Sorts.{sort_of}
use Rattle.ex_selects.proofs.sorts.all_sorts.Given as goal

abbrev pub invariant-loop-number : goal.invariant-loop-number
invariant-loop-number l =
    l.sorts.items ++ numbered_from (λ number x. sort_of l.types number) l.number (drop l.number l.types) ≡ numbered (λ number x. sort_of l.types number) l.types
