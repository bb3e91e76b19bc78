use Rattle.std.proofs.Common.{◌≡◌, ℕ, true, None, take}
use Rattle.plain_data.specs.Numbers.{is_among}
use Rattle.ex_subtypes.specs.Nodes.{kept_at}
use Rattle.ex_subtypes.proofs.constraints.are_free.Given as goal

abbrev pub invariant-loop-number : goal.invariant-loop-number
invariant-loop-number l = (n : ℕ) → is_among (take l.number-index l.numbers) n ≡ true → kept_at l.kept n ≡ None
