use Rattle.std.proofs.Common.{◌≡◌, rules}
use Rattle.std.proofs.lemmas.Map.Keys.{IsStrictlyIncreasing-from_sorted}
use Rattle.ex_subtypes.proofs.sets.ascending.Goals as goal

pub returns-clause-rising : goal.returns-clause-rising
returns-clause-rising c =
    let same : c.in_ok-numbers.numbers.items ≡ c.args.set.keys = search rules in
    rw same (IsStrictlyIncreasing-from_sorted c.args.set.keys c.into_iter.ensures.into_iter_gives.4)
