use Rattle.std.proofs.Common.{◌≡◌, rules}
use Rattle.std.proofs.lemmas.Map.Keys.{IsStrictlyIncreasing-from_sorted}
use Rattle.graphs.proofs.reached.ascending.Goals as goal

pub returns-clause-rising : goal.returns-clause-rising
returns-clause-rising c =
    let same : c.from_vec.result ≡ c.args.set.keys = search rules in
    rw same (IsStrictlyIncreasing-from_sorted c.args.set.keys c.into_iter.ensures.into_iter_gives.4)
