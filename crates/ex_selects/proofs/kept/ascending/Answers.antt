use Rattle.std.proofs.Common.{◌≡◌, rules}
use Rattle.ex_selects.proofs.kept.ascending.Goals as goal

pub returns-clause-ascend : goal.returns-clause-ascend
returns-clause-ascend c =
    let same : c.in_ok-found.found.items ≡ c.args.numbers.keys = search rules in
    rw same c.into_iter.ensures.into_iter_gives.4
