use Rattle.std.proofs.Common.{rules}
use Rattle.rp_eval_parts.proofs.lookup.Lookup.of_values.Goals as goal

pub returns-in_ok-into-in-len1 : goal.returns-in_ok-into-in-len1
returns-in_ok-into-in-len1 g c below =
    let found = c.of_one.ensures below in
    search (rules, found)
