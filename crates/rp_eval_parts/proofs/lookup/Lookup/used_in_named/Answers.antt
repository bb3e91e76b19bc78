use Rattle.std.proofs.Common.{rules}
use Rattle.rp_eval_parts.proofs.lookup.Lookup.used_in_named.Goals as goal

pub returns-then-is_empty : goal.returns-then-is_empty
returns-then-is_empty g c below =
    let found = c.used_in_role.ensures below in
    search (rules, found)

pub returns-else-is_empty : goal.returns-else-is_empty
returns-else-is_empty g c below =
    let found = c.used_in_role-else-is_empty.ensures below in
    search (rules, found)
