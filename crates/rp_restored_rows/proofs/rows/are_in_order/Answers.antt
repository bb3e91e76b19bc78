use Rattle.std.proofs.Common.{rules}
use Rattle.std.proofs.lemmas.Fn.{always_returns_same}
use Rattle.rp_rows.specs.Rows.{text_cmp, grant_key}
use Rattle.rp_restored_rows.specs.Tests.{follows}
use Rattle.rp_restored_rows.proofs.Orders.{adjacent_is}
use Rattle.rp_restored_rows.proofs.rows.are_in_order.Goals as goal

pub returns : goal.returns
returns c = adjacent_is (follows text_cmp grant_key) c.args.grants.now c.is_sorted_by.result (c.is_sorted_by.ensures.cases (follows text_cmp grant_key) (always_returns_same _ _ _ (λ a r f called. search rules)))
