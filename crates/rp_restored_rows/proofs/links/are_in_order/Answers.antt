use Rattle.std.proofs.Common.{rules}
use Rattle.std.proofs.lemmas.Fn.{always_returns_same}
use Rattle.std.specs.Ordering.{nat_cmp}
use Rattle.rp_rows.specs.Contents.{link_name}
use Rattle.rp_restored_rows.specs.Tests.{follows}
use Rattle.rp_restored_rows.proofs.Orders.{adjacent_is}
use Rattle.rp_restored_rows.proofs.links.are_in_order.Goals as goal

pub returns : goal.returns
returns c = adjacent_is (follows nat_cmp link_name) c.args.links.now c.is_sorted_by.result (c.is_sorted_by.ensures.cases (follows nat_cmp link_name) (always_returns_same _ _ _ (λ a r f called. search rules)))
