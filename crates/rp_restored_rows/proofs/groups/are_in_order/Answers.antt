use Rattle.std.proofs.Common.{rules}
use Rattle.std.proofs.lemmas.Fn.{always_returns_same}
use Rattle.rp_rows.specs.Listings.{itself}
use Rattle.rp_rows.specs.Rows.{key_cmp}
use Rattle.rp_restored_rows.specs.Tests.{follows}
use Rattle.rp_restored_rows.proofs.Orders.{adjacent_is}
use Rattle.rp_restored_rows.proofs.groups.are_in_order.Goals as goal

pub returns : goal.returns
returns c = adjacent_is (follows key_cmp itself) c.args.members.now c.is_sorted_by.result (c.is_sorted_by.ensures.cases (follows key_cmp itself) (always_returns_same _ _ _ (λ a r f called. search rules)))
