use Rattle.std.proofs.Common.{sym}
use Rattle.rp_group_domain.specs.Models.{named_at}
use Rattle.rp_group_domain.proofs.Positioning.{positioned-aggregate}
use Rattle.rp_group_domain.proofs.positions.+positioned.Goals as goal

pub positioned-returns-in-Agg : goal.positioned-returns-in-Agg
positioned-returns-in-Agg t c = rw (sym (positioned-aggregate (named_at c.args.names.now) c.args.value.now c.in-Agg.kind c.in-Agg.elements c.in-Agg.is)) at c.positioned_aggregate.ensures

pub positioned-returns-then-not-has_reference : goal.positioned-returns-then-not-has_reference
positioned-returns-then-not-has_reference t c = rw (sym (c.has_reference.ensures c.if-not-has_reference.true (named_at c.args.names.now))) at c.copy.ensures
