use Rattle.std.proofs.Common.{rules}
use Rattle.std.proofs.lemmas.List.Sorted.{IsPartitionPoint-from_clause}
use Rattle.name_tables.specs.Order.{is_before}
use Rattle.name_tables.proofs.Ranks.{parted}
use Rattle.name_tables.proofs.order.first_not_before.Goals as goal

pub returns-clause-parts : goal.returns-clause-parts
returns-clause-parts c = IsPartitionPoint-from_clause (is_before c.args.name.now) c.args.rows.now c.partition_point.result c.partition_point.ensures.partitioned (parted c.args.name.now c.args.rows.now c.requires) (λ a r f called. search rules)
