use Rattle.std.proofs.Common.{rules}
use Rattle.std.proofs.lemmas.List.Sorted.{IsPartitionPoint-from_clause}
use Rattle.ex_attributes.specs.Tables.{is_before}
use Rattle.ex_attributes.proofs.InOrder.{parted}
use Rattle.ex_attributes.proofs.declared_rows.first_not_before.Goals as goal

pub returns-clause-parts : goal.returns-clause-parts
returns-clause-parts c = IsPartitionPoint-from_clause (is_before c.args.place) c.args.rows.now c.partition_point.result c.partition_point.ensures.partitioned (parted c.args.place c.args.rows.now c.requires) (λ a r f called. search rules)
