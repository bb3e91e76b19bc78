use Rattle.rp_rule_laws.proofs.OperationsAggregates.{intersection_count}
use Rattle.rp_rule_laws.proofs.operations.intersection_counts.Goals as goal

pub returns : goal.returns
returns c = intersection_count
