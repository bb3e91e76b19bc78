use Rattle.rp_rule_laws.proofs.OperationsAggregates.{difference_count}
use Rattle.rp_rule_laws.proofs.operations.difference_counts.Goals as goal

pub returns : goal.returns
returns c = difference_count
