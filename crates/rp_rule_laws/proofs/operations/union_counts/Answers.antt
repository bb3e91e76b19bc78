use Rattle.rp_rule_laws.proofs.OperationsAggregates.{joined_union, set_union_of, once_united}
use Rattle.rp_rule_laws.proofs.operations.union_counts.Goals as goal

pub returns-clause-joined : goal.returns-clause-joined
returns-clause-joined c = joined_union

pub returns-clause-set : goal.returns-clause-set
returns-clause-set c = set_union_of

pub returns-clause-once : goal.returns-clause-once
returns-clause-once c = once_united
