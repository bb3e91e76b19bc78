use Rattle.rp_rule_laws.proofs.OperationsAggregates.{nested_where, apart_where}
use Rattle.rp_rule_laws.proofs.operations.is_within_counts.Goals as goal

pub returns-clause-is_true : goal.returns-clause-is_true
returns-clause-is_true c = nested_where

pub returns-clause-is_false : goal.returns-clause-is_false
returns-clause-is_false c = apart_where
