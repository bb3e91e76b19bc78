use Rattle.rp_rule_laws.proofs.ReportsCulprits.{culprits-inside, culprits-named, culprits-once, culprits-ordered, instances-ascend}
use Rattle.rp_rule_laws.proofs.reports.culprits_are_in_order.Goals as goal

pub returns-clause-order : goal.returns-clause-order
returns-clause-order c = λ schema population. culprits-ordered population schema

pub returns-clause-inside : goal.returns-clause-inside
returns-clause-inside c = λ schema population. culprits-inside population schema

pub returns-clause-attributes : goal.returns-clause-attributes
returns-clause-attributes c = λ schema population. culprits-named population schema

pub returns-clause-instances : goal.returns-clause-instances
returns-clause-instances c = λ schema population. instances-ascend population schema

pub returns-clause-once : goal.returns-clause-once
returns-clause-once c = λ schema population once. culprits-once population schema once
