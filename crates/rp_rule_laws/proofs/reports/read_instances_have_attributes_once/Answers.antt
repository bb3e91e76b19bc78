use Rattle.rp_rule_laws.proofs.ReportsRead.{population-once, read-culprits-once}
use Rattle.rp_rule_laws.proofs.reports.read_instances_have_attributes_once.Goals as goal

pub returns-clause-attributes : goal.returns-clause-attributes
returns-clause-attributes c = population-once

pub returns-clause-culprits : goal.returns-clause-culprits
returns-clause-culprits c = read-culprits-once
