use Rattle.rp_rule_laws.proofs.ReportsAttributes.{attributes-once}
use Rattle.rp_rule_laws.proofs.reports.instances_have_attributes_once.Goals as goal

pub returns : goal.returns
returns c = attributes-once
