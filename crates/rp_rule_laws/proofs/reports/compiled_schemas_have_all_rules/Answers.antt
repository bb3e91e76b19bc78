use Rattle.rp_rule_laws.proofs.ReportsOrders.{compiled-orders, compiled-rules}
use Rattle.rp_rule_laws.proofs.reports.compiled_schemas_have_all_rules.Goals as goal

pub returns-clause-orders : goal.returns-clause-orders
returns-clause-orders c = compiled-orders

pub returns-clause-count : goal.returns-clause-count
returns-clause-count c = compiled-rules
