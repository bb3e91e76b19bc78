use Rattle.std.proofs.Common.{ap, ◌∙◌}
use Rattle.std.specs.List.{count_by}
use Rattle.rp_rule_laws.specs.Reports.{is_entry, same_constraint}
use Rattle.rp_rule_laws.proofs.ReportsEntries.{count-of, each-by, entries-of, one-is, same-entries}
use Rattle.rp_rule_laws.proofs.reports.each_rule_has_an_entry.Goals as goal

pub returns-clause-each : goal.returns-clause-each
returns-clause-each c schema population x orders = ap (count_by (same_constraint x)) (entries-of schema population) ∙ each-by schema orders x ∙ one-is (is_entry schema x)

pub returns-clause-count : goal.returns-clause-count
returns-clause-count c = count-of

pub returns-clause-same : goal.returns-clause-same
returns-clause-same c = same-entries
