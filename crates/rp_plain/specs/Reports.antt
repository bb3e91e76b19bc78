-- What is told of a validation: the checks by the names of what they check, and their culprits by their places.
use Rattle.std.specs.Prelude.{ℕ, ◌+◌, List, [], ◌∷◌, map, Option, Some, None, decimal, slice_get}
use Rattle.std.specs.List.{filter_map}
use Rattle.std.specs.Option.{option_and_then, option_map}
use Rattle.ex_types.specs.Checked.{Checked}
use Rattle.ex_tree.specs.declared.expression.Name.{Name}
use Rattle.ex_named.specs.declared.declaration.NamedDomainRule.{NamedDomainRule}
use Rattle.ex_named.specs.declared.declaration.NamedEntity.{NamedEntity}
use Rattle.ex_named.specs.declared.declaration.NamedExplicit.{NamedExplicit}
use Rattle.ex_named.specs.declared.declaration.NamedInverse.{NamedInverse}
use Rattle.ex_named.specs.declared.declaration.NamedUniqueRule.{NamedUniqueRule}
use Rattle.ex_named.specs.declared.reference.AttributePlace.{AttributePlace}
use Rattle.ex_slots.specs.Slots.{declared_by}
use Rattle.rp_population.specs.Populations.{Placed}
use Rattle.rp_positions.specs.Seen.{all_seen_by}
use Rattle.rp_meaning.specs.declared.report.Check.{Check}
use Rattle.rp_meaning.specs.declared.report.Constraint.{Constraint}
use Rattle.rp_meaning.specs.declared.report.Constraint.TheVariants as c
use Rattle.rp_meaning.specs.declared.report.Culprit.{Culprit}
use Rattle.rp_meaning.specs.declared.report.Report.{Report}
use Rattle.rp_meaning.specs.Compiled.{compiled}
use Rattle.rp_meaning.specs.CompiledNames.{joined}
use Rattle.rp_meaning.specs.Report.{report}
use Rattle.rp_plain.specs.declared.reports.CheckKind.{CheckKind}
use Rattle.rp_plain.specs.declared.reports.CheckKind.TheVariants as kind
use Rattle.rp_plain.specs.declared.reports.RuleName.{RuleName}
use Rattle.rp_plain.specs.declared.reports.ToldCheck.{ToldCheck}
use Rattle.rp_plain.specs.declared.reports.ToldCulprit.{ToldCulprit}
use Rattle.rp_plain.specs.declared.reports.ToldReport.{ToldReport}

-- ---- the names of rules

abbrev pub kind_of : Constraint → CheckKind
kind_of c.Unset = kind.Unset
kind_of c.Bounds = kind.Bounds
kind_of c.Reference = kind.Reference
kind_of (c.Type number place) = kind.Type
kind_of (c.Where entity place) = kind.Where
kind_of (c.Unique entity place) = kind.Unique
kind_of (c.Inverse entity place) = kind.Inverse
kind_of (c.Rule number place) = kind.Rule

-- by its label, or by its number in its clause, from 1
abbrev pub label_text : Option Name → ℕ → List ℕ
label_text (Some label) place = label.text
label_text None place = 35 ∷ decimal (place + 1)

-- of the rule at a place of its clause
abbrev pub domain_label : List NamedDomainRule → ℕ → Option (List ℕ)
domain_label rules place = option_map (λ x. label_text x.label place) (slice_get rules place)

abbrev pub unique_label : List NamedUniqueRule → ℕ → Option (List ℕ)
unique_label rules place = option_map (λ x. label_text x.label place) (slice_get rules place)

-- an inverse attribute has a name
abbrev pub inverse_label : List NamedInverse → ℕ → Option (List ℕ)
inverse_label inverse place = option_map (λ x. x.name.text) (slice_get inverse place)

abbrev pub rule_name : Name → List ℕ → RuleName
rule_name of rule = record { of = of.text; rule = rule }

-- what declares it, and its label there
abbrev pub named_rule : Name → Option (List ℕ) → Option RuleName
named_rule of label = option_map (rule_name of) label

abbrev pub attribute_text : NamedEntity → Name × NamedExplicit → List ℕ
attribute_text x d = joined x.name.text d.0.text

module _ (schema : Checked) where
  abbrev pub entity : ℕ → Option NamedEntity
  entity number = slice_get schema.named.schema.entities number

  abbrev pub rule_of : Constraint → Option RuleName
  rule_of c.Unset = None
  rule_of c.Bounds = None
  rule_of c.Reference = None
  rule_of (c.Type number place) = option_and_then (λ x. named_rule x.name (domain_label x.domain_rules place)) (slice_get schema.named.schema.types number)
  rule_of (c.Where number place) = option_and_then (λ x. named_rule x.name (domain_label x.domain_rules place)) (entity number)
  rule_of (c.Unique number place) = option_and_then (λ x. named_rule x.name (unique_label x.unique_rules place)) (entity number)
  rule_of (c.Inverse number place) = option_and_then (λ x. named_rule x.name (inverse_label x.inverse place)) (entity number)
  rule_of (c.Rule number place) = option_and_then (λ x. named_rule x.name (domain_label x.domain_rules place)) (slice_get schema.named.schema.rules number)

  -- ---- culprits

  -- `ENTITY.ATTRIBUTE`, for an explicit attribute of an entity's own
  abbrev pub attribute_name : AttributePlace → Option (List ℕ)
  attribute_name a = option_and_then (λ x. option_map (attribute_text x) (slice_get (declared_by x) a.place)) (entity a.entity)

  abbrev pub culprit_at : Option AttributePlace → Placed → ToldCulprit
  culprit_at a x = record { model = x.place.model; instance = x.place.instance; attribute = option_and_then attribute_name a }

  module _ (xs : List Placed) where
    -- who stands at the position
    abbrev pub told_culprit : Culprit → Option ToldCulprit
    told_culprit x = option_map (culprit_at x.attribute) (slice_get xs x.instance)

    abbrev pub told_culprits : List Culprit → List ToldCulprit
    told_culprits = filter_map told_culprit

    -- ---- the report

    abbrev pub told_check : Check → ToldCheck
    told_check x = record {
      kind = kind_of x.constraint;
      rule = rule_of x.constraint;
      verdict = x.verdict;
      violating = told_culprits x.violating;
      limited = told_culprits x.limited;
      not_run = told_culprits x.not_run;
      unknown = told_culprits x.unknown;
    }

    abbrev pub told_report : Report → ToldReport
    told_report x = record { checks = map told_check x.checks; steps = x.steps }

    -- what is told of this population by the rules of its schema
    abbrev pub validated : ToldReport
    validated = told_report (report (compiled schema) (all_seen_by (compiled schema) schema xs))
