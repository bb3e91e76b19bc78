-- The report of a validation: all checks of a population, each with its verdict and culprits, and the steps that they take.
use Rattle.std.specs.Prelude.{ℕ, ◌+◌, ◌==◌, ◌&&◌, not, Bool, true, List, [], ◌∷◌, ◌++◌, map, filter, length, Option, Some, None, slice_get, if◌then◌else◌}
use Rattle.std.specs.List.{list_any, filter_map, flat_map, range_with_len}
use Rattle.std.specs.Option.{option_map_or}
use Rattle.ex_named.specs.declared.reference.AttributePlace.{AttributePlace}
use Rattle.rp_operations.specs.Operations.{is_same}
use Rattle.rp_value.specs.declared.value.Value.{Value}
use Rattle.rp_value.specs.declared.value.Value.TheVariants as v
use Rattle.rp_meaning.specs.declared.report.Check.{Check}
use Rattle.rp_meaning.specs.declared.report.Constraint.{Constraint}
use Rattle.rp_meaning.specs.declared.report.Constraint.TheVariants as c
use Rattle.rp_meaning.specs.declared.report.Culprit.{Culprit}
use Rattle.rp_meaning.specs.declared.report.Report.{Report}
use Rattle.rp_meaning.specs.declared.report.Verdict.TheVariants as verdict
use Rattle.rp_meaning.specs.declared.rule.Rule.{Rule}
use Rattle.rp_meaning.specs.declared.rule.Rule.TheVariants as r
use Rattle.rp_meaning.specs.declared.schema.Schema.{Schema}
use Rattle.rp_meaning.specs.Attributes.{entity_at}
use Rattle.rp_meaning.specs.Bare.{is_indeterminate}
use Rattle.rp_meaning.specs.Expressions.{World}
use Rattle.rp_meaning.specs.Faults.{Held, astray, checked_of, declarations, out_of_bounds, unset}
use Rattle.rp_meaning.specs.Populations.{Instance, places_of}
use Rattle.rp_meaning.specs.Sequence.{Candidate, Checking, Ended, Valued, Result, check_by, check_of, culprits, in_sequence, one, tried, verdict_of}
use Rattle.rp_meaning.specs.TypeRules.{values_tried}

abbrev pub instance_culprit : ℕ → Culprit
instance_culprit place = record { instance = place; attribute = None }

abbrev pub attribute_culprit : Held → Culprit
attribute_culprit h = record { instance = h.place; attribute = Some h.value.attribute }

-- as many places
abbrev pub places : ℕ → List ℕ
places count = range_with_len 0 count

-- ---- UNIQUE

-- an instance with the values of the attributes that a rule of UNIQUE lists
pub record Row : Type 0 where
  pub culprit : Culprit
  pub values : List Value

abbrev pub value_in : Ended → List Value
value_in (Valued x) = x ∷ []
value_in _ = []

abbrev pub is_whole : List Value → ℕ → Bool
is_whole values count = length values == count && not (list_any is_indeterminate values)

-- A row with `?`, or with an attribute that has no value, isn't compared.
abbrev pub row_of : Result → Option Row
row_of result =
    if is_whole (flat_map value_in result.1) (length result.1) then Some (record { culprit = result.0; values = flat_map value_in result.1 }) else None

-- in all attributes, by `:=:`
abbrev pub agree : List Value → List Value → Bool
agree (x ∷ xs) (y ∷ ys) = is_same x y && agree xs ys
agree _ _ = true

abbrev pub agrees : Row → Row → Bool
agrees row other = not (row.culprit.instance == other.culprit.instance) && agree row.values other.values

-- those that agree with another
abbrev pub agreeing : List Row → List Culprit
agreeing rows = map (λ row. row.culprit) (filter (λ row. list_any (agrees row) rows) rows)

abbrev pub unique_by : ℕ → ℕ → List Result → Check
unique_by entity place results =
    check_of (c.Unique entity place) (agreeing (filter_map row_of results)) (culprits verdict.Limit results) (culprits verdict.NotRun results) []

module _ (schema : Schema) (population : List Instance) where
  abbrev pub world : World
  world = record { schema = schema; population = population }

  -- ---- without steps

  abbrev pub attribute_check : Constraint → (Held → Bool) → Check
  attribute_check constraint is_fault = check_of constraint (map attribute_culprit (filter is_fault (checked_of schema population))) [] [] []

  -- ---- by evaluations

  abbrev pub checking : (List Result → Check) → List Candidate → Checking
  checking check candidates used = (check (tried world candidates used).0, (tried world candidates used).1)

  -- each value by itself, and the attribute that has it
  abbrev pub of_attribute : Rule → ℕ → Held → Candidate
  of_attribute rule number h =
      (attribute_culprit h, map (λ x. (rule, x)) (values_tried schema.types population number (map (λ x. x.data_type) (declarations schema h)) h.value.written h.value.read))

  -- an instance by these rules
  abbrev pub of_instance : List Rule → ℕ → Candidate
  of_instance rules place = (instance_culprit place, map (λ rule. (rule, v.Inst place)) rules)

  abbrev pub type_candidates : ℕ → ℕ → List Candidate
  type_candidates number place = map (of_attribute (r.Type number place) number) (checked_of schema population)

  -- the instances of an entity
  abbrev pub candidates_of : ℕ → List Rule → List Candidate
  candidates_of entity rules = map (of_instance rules) (places_of population entity)

  abbrev pub type_check : ℕ → ℕ → Checking
  type_check number place = checking (check_by (c.Type number place)) (type_candidates number place)

  abbrev pub where_check : ℕ → ℕ → Checking
  where_check entity place = checking (check_by (c.Where entity place)) (candidates_of entity (r.Entity entity place ∷ []))

  abbrev pub unique_check : ℕ → ℕ → List AttributePlace → Checking
  unique_check entity place attributes = checking (unique_by entity place) (candidates_of entity (map (r.Unique entity place) (places (length attributes))))

  abbrev pub inverse_check : ℕ → ℕ → Checking
  inverse_check entity place = checking (check_by (c.Inverse entity place)) (candidates_of entity (r.Inverse entity place ∷ []))

  -- its verdict is what is said of its condition, without culprits
  abbrev pub rule_check : ℕ → ℕ → Checking
  rule_check number place used = (
    record {
      constraint = c.Rule number place;
      verdict = verdict_of (one world (r.Global number place, v.Indet) used).0;
      violating = [];
      limited = [];
      not_run = [];
      unknown = [];
    },
    (one world (r.Global number place, v.Indet) used).1,
  )

  -- ---- all, by the names of what declares them and by their places there

  abbrev pub type_checks : ℕ → List Checking
  type_checks number = option_map_or (λ x. map (type_check number) (places (length x.domain_rules))) (slice_get schema.types number) []

  abbrev pub where_checks : ℕ → List Checking
  where_checks entity = option_map_or (λ x. map (where_check entity) (places (length x.domain_rules))) (entity_at schema entity) []

  abbrev pub unique_checks_from : ℕ → ℕ → List (List AttributePlace) → List Checking
  unique_checks_from entity place [] = []
  unique_checks_from entity place (rule ∷ others) = unique_check entity place rule ∷ unique_checks_from entity (place + 1) others

  abbrev pub unique_checks : ℕ → List Checking
  unique_checks entity = option_map_or (λ x. unique_checks_from entity 0 x.unique_rules) (entity_at schema entity) []

  abbrev pub inverse_checks : ℕ → List Checking
  inverse_checks entity = option_map_or (λ x. map (inverse_check entity) (places (length x.inverse))) (entity_at schema entity) []

  abbrev pub rule_checks : ℕ → List Checking
  rule_checks number = option_map_or (λ x. map (rule_check number) (places (length x.domain_rules))) (slice_get schema.rules number) []

  abbrev pub all_evaluated : List Checking
  all_evaluated = flat_map type_checks schema.type_order ++ flat_map where_checks schema.entity_order ++ flat_map unique_checks schema.entity_order
      ++ flat_map inverse_checks schema.entity_order ++ flat_map rule_checks schema.rule_order

  abbrev pub attribute_checks : List Check
  attribute_checks = attribute_check c.Unset (unset schema) ∷ attribute_check c.Bounds (out_of_bounds schema population) ∷ attribute_check c.Reference (astray schema population) ∷ []

  unfoldable pub report : Report
  report = record {
    checks = attribute_checks ++ (in_sequence all_evaluated 0).0;
    steps = (in_sequence all_evaluated 0).1;
  }
