-- What laws of reports say: which entries a report has, and in which order culprits stand in its lists.
use Rattle.std.specs.Prelude.{◌≡◌, ◌≢◌, ◌⊎◌, ℕ, ◌+◌, ◌<◌, ◌==◌, ◌&&◌, Bool, true, false, List, map, length, nat_lt, All, AllPairs, Some, slice_get}
use Rattle.std.specs.List.{range_with_len, sum_by}
use Rattle.std.specs.List.Sorted.{IsPermutation}
use Rattle.std.specs.Option.{option_map_or}
use Rattle.ex_named.specs.declared.declaration.NamedSchema.{NamedSchema}
use Rattle.ex_named.specs.declared.reference.AttributePlace.{AttributePlace}
use Rattle.rp_meaning.specs.Populations.{Instance}
use Rattle.rp_meaning.specs.declared.report.Check.{Check}
use Rattle.rp_meaning.specs.declared.report.Constraint.{Constraint}
use Rattle.rp_meaning.specs.declared.report.Constraint.TheVariants as c
use Rattle.rp_meaning.specs.declared.report.Culprit.{Culprit}
use Rattle.rp_meaning.specs.declared.report.Report.{Report}
use Rattle.rp_meaning.specs.declared.schema.Schema.{Schema}

-- ---- entries

abbrev pub constraints : Report → List Constraint
constraints x = map (λ check. check.constraint) x.checks

abbrev pub same_constraint : Constraint → Constraint → Bool
same_constraint c.Unset c.Unset = true
same_constraint c.Bounds c.Bounds = true
same_constraint c.Reference c.Reference = true
same_constraint (c.Type number place) (c.Type other at) = (number == other) && (place == at)
same_constraint (c.Where number place) (c.Where other at) = (number == other) && (place == at)
same_constraint (c.Unique number place) (c.Unique other at) = (number == other) && (place == at)
same_constraint (c.Inverse number place) (c.Inverse other at) = (number == other) && (place == at)
same_constraint (c.Rule number place) (c.Rule other at) = (number == other) && (place == at)
same_constraint _ _ = false

module _ (schema : Schema) where
  -- whether it is one of the three checks of values or a rule that the schema has
  abbrev pub is_entry : Constraint → Bool
  is_entry c.Unset = true
  is_entry c.Bounds = true
  is_entry c.Reference = true
  is_entry (c.Type number place) = option_map_or (λ x. nat_lt place (length x.domain_rules)) (slice_get schema.types number) false
  is_entry (c.Where number place) = option_map_or (λ x. nat_lt place (length x.domain_rules)) (slice_get schema.entities number) false
  is_entry (c.Unique number place) = option_map_or (λ x. nat_lt place (length x.unique_rules)) (slice_get schema.entities number) false
  is_entry (c.Inverse number place) = option_map_or (λ x. nat_lt place (length x.inverse)) (slice_get schema.entities number) false
  is_entry (c.Rule number place) = option_map_or (λ x. nat_lt place (length x.domain_rules)) (slice_get schema.rules number) false

  -- how many rules it has
  abbrev pub count_of_rules : ℕ
  count_of_rules = sum_by (λ x. length x.domain_rules) schema.types
      + sum_by (λ x. length x.domain_rules + length x.unique_rules + length x.inverse) schema.entities
      + sum_by (λ x. length x.domain_rules) schema.rules

-- how many rules are declared: conditions in WHERE clauses, rules of UNIQUE clauses and inverse attributes
abbrev pub declared_rules : NamedSchema → ℕ
declared_rules schema = sum_by (λ x. length x.domain_rules) schema.types
    + sum_by (λ x. length x.domain_rules + length x.unique_rules + length x.inverse) schema.entities
    + sum_by (λ x. length x.domain_rules) schema.rules

-- all numbers below this one, each once
abbrev pub AreAllBelow : ℕ → List ℕ → Type 0
AreAllBelow count numbers = IsPermutation (range_with_len 0 count) numbers

-- each order names everything that it is of, once
pub record HasOrders (schema : Schema) : Type 0 where
  pub types : AreAllBelow (length schema.types) schema.type_order
  pub entities : AreAllBelow (length schema.entities) schema.entity_order
  pub rules : AreAllBelow (length schema.rules) schema.rule_order

-- ---- culprits

-- of a check, in each of its lists
pub record InEachList (P : List Culprit → Type 0) (check : Check) : Type 0 where
  pub violating : P check.violating
  pub limited : P check.limited
  pub not_run : P check.not_run
  pub unknown : P check.unknown

-- whether values of attributes are checked, and not instances or the whole population
abbrev pub is_of_values : Constraint → Bool
is_of_values c.Unset = true
is_of_values c.Bounds = true
is_of_values c.Reference = true
is_of_values (c.Type number place) = true
is_of_values _ = false

-- of several attributes of an instance, one that stands before another
pub record StandsBefore (i : Instance) (a b : AttributePlace) : Type 0 where
  pub first : ℕ
  pub second : ℕ
  pub order : first < second
  pub is_first : slice_get (map (λ x. x.attribute) i.values) first ≡ Some a
  pub is_second : slice_get (map (λ x. x.attribute) i.values) second ≡ Some b

module _ (population : List Instance) where
  -- two culprits in one instance of the population, whose attributes stand in this order
  pub record PrecedesWithin (x y : Culprit) : Type 0 where
    pub instance : Instance
    pub is_first : slice_get population x.instance ≡ Some instance
    pub same : y.instance ≡ x.instance
    pub first : AttributePlace
    pub second : AttributePlace
    pub has_first : x.attribute ≡ Some first
    pub has_second : y.attribute ≡ Some second
    pub order : StandsBefore instance first second

  -- in the order of the instances, and then of the attributes that an instance has
  abbrev pub Precedes : Culprit → Culprit → Type 0
  Precedes x y = (x.instance < y.instance) ⊎ PrecedesWithin x y

  abbrev pub HaveAttributesOnce : Type 0
  HaveAttributesOnce = All (λ (i : Instance). AllPairs (λ x y. x.attribute ≢ y.attribute) i.values) population
