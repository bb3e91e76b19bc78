-- No validation takes more steps than it may.
use Rattle.std.proofs.Common.{◌≡◌, ℕ, ◌+◌, ◌-◌, ◌≤◌, Bool, true, false, List, [], ◌∷◌, ◌++◌, map, length, Option, Some, None, slice_get, refl, arith, nat_le}
use Rattle.std.proofs.lemmas.Bool.Decides.{nat_tests}
use Rattle.std.specs.List.{flat_map, AllByRecursion}
use Rattle.ex_named.specs.declared.reference.AttributePlace.{AttributePlace}
use Rattle.rp_value.specs.declared.value.Value.{Value}
use Rattle.rp_value.specs.declared.value.Value.TheVariants as v
use Rattle.rp_meaning.specs.declared.counter.Counter.{Counter}
use Rattle.rp_meaning.specs.declared.outcome.Outcome.{Outcome}
use Rattle.rp_meaning.specs.declared.outcome.Outcome.TheVariants as o
use Rattle.rp_meaning.specs.declared.report.Check.{Check}
use Rattle.rp_meaning.specs.declared.rule.Rule.{Rule}
use Rattle.rp_meaning.specs.declared.rule.Rule.TheVariants as r
use Rattle.rp_meaning.specs.declared.schema.DefinedType.{DefinedType}
use Rattle.rp_meaning.specs.declared.schema.Entity.{Entity}
use Rattle.rp_meaning.specs.declared.schema.GlobalRule.{GlobalRule}
use Rattle.rp_meaning.specs.declared.schema.Schema.{Schema}
use Rattle.rp_meaning.specs.Attributes.{entity_at}
use Rattle.rp_meaning.specs.Expressions.{World}
use Rattle.rp_meaning.specs.Outcomes.{outcome, outcome_of}
use Rattle.rp_meaning.specs.Populations.{Instance}
use Rattle.rp_meaning.specs.Report as spec
use Rattle.rp_meaning.specs.Sequence.{Candidate, Checking, Ended, Result, Trial, ended, one, each_after, all_after, in_sequence_after}

within : (limit steps : ℕ) (x : Value) (p : Option (Value × Counter)) → outcome_of limit p ≡ o.Value x steps → steps ≤ limit
within limit steps x None h = absurd (cc)
within limit steps x (Some p) h = let e : limit - p.1.left ≡ steps = cc in omega (arith, e)

pub outcome_within : (world : World) (rule : Rule) (itself x : Value) (limit steps : ℕ) → outcome world rule itself limit ≡ o.Value x steps → steps ≤ limit
unfolding outcome
outcome_within world rule itself x limit steps h = within limit steps x _ h

abbrev IsWithin : ℕ → Type 0
IsWithin used = used ≤ 20000000

module _ (world : World) where
  ended-within : (trial : Trial) (found : Outcome) (used : ℕ) → outcome world trial.0 trial.1 200000 ≡ found → used ≤ 19800000 → IsWithin (ended found used).1
  ended-within trial (o.Value x steps) used e h = let few = outcome_within world trial.0 trial.1 x 200000 steps e in omega (arith, few, h)
  ended-within trial o.Limit used e h = omega (arith, h)

  one-by : (trial : Trial) (used : ℕ) (begins : Bool) → nat_le used 19800000 ≡ begins → IsWithin used → IsWithin (one world trial used).1
  one-by trial used true e h = rw e (ended-within trial _ used refl (grind (arith, nat_tests, e)))
  one-by trial used false e h = rw e h

  pub one-within : (trial : Trial) (used : ℕ) → IsWithin used → IsWithin (one world trial used).1
  one-within trial used h = one-by trial used (nat_le used 19800000) refl h

  each-within : (found : List Ended) (trials : List Trial) (used : ℕ) → IsWithin used → IsWithin (each_after world found trials used).1
  each-within found [] used h = h
  each-within found (trial ∷ others) used h = each-within (found ++ (one world trial used).0 ∷ []) others (one world trial used).1 (one-within trial used h)

  all-within : (found : List Result) (candidates : List Candidate) (used : ℕ) → IsWithin used → IsWithin (all_after world found candidates used).1
  all-within found [] used h = h
  all-within found (x ∷ others) used h = all-within (found ++ (x.0, (each_after world [] x.1 used).0) ∷ []) others (each_after world [] x.1 used).1 (each-within [] x.1 used h)

-- ---- checks

abbrev KeepsWithin : Checking → Type 0
KeepsWithin x = (used : ℕ) → IsWithin used → IsWithin (x used).1

sequence-within : (found : List Check) (checks : List Checking) → AllByRecursion KeepsWithin checks → (used : ℕ) → IsWithin used → IsWithin (in_sequence_after found checks used).1
sequence-within found [] all used h = h
sequence-within found (x ∷ others) all used h = sequence-within (found ++ (x used).0 ∷ []) others all.1 (x used).1 (all.0 used h)

of-append : (xs ys : List Checking) → AllByRecursion KeepsWithin xs → AllByRecursion KeepsWithin ys → AllByRecursion KeepsWithin (xs ++ ys)
of-append [] ys a b = b
of-append (x ∷ xs) ys a b = (a.0, of-append xs ys a.1 b)

of-map : {A : Type 0} (f : A → Checking) (xs : List A) → ((x : A) → KeepsWithin (f x)) → AllByRecursion KeepsWithin (map f xs)
of-map f [] keeps = tt
of-map f (x ∷ xs) keeps = (keeps x, of-map f xs keeps)

of-flat_map : {A : Type 0} (f : A → List Checking) (xs : List A) → ((x : A) → AllByRecursion KeepsWithin (f x)) → AllByRecursion KeepsWithin (flat_map f xs)
of-flat_map f [] keep = tt
of-flat_map f (x ∷ xs) keep = of-append (f x) (flat_map f xs) (keep x) (of-flat_map f xs keep)

module _ (schema : Schema) (population : List Instance) where
  type_check-within : (number place : ℕ) → KeepsWithin (spec.type_check schema population number place)
  type_check-within number place used h = all-within (spec.world schema population) [] (spec.type_candidates schema population number place) used h

  where_check-within : (entity place : ℕ) → KeepsWithin (spec.where_check schema population entity place)
  where_check-within entity place used h = all-within (spec.world schema population) [] (spec.candidates_of schema population entity (r.Entity entity place ∷ [])) used h

  unique_check-within : (entity place : ℕ) (attributes : List AttributePlace) → KeepsWithin (spec.unique_check schema population entity place attributes)
  unique_check-within entity place attributes used h = all-within (spec.world schema population) [] (spec.candidates_of schema population entity (map (r.Unique entity place) (spec.places (length attributes)))) used h

  inverse_check-within : (entity place : ℕ) → KeepsWithin (spec.inverse_check schema population entity place)
  inverse_check-within entity place used h = all-within (spec.world schema population) [] (spec.candidates_of schema population entity (r.Inverse entity place ∷ [])) used h

  rule_check-within : (number place : ℕ) → KeepsWithin (spec.rule_check schema population number place)
  rule_check-within number place used h = one-within (spec.world schema population) (r.Global number place, v.Indet) used h

  type-within : (number : ℕ) (o : Option DefinedType) → slice_get schema.types number ≡ o → AllByRecursion KeepsWithin (spec.type_checks schema population number)
  type-within number None e = rw e tt
  type-within number (Some x) e = rw e (of-map (spec.type_check schema population number) _ (type_check-within number))

  where-within : (entity : ℕ) (o : Option Entity) → entity_at schema entity ≡ o → AllByRecursion KeepsWithin (spec.where_checks schema population entity)
  where-within entity None e = rw e tt
  where-within entity (Some x) e = rw e (of-map (spec.where_check schema population entity) _ (where_check-within entity))

  rules-within : (entity place : ℕ) (rules : List (List AttributePlace)) → AllByRecursion KeepsWithin (spec.unique_checks_from schema population entity place rules)
  rules-within entity place [] = tt
  rules-within entity place (rule ∷ others) = (unique_check-within entity place rule, rules-within entity (place + 1) others)

  unique-within : (entity : ℕ) (o : Option Entity) → entity_at schema entity ≡ o → AllByRecursion KeepsWithin (spec.unique_checks schema population entity)
  unique-within entity None e = rw e tt
  unique-within entity (Some x) e = rw e (rules-within entity 0 x.unique_rules)

  inverse-within : (entity : ℕ) (o : Option Entity) → entity_at schema entity ≡ o → AllByRecursion KeepsWithin (spec.inverse_checks schema population entity)
  inverse-within entity None e = rw e tt
  inverse-within entity (Some x) e = rw e (of-map (spec.inverse_check schema population entity) _ (inverse_check-within entity))

  rule-within : (number : ℕ) (o : Option GlobalRule) → slice_get schema.rules number ≡ o → AllByRecursion KeepsWithin (spec.rule_checks schema population number)
  rule-within number None e = rw e tt
  rule-within number (Some x) e = rw e (of-map (spec.rule_check schema population number) _ (rule_check-within number))

  all-evaluated : AllByRecursion KeepsWithin (spec.all_evaluated schema population)
  all-evaluated =
      of-append _ _ (of-append _ _ (of-append _ _ (of-append _ _
      (of-flat_map (spec.type_checks schema population) schema.type_order (λ n. type-within n _ refl))
      (of-flat_map (spec.where_checks schema population) schema.entity_order (λ n. where-within n _ refl)))
      (of-flat_map (spec.unique_checks schema population) schema.entity_order (λ n. unique-within n _ refl)))
      (of-flat_map (spec.inverse_checks schema population) schema.entity_order (λ n. inverse-within n _ refl)))
      (of-flat_map (spec.rule_checks schema population) schema.rule_order (λ n. rule-within n _ refl))

  pub report-within : (spec.report schema population).steps ≤ 20000000
  unfolding spec.report
  report-within = sequence-within [] _ all-evaluated 0 (omega arith)
