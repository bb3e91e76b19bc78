-- Where a plan tells that nothing in an attribute may be tried, it changes nothing.
use Rattle.std.proofs.Common.{◌≡◌, ℕ, Bool, true, false, ◌&&◌, ◌||◌, List, [], ◌∷◌, map, Option, Some, None, is_some, slice_get, refl, ap, ◌∙◌, append-nil}
use Rattle.std.specs.List.{list_any}
use Rattle.std.specs.Option.{option_map_or}
use Rattle.ex_named.specs.declared.reference.AttributePlace.{AttributePlace}
use Rattle.rp_faults.specs.Declarations.{declared_types}
use Rattle.rp_meaning.specs.declared.report.Culprit.{Culprit}
use Rattle.rp_meaning.specs.declared.rule.Rule.TheVariants as r
use Rattle.rp_meaning.specs.declared.schema.Schema.{Schema}
use Rattle.rp_meaning.specs.Bare.{carried}
use Rattle.rp_meaning.specs.Expressions.{World}
use Rattle.rp_meaning.specs.Faults.{Held, is_checked}
use Rattle.rp_meaning.specs.Populations.{Instance, Stored}
use Rattle.rp_meaning.specs.Report.{attribute_culprit}
use Rattle.rp_meaning.specs.Sequence.{Candidate}
use Rattle.rp_meaning.specs.TypeRules.{values_tried}
use Rattle.rp_rules.specs.declared.culprits.Culprits.{Culprits}
use Rattle.rp_rules.specs.declared.plan.Plan.{Plan}
use Rattle.rp_rules.specs.declared.plan.Tryable.{Tryable}
use Rattle.rp_rules.specs.Endings.{verdicts_of}
use Rattle.rp_rules.specs.Layouts.{attributes_at}
use Rattle.rp_rules.specs.Plan as plan
use Rattle.rp_rules.specs.Tallies.{tallied, with_culprit}
use Rattle.rp_rules.specs.TypeTallies.{candidates_at, candidates_by, candidates_in}
use Rattle.rp_rules.proofs.TypeTallies.{by-checked, by-unchecked, candidates-append, tallied-append}
use Rattle.rp_rules.proofs.Untried.{on-neither, or-left, or-right, values-none}
use Rattle.rp_value.specs.declared.value.Value.{Value}

with-none : (found : Culprits) (culprit : Culprit) → with_culprit found culprit (verdicts_of []) ≡ found
with-none found culprit = λ i. record {
  violating = append-nil found.violating i;
  limited = append-nil found.limited i;
  not_run = append-nil found.not_run i;
  unknown = append-nil found.unknown i;
}

module _ (schema : Schema) (population : List Instance) (number place : ℕ) (world : World) (found : Culprits) (used at : ℕ) (i : Instance) (a : AttributePlace) (x y : Value) where
  abbrev held : Held
  held = record { place = at; instance = i; value = record { attribute = a; written = x; read = y } }

  nothing-tallied : (b : Bool) → is_checked schema held ≡ b → values_tried schema.types population number (declared_types schema i.entities a) x y ≡ []
      → tallied world found (candidates_by schema population number place at i a x y) used ≡ (found, used)
  nothing-tallied false is none = ap (λ (cs : List Candidate). tallied world found cs used) (by-unchecked schema population number place at i a x y is)
  nothing-tallied true is none =
      ap (λ (cs : List Candidate). tallied world found cs used) (by-checked schema population number place at i a x y is)
      ∙ ap (λ (zs : List Value). tallied world found ((attribute_culprit held, map (λ z. (r.Type number place, z)) zs) ∷ []) used) none
      ∙ ap (λ (cs : Culprits). (cs, used)) (with-none found (attribute_culprit held))

  pub untried-tallied : (p : Plan) → plan.Tells schema number p → plan.may_have p a x ≡ false
      → tallied world found (candidates_by schema population number place at i a x y) used ≡ (found, used)
  untried-tallied p tells none =
      let silent : list_any (plan.may_stand schema.types number 8 (is_some (carried x))) (declared_types schema i.entities a) ≡ false =
      tells a i.entities (is_some (carried x)) (on-neither (plan.tryable_at p a) (is_some (carried x)) none) in
      nothing-tallied (is_checked schema held) refl (values-none schema.types population number x y 8 (is_some (carried x)) (declared_types schema i.entities a) (λ is. is) silent)

pub ruleset untried = (untried-tallied)

-- ---- in an instance

neither : (a b c : Bool) → (a || b) ≡ false → (a || b && c) ≡ false
neither true b c none = none
neither false true c none = absurd (cc)
neither false false c none = refl

module _ (schema : Schema) (population : List Instance) (number place : ℕ) (world : World) (found : Culprits) (used at : ℕ) (p : Plan) (tells : plan.Tells schema number p) where
  abbrev held_by : Instance → Stored → Held
  held_by i x = record { place = at; instance = i; value = x }

  one-skipped : (i : Instance) (x : Stored) → plan.may_be_tried (plan.tryable_at p x.attribute) ≡ false
      → tallied world found (candidates_by schema population number place at i x.attribute x.written x.read) used ≡ (found, used)
  one-skipped i x none =
      let q : Tryable = plan.tryable_at p x.attribute in
      untried-tallied schema population number place world found used at i x.attribute x.written x.read p tells (neither q.bare q.named (is_some (carried x.written)) none)

  values-skipped : (i : Instance) (values : List Stored) → plan.may_have_any p (map (λ (x : Stored). x.attribute) values) ≡ false
      → tallied world found (candidates_in schema population number place at i values) used ≡ (found, used)
  values-skipped i [] none = refl
  values-skipped i (x ∷ values) none =
      let others : List Candidate = candidates_in schema population number place at i values in
      let first = or-left (plan.may_be_tried (plan.tryable_at p x.attribute)) (plan.may_have_any p (map (λ (x : Stored). x.attribute) values)) none in
      let more = or-right (plan.may_be_tried (plan.tryable_at p x.attribute)) (plan.may_have_any p (map (λ (x : Stored). x.attribute) values)) none in
      ap (λ (cs : List Candidate). tallied world found cs used) (candidates-append schema population number place (held_by i x ∷ []) (map (held_by i) values))
      ∙ tallied-append world found (candidates_by schema population number place at i x.attribute x.written x.read) others used
      ∙ (λ k. tallied world (one-skipped i x first k).0 others (one-skipped i x first k).1)
      ∙ values-skipped i values more

  skipped-by : (o : Option Instance) → plan.may_have_any p (option_map_or (λ (i : Instance). map (λ (x : Stored). x.attribute) i.values) o []) ≡ false
      → tallied world found (option_map_or (λ (i : Instance). candidates_in schema population number place at i i.values) o []) used ≡ (found, used)
  skipped-by None none = refl
  skipped-by (Some i) none = values-skipped i i.values none

  pub skipped-tallied : plan.may_have_any p (attributes_at population at) ≡ false → tallied world found (candidates_at schema population number place at) used ≡ (found, used)
  skipped-tallied none = skipped-by (slice_get population at) none

pub ruleset skipped = (skipped-tallied)
