-- The culprits of a check, evaluation by evaluation, are those of all that was tried.
use Rattle.std.proofs.Common.{◌≡◌, ℕ, ◌+◌, ◌<◌, ◌||◌, Bool, true, false, List, [], ◌∷◌, ◌++◌, map, filter, length, drop, get_or, refl, sym, ap, ◌∙◌}
use Rattle.std.proofs.lemmas.List.{map-append}
use Rattle.std.proofs.lemmas.List.Elements.{filter-append}
use Rattle.std.proofs.lemmas.List.Folds.{list_any-append}
use Rattle.rp_meaning.specs.declared.report.Constraint.{Constraint}
use Rattle.rp_meaning.specs.declared.report.Culprit.{Culprit}
use Rattle.rp_meaning.specs.declared.report.Verdict.{Verdict}
use Rattle.rp_meaning.specs.declared.report.Verdict.TheVariants as judged
use Rattle.rp_meaning.specs.declared.rule.Rule.{Rule}
use Rattle.rp_meaning.specs.declared.schema.Schema.{Schema}
use Rattle.rp_meaning.specs.Expressions.{World}
use Rattle.rp_meaning.specs.Populations.{Instance, extent, places_of}
use Rattle.rp_meaning.specs.Report.{candidates_of, checking, instance_culprit, of_instance, world}
use Rattle.rp_meaning.specs.Sequence.{Candidate, Ended, Result, all_after, check_by, culprits, each_after, same_verdict, tried, verdict_of}
use Rattle.rp_rules.specs.declared.culprits.Culprits.{Culprits}
use Rattle.rp_rules.specs.Endings.{occurs, verdicts_of, with_verdict}
use Rattle.rp_rules.specs.Places.{place_or_none}
use Rattle.rp_rules.specs.Tallies.{candidate_by, check_with, culprits_of, listed, no_culprits, tallied, with_culprit}
use Rattle.rp_rules.proofs.Steps.{drop-read}
use Rattle.rp_value.specs.declared.value.Value.{Value, out-Value}
use Rattle.rp_value.specs.declared.value.Value.TheVariants as v

-- ---- verdicts

pub or_false : (b : Bool) → (b || false) ≡ b
or_false true = refl
or_false false = refl

pub occurs-more : (verdict : Verdict) (found : List Ended) (e : Ended) → occurs verdict (found ++ e ∷ []) ≡ (occurs verdict found || same_verdict (verdict_of e) verdict)
occurs-more verdict found e =
    list_any-append (λ e. same_verdict (verdict_of e) verdict) found (e ∷ []) ∙ ap (λ b. occurs verdict found || b) (or_false (same_verdict (verdict_of e) verdict))

-- with those of one more evaluation
pub verdicts-more : (found : List Ended) (e : Ended) → verdicts_of (found ++ e ∷ []) ≡ with_verdict (verdicts_of found) (verdict_of e)
verdicts-more found e = λ i. record {
  violating = occurs-more judged.False found e i;
  limited = occurs-more judged.Limit found e i;
  not_run = occurs-more judged.NotRun found e i;
  unknown = occurs-more judged.Unknown found e i;
}

-- those of one alone
pub verdicts-one : (e : Ended) → with_verdict (verdicts_of []) (verdict_of e) ≡ verdicts_of (e ∷ [])
verdicts-one e = sym (verdicts-more [] e)

pub ruleset verdicts_are = (verdicts-one)

-- ---- culprits

listed-more : (verdict : Verdict) (r : Result) (b : Bool) → occurs verdict r.1 ≡ b → map (λ (r : Result). r.0) (filter (λ (r : Result). occurs verdict r.1) (r ∷ [])) ≡ listed b r.0
listed-more verdict r true is = rw is refl
listed-more verdict r false is = rw is refl

pub culprits-more : (verdict : Verdict) (found : List Result) (r : Result) → culprits verdict (found ++ r ∷ []) ≡ culprits verdict found ++ listed (occurs verdict r.1) r.0
culprits-more verdict found r =
    ap (map (λ (r : Result). r.0)) (filter-append (λ (r : Result). occurs verdict r.1) found (r ∷ []))
    ∙ map-append (λ (r : Result). r.0) (filter (λ (r : Result). occurs verdict r.1) found) (filter (λ (r : Result). occurs verdict r.1) (r ∷ []))
    ∙ ap (λ (cs : List Culprit). culprits verdict found ++ cs) (listed-more verdict r (occurs verdict r.1) refl)

culprits-with : (found : List Result) (r : Result) → culprits_of (found ++ r ∷ []) ≡ with_culprit (culprits_of found) r.0 (verdicts_of r.1)
culprits-with found r = λ i. record {
  violating = culprits-more judged.False found r i;
  limited = culprits-more judged.Limit found r i;
  not_run = culprits-more judged.NotRun found r i;
  unknown = culprits-more judged.Unknown found r i;
}

module _ (world : World) where
  -- the culprits of what is tried, as they come
  pub tallied-all : (found : List Result) (xs : List Candidate) (used : ℕ) → tallied world (culprits_of found) xs used ≡ (culprits_of (all_after world found xs used).0, (all_after world found xs used).1)
  tallied-all found [] used = refl
  tallied-all found (x ∷ others) used =
      let r : Result = (x.0, (each_after world [] x.1 used).0) in
      ap (λ (cs : Culprits). tallied world cs others (each_after world [] x.1 used).1) (sym (culprits-with found r))
      ∙ tallied-all (found ++ r ∷ []) others (each_after world [] x.1 used).1

  -- one instance more
  pub tallied-step : (rule : Rule) (found : Culprits) (xs : List Value) (i : ℕ) (x : Value) (used : ℕ) → i < length xs → x ≡ get_or xs i x
      → tallied world found (map (candidate_by rule) (drop i xs)) used
      ≡ tallied world (with_culprit found (instance_culprit (place_or_none x)) (verdicts_of (each_after world [] ((rule, x) ∷ []) used).0)) (map (candidate_by rule) (drop (i + 1) xs)) (each_after world [] ((rule, x) ∷ []) used).1
  tallied-step rule found xs i x used h is = ap (λ (ys : List Value). tallied world found (map (candidate_by rule) ys) used) (drop-read xs i x h is)

-- ---- the instances of an entity

module _ (schema : Schema) (population : List Instance) where
  candidates-by : (rule : Rule) (places : List ℕ) → map (candidate_by rule) (map (λ place. v.Inst place) places) ≡ map (of_instance schema population (rule ∷ [])) places
  unfolding out-Value denote.Hole.Carrier.out
  candidates-by rule [] = refl
  candidates-by rule (place ∷ places) = ap (λ (cs : List Candidate). of_instance schema population (rule ∷ []) place ∷ cs) (candidates-by rule places)

  tallied-by : (rule : Rule) (entity used : ℕ) (instances : List Value) → instances ≡ extent population entity
      → tallied (world schema population) no_culprits (map (candidate_by rule) instances) used
      ≡ (culprits_of (tried (world schema population) (candidates_of schema population entity (rule ∷ [])) used).0, (tried (world schema population) (candidates_of schema population entity (rule ∷ [])) used).1)
  tallied-by rule entity used instances is =
      ap (λ (xs : List Value). tallied (world schema population) no_culprits (map (candidate_by rule) xs) used) is
      ∙ ap (λ (cs : List Candidate). tallied (world schema population) no_culprits cs used) (candidates-by rule (places_of population entity))
      ∙ tallied-all (world schema population) [] (candidates_of schema population entity (rule ∷ [])) used

  -- the check of a rule by its culprits
  pub check-by : (constraint : Constraint) (rule : Rule) (entity used : ℕ) (instances : List Value) → instances ≡ extent population entity
      → check_with constraint (tallied (world schema population) no_culprits (map (candidate_by rule) instances) used).0
      ≡ (checking schema population (check_by constraint) (candidates_of schema population entity (rule ∷ [])) used).0
  check-by constraint rule entity used instances is = ap (λ (p : Culprits × ℕ). check_with constraint p.0) (tallied-by rule entity used instances is)

  pub used-by : (constraint : Constraint) (rule : Rule) (entity used : ℕ) (instances : List Value) → instances ≡ extent population entity
      → (tallied (world schema population) no_culprits (map (candidate_by rule) instances) used).1
      ≡ (checking schema population (check_by constraint) (candidates_of schema population entity (rule ∷ [])) used).1
  used-by constraint rule entity used instances is = ap (λ (p : Culprits × ℕ). p.1) (tallied-by rule entity used instances is)
