-- Evaluations one after the other, within the steps that a validation may use.
use Rattle.std.specs.Prelude.{ℕ, ◌+◌, not, Bool, true, false, List, [], ◌∷◌, ◌++◌, map, filter, Option, Some, nat_le, if◌then◌else◌}
use Rattle.std.specs.List.{list_any}
use Rattle.rp_numbers.specs.declared.Logical.{Logical}
use Rattle.rp_numbers.specs.declared.Logical.TheVariants as l
use Rattle.rp_value.specs.declared.value.Value.{Value}
use Rattle.rp_meaning.specs.declared.outcome.Outcome.{Outcome}
use Rattle.rp_meaning.specs.declared.outcome.Outcome.TheVariants as o
use Rattle.rp_meaning.specs.declared.report.Check.{Check}
use Rattle.rp_meaning.specs.declared.report.Constraint.{Constraint}
use Rattle.rp_meaning.specs.declared.report.Culprit.{Culprit}
use Rattle.rp_meaning.specs.declared.report.Verdict.{Verdict}
use Rattle.rp_meaning.specs.declared.report.Verdict.TheVariants as v
use Rattle.rp_meaning.specs.declared.rule.Rule.{Rule}
use Rattle.rp_meaning.specs.Expressions.{World}
use Rattle.rp_meaning.specs.Operators.{truth_in}
use Rattle.rp_meaning.specs.Outcomes.{outcome}
use Rattle.rp_operations.specs.Seen.{seen}

-- How an evaluation ends that may not be begun.
pub data Ended : Type 0 where
  Valued : Value → Ended
  Limited : Ended
  NotRun : Ended

-- at the limit it counts as many steps as it may take
abbrev pub ended : Outcome → ℕ → Ended × ℕ
ended (o.Value x steps) used = (Valued x, used + steps)
ended o.Limit used = (Limited, used + 200000)

-- a rule, and what SELF is
abbrev pub Trial : Type 0
Trial = Rule × Value

-- a culprit, if what is tried on its account doesn't hold
abbrev pub Candidate : Type 0
Candidate = Culprit × List Trial

abbrev pub Result : Type 0
Result = Culprit × List Ended

module _ (world : World) where
  -- It is begun only while not too many steps are used: no validation takes more than 20,000,000.
  abbrev pub one : Trial → ℕ → Ended × ℕ
  one trial used = if nat_le used 19800000 then ended (outcome world trial.0 trial.1 200000) used else (NotRun, used)

  abbrev pub each_after : List Ended → List Trial → ℕ → List Ended × ℕ
  each_after found [] used = (found, used)
  each_after found (trial ∷ others) used = each_after (found ++ (one trial used).0 ∷ []) others (one trial used).1

  abbrev pub all_after : List Result → List Candidate → ℕ → List Result × ℕ
  all_after found [] used = (found, used)
  all_after found (x ∷ others) used = all_after (found ++ (x.0, (each_after [] x.1 used).0) ∷ []) others (each_after [] x.1 used).1

  -- how the trials of all candidates end, and the steps that are used then
  abbrev pub tried : List Candidate → ℕ → List Result × ℕ
  tried candidates used = all_after [] candidates used

-- ---- verdicts

abbrev pub by_truth : Option Logical → Verdict
by_truth (Some l.True) = v.True
by_truth (Some l.False) = v.False
by_truth _ = v.Unknown

-- what is said of a condition that ended so: `?` is unknown
abbrev pub verdict_of : Ended → Verdict
verdict_of (Valued x) = by_truth (truth_in (seen x))
verdict_of Limited = v.Limit
verdict_of NotRun = v.NotRun

abbrev pub same_verdict : Verdict → Verdict → Bool
same_verdict v.True v.True = true
same_verdict v.False v.False = true
same_verdict v.Unknown v.Unknown = true
same_verdict v.Limit v.Limit = true
same_verdict v.NotRun v.NotRun = true
same_verdict _ _ = false

-- of which a trial ended so
abbrev pub culprits : Verdict → List Result → List Culprit
culprits verdict results = map (λ r. r.0) (filter (λ r. list_any (λ e. same_verdict (verdict_of e) verdict) r.1) results)

abbrev pub is_empty : {A : Type 0} → List A → Bool
is_empty [] = true
is_empty (x ∷ xs) = false

-- the first of FALSE, LIMIT, NOT_RUN and UNKNOWN that has a culprit
abbrev pub first_verdict : List Culprit → List Culprit → List Culprit → List Culprit → Verdict
first_verdict violating limited not_run unknown =
    if not (is_empty violating) then v.False
    else if not (is_empty limited) then v.Limit
    else if not (is_empty not_run) then v.NotRun
    else if not (is_empty unknown) then v.Unknown
    else v.True

abbrev pub check_of : Constraint → List Culprit → List Culprit → List Culprit → List Culprit → Check
check_of constraint violating limited not_run unknown = record {
  constraint = constraint;
  verdict = first_verdict violating limited not_run unknown;
  violating = violating;
  limited = limited;
  not_run = not_run;
  unknown = unknown;
}

-- of conditions that ended so
abbrev pub check_by : Constraint → List Result → Check
check_by constraint results =
    check_of constraint (culprits v.False results) (culprits v.Limit results) (culprits v.NotRun results) (culprits v.Unknown results)

-- ---- checks

-- from the steps used so far: a check, and the steps used then
abbrev pub Checking : Type 0
Checking = ℕ → Check × ℕ

abbrev pub in_sequence_after : List Check → List Checking → ℕ → List Check × ℕ
in_sequence_after found [] used = (found, used)
in_sequence_after found (x ∷ others) used = in_sequence_after (found ++ (x used).0 ∷ []) others (x used).1

abbrev pub in_sequence : List Checking → ℕ → List Check × ℕ
in_sequence checks used = in_sequence_after [] checks used
