-- The culprits of a check, as they come, evaluation by evaluation.
use Rattle.std.specs.Prelude.{ℕ, ◌++◌, Bool, List, [], ◌∷◌, if◌then◌else◌}
use Rattle.rp_meaning.specs.declared.report.Check.{Check}
use Rattle.rp_meaning.specs.declared.report.Constraint.{Constraint}
use Rattle.rp_meaning.specs.declared.report.Culprit.{Culprit}
use Rattle.rp_meaning.specs.declared.report.Verdict.TheVariants as judged
use Rattle.rp_meaning.specs.declared.rule.Rule.{Rule}
use Rattle.rp_meaning.specs.Expressions.{World}
use Rattle.rp_meaning.specs.Report.{instance_culprit}
use Rattle.rp_meaning.specs.Sequence.{Candidate, Result, check_of, culprits, each_after}
use Rattle.rp_rules.specs.declared.culprits.Culprits.{Culprits}
use Rattle.rp_rules.specs.declared.verdicts.Verdicts.{Verdicts}
use Rattle.rp_rules.specs.Endings.{verdicts_of}
use Rattle.rp_value.specs.declared.value.Value.{Value}
use Rattle.rp_rules.specs.Places.{place_or_none}

abbrev pub no_culprits : Culprits
no_culprits = record { violating = []; limited = []; not_run = []; unknown = [] }

abbrev pub listed : Bool → Culprit → List Culprit
listed is_one culprit = if is_one then culprit ∷ [] else []

abbrev pub with_culprit : Culprits → Culprit → Verdicts → Culprits
with_culprit found culprit verdicts = record {
  violating = found.violating ++ listed verdicts.violating culprit;
  limited = found.limited ++ listed verdicts.limited culprit;
  not_run = found.not_run ++ listed verdicts.not_run culprit;
  unknown = found.unknown ++ listed verdicts.unknown culprit;
}

abbrev pub check_with : Constraint → Culprits → Check
check_with constraint found = check_of constraint found.violating found.limited found.not_run found.unknown

-- those of what was tried
abbrev pub culprits_of : List Result → Culprits
culprits_of results = record {
  violating = culprits judged.False results;
  limited = culprits judged.Limit results;
  not_run = culprits judged.NotRun results;
  unknown = culprits judged.Unknown results;
}

module _ (world : World) where
  -- with those of more candidates, and the steps that are used then
  abbrev pub tallied : Culprits → List Candidate → ℕ → Culprits × ℕ
  tallied found [] used = (found, used)
  tallied found (x ∷ others) used = tallied (with_culprit found x.0 (verdicts_of (each_after world [] x.1 used).0)) others (each_after world [] x.1 used).1

-- an instance by one rule
abbrev pub candidate_by : Rule → Value → Candidate
candidate_by rule x = (instance_culprit (place_or_none x), (rule, x) ∷ [])
