-- How evaluations end, as the code has it, and which verdicts occur among such ends.
use Rattle.std.specs.Prelude.{ℕ, ◌||◌, Bool, List}
use Rattle.std.specs.List.{list_any}
use Rattle.rp_meaning.specs.declared.outcome.Outcome.{Outcome}
use Rattle.rp_meaning.specs.declared.outcome.Outcome.TheVariants as o
use Rattle.rp_meaning.specs.declared.report.Verdict.{Verdict}
use Rattle.rp_meaning.specs.declared.report.Verdict.TheVariants as judged
use Rattle.rp_meaning.specs.Sequence as sequence
use Rattle.rp_meaning.specs.Sequence.{same_verdict, verdict_of}
use Rattle.rp_rules.specs.declared.ended.Ended.{Ended}
use Rattle.rp_rules.specs.declared.ended.Ended.TheVariants as e
use Rattle.rp_rules.specs.declared.verdicts.Verdicts.{Verdicts}

abbrev pub ended_behind : Ended → sequence.Ended
ended_behind (e.Begun (o.Value x steps)) = sequence.Valued x
ended_behind (e.Begun o.Limit) = sequence.Limited
ended_behind e.NotRun = sequence.NotRun

-- the steps that it counts
abbrev pub steps_in : Outcome → ℕ
steps_in (o.Value x steps) = steps
steps_in o.Limit = 200000

-- whether an evaluation ended so
abbrev pub occurs : Verdict → List sequence.Ended → Bool
occurs verdict found = list_any (λ e. same_verdict (verdict_of e) verdict) found

-- the verdicts with which evaluations ended, but for TRUE
abbrev pub verdicts_of : List sequence.Ended → Verdicts
verdicts_of found = record {
  violating = occurs judged.False found;
  limited = occurs judged.Limit found;
  not_run = occurs judged.NotRun found;
  unknown = occurs judged.Unknown found;
}

abbrev pub with_verdict : Verdicts → Verdict → Verdicts
with_verdict all found = record {
  violating = all.violating || same_verdict found judged.False;
  limited = all.limited || same_verdict found judged.Limit;
  not_run = all.not_run || same_verdict found judged.NotRun;
  unknown = all.unknown || same_verdict found judged.Unknown;
}
