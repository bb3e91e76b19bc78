-- What a reply says of a delivery.
use Rattle.std.specs.Prelude.{Bool, true, false, List, if◌then◌else◌}
use Rattle.std.specs.List.{list_all}
use Rattle.rp_meaning.specs.declared.report.Verdict.{Verdict}
use Rattle.rp_meaning.specs.declared.report.Verdict.TheVariants.{True, Unknown}
use Rattle.rp_plain.specs.declared.messages.Reply.{Reply}
use Rattle.rp_plain.specs.declared.messages.Reply.TheVariants.{Validated}
use Rattle.rp_plain.specs.declared.reports.ToldCheck.{ToldCheck}
use Rattle.rp_delivery.specs.declared.judged.Judgement.{Judgement}
use Rattle.rp_delivery.specs.declared.judged.Judgement.TheVariants.{Kept, NotKept}

-- nothing is violated or undecided
abbrev pub is_kept : Verdict → Bool
is_kept True = true
is_kept Unknown = true
is_kept _ = false

abbrev pub judged : List ToldCheck → Judgement
judged checks = if list_all (λ check. is_kept check.verdict) checks then Kept else NotKept

-- what a reply says: the rules are kept by a validation alone
abbrev pub judgement_of : Reply → Judgement
judgement_of (Validated report) = judged report.checks
judgement_of _ = NotKept
