use Rattle.std.proofs.Common.{◌≡◌, drop}
use Rattle.rp_meaning.specs.Report.{agree}
use Rattle.rp_rules.proofs.rows.agree.Given as goal

abbrev pub invariant-loop-place : goal.invariant-loop-place
invariant-loop-place l = agree (drop l.place l.values) (drop l.place l.others) ≡ agree l.values l.others
