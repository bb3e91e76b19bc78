use Rattle.std.proofs.Common.{◌≡◌, drop, ◌++◌}
use Rattle.rp_plain.specs.Reports.{told_culprits}
use Rattle.rp_reports.proofs.culprits.Telling.culprits.Given as goal

abbrev pub invariant-loop-culprit : goal.invariant-loop-culprit
invariant-loop-culprit l =
    let told = told_culprits l.self.schema.now l.self.population.now in
    l.found ++ told (drop l.culprit-index l.culprits) ≡ told l.culprits
