use Rattle.std.proofs.Common.{◌≡◌, drop, map, ◌++◌}
use Rattle.rp_plain.specs.Reports.{told_check}
use Rattle.rp_reports.proofs.checks.told_checks.Given as goal

abbrev pub invariant-loop-check : goal.invariant-loop-check
invariant-loop-check l =
    let told = told_check l.telling.schema.now l.telling.population.now in
    l.told ++ map told (drop l.check-index l.checks) ≡ map told l.checks
