use Rattle.std.proofs.Common.{◌≡◌, ◌++◌, drop}
use Rattle.rp_faults.specs.Held.{culprits, culprits_from}
use Rattle.rp_faults.proofs.held.Checking.culprits.Given as goal

abbrev pub invariant-loop-place : goal.invariant-loop-place
invariant-loop-place g l =
    let population = g.D.Domain.population l.self.domain.now in
    l.found ++ culprits_from l.self.schema.now population l.self.fault l.place (drop l.place population) ≡ culprits l.self.schema.now population l.self.fault
