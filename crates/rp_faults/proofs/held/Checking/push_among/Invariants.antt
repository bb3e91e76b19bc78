use Rattle.std.proofs.Common.{◌≡◌, ◌++◌, drop}
use Rattle.rp_faults.specs.Held.{culprits_among}
use Rattle.rp_faults.proofs.held.Checking.push_among.Given as goal

abbrev pub invariant-loop-at : goal.invariant-loop-at
invariant-loop-at g l =
    let population = g.D.Domain.population l.self.domain.now in
    l.found ++ culprits_among l.self.schema.now population l.self.fault l.checked.place l.checked.instance.now l.checked.redeclaring.now (drop l.at l.attributes) (drop l.at l.written)
    ≡ l.fn.found ++ culprits_among l.self.schema.now population l.self.fault l.checked.place l.checked.instance.now l.checked.redeclaring.now l.attributes l.written
