use Rattle.std.proofs.Common.{◌≡◌, drop}
use Rattle.std.specs.List.{list_any}
use Rattle.rp_faults.specs.Held.{is_fault_again}
use Rattle.rp_faults.proofs.held.Checking.is_fault_again.Given as goal

abbrev pub invariant-loop-redeclaration : goal.invariant-loop-redeclaration
invariant-loop-redeclaration g l =
    let fails = is_fault_again l.self.schema.now (g.D.Domain.population l.self.domain.now) l.self.fault l.attribute l.value in
    list_any fails (drop l.redeclaration-index l.redeclarations) ≡ list_any fails l.redeclarations
