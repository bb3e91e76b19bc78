use Rattle.std.proofs.Common.{◌≡◌, drop}
use Rattle.std.specs.List.{flat_map, list_any}
use Rattle.rp_meaning.specs.declared.schema.Explicit.{Explicit}
use Rattle.rp_meaning.specs.Faults.{redeclared_by}
use Rattle.rp_faults.specs.Held.{is_fault}
use Rattle.rp_faults.proofs.held.Checking.is_redeclared_fault.Given as goal

abbrev pub invariant-loop-entity : goal.invariant-loop-entity
invariant-loop-entity g l =
    let fails = λ (x : Explicit). is_fault l.self.schema.now (g.D.Domain.population l.self.domain.now) l.self.fault x l.value in
    list_any fails (flat_map (redeclared_by l.self.schema.now l.attribute) (drop l.entity-index l.entities)) ≡ list_any fails (flat_map (redeclared_by l.self.schema.now l.attribute) l.entities)
