use Rattle.std.proofs.Common.{◌+◌, drop, sym, ◌∙◌}
use Rattle.std.specs.List.{flat_map, list_any}
use Rattle.rp_meaning.specs.declared.schema.Explicit.{Explicit}
use Rattle.rp_meaning.specs.Faults.{redeclared_by}
use Rattle.rp_faults.specs.Held.{is_fault}
use Rattle.rp_faults.proofs.Checked.{or_else, or_true, redeclared-found}
use Rattle.rp_faults.proofs.held.Checking.is_redeclared_fault.Goals as goal

pub returns-then-branch : goal.returns-then-branch
returns-then-branch g c =
    let schema = c.args.self.now.schema.now in
    let population = g.D.Domain.population c.args.self.now.domain.now in
    let entities = c.args.entities.now in
    let i = c.loop-entity.entity-index in
    or_true c.in_ok-is_fault_again.field-0 (list_any (λ (d : Explicit). is_fault schema population c.args.self.now.fault d c.args.value.now) (flat_map (redeclared_by schema c.args.attribute) (drop (i + 1) entities))) c.if-branch.true
    ∙ sym (redeclared-found schema population c.args.self.now.fault c.args.attribute c.args.value.now entities i c.in_ok-is_fault_again.field-0 c.redeclarations-redeclarations.result.now c.loop-entity-test.true c.in_ok-is_fault_again.ensures c.redeclarations-redeclarations.ensures)
    ∙ c.loop-entity.invariant

pub loop-entity-preserved : goal.loop-entity-preserved
loop-entity-preserved g c =
    let schema = c.args.self.now.schema.now in
    let population = g.D.Domain.population c.args.self.now.domain.now in
    let entities = c.args.entities.now in
    let i = c.loop-entity.entity-index in
    sym (redeclared-found schema population c.args.self.now.fault c.args.attribute c.args.value.now entities i c.in_ok-is_fault_again.field-0 c.redeclarations-redeclarations.result.now c.loop-entity-test.true c.in_ok-is_fault_again.ensures c.redeclarations-redeclarations.ensures
    ∙ or_else c.in_ok-is_fault_again.field-0 (list_any (λ (d : Explicit). is_fault schema population c.args.self.now.fault d c.args.value.now) (flat_map (redeclared_by schema c.args.attribute) (drop (i + 1) entities))) c.if-branch.false)
    ∙ c.loop-entity.invariant
