use Rattle.std.proofs.Common.{◌||◌, Bool, sym, ap, ◌∙◌}
use Rattle.std.specs.List.{list_any}
use Rattle.rp_rules.specs.Tried.{again, redeclarations_of}
use Rattle.rp_rules.proofs.Declarations.{tried-declared}
use Rattle.rp_rules.proofs.choices.Choosing.is_tried_in_attribute.Goals as goal

pub returns-then-is_tried_own : goal.returns-then-is_tried_own
returns-then-is_tried_own g c =
    let types = c.args.self.now.types.now in
    let population = g.D.Domain.population c.args.self.now.domain.now in
    let number = c.args.number in
    let own = (rw c.explicit_at.ensures at c.is_tried_own.ensures) in
    let all = tried-declared types population number c.args.schema.now c.args.entities.now c.args.attribute c.args.written.now c.args.read.now in
    let others = list_any (λ entity. list_any (again types population number c.args.written.now c.args.read.now c.args.attribute) (redeclarations_of c.args.schema.now entity)) c.args.entities.now in
    c.if-is_tried_own.true ∙ ap (λ (b : Bool). b || others) (sym c.if-is_tried_own.true ∙ own) ∙ sym all

pub returns-else-is_tried_own : goal.returns-else-is_tried_own
returns-else-is_tried_own g c =
    let types = c.args.self.now.types.now in
    let population = g.D.Domain.population c.args.self.now.domain.now in
    let number = c.args.number in
    let own = (rw c.explicit_at.ensures at c.is_tried_own.ensures) in
    let all = tried-declared types population number c.args.schema.now c.args.entities.now c.args.attribute c.args.written.now c.args.read.now in
    let others = list_any (λ entity. list_any (again types population number c.args.written.now c.args.read.now c.args.attribute) (redeclarations_of c.args.schema.now entity)) c.args.entities.now in
    c.is_tried_in_entities.ensures ∙ ap (λ (b : Bool). b || others) (sym c.if-is_tried_own.false ∙ own) ∙ sym all
