use Rattle.std.proofs.Common.{◌≡◌, ◌<◌, ◌+◌, ◌-◌, ℕ, Bool, false, length, subst, sym, ◌∙◌, ap, arith}
use Rattle.std.specs.List.{list_any}
use Rattle.std.proofs.lemmas.List.{length-map}
use Rattle.graphs.specs.Graphs.{numbers_from}
use Rattle.ex_attributes.specs.Attributes as spec
use Rattle.ex_attributes.proofs.Several.{declared_once, none_here, numbers_from_below}
use Rattle.ex_attributes.proofs.attributes.Attributes.is_ambiguous.Goals as goal

pub returns-then-declarations-lt2 : goal.returns-then-declarations-lt2
returns-then-declarations-lt2 c =
    declared_once c.args.self.now c.args.name.now
    (subst (λ l. length l < 2) c.requires (omega (arith, length-map c.args.declarations.now (λ r. r.now), c.if-declarations-lt2.true)))

pub loop-entity-preserved : goal.loop-entity-preserved
loop-entity-preserved c =
    let schema = c.args.self.now in
    let entity = c.loop-entity.entity in
    let end = length c.args.self.now.supertypes in
    let test : ℕ → Bool = λ e. spec.is_several (spec.named_attributes schema e c.args.name.now) in
    let below : entity < end = omega (arith, c.loop-entity-test.true, c.len-entity-end.ensures) in
    let none : test entity ≡ false = sym c.in_ok-has_several.ensures ∙ c.if-has_several.false in
    sym (none_here test entity (numbers_from (entity + 1) (end - (entity + 1))) none)
    ∙ ap (list_any test) (sym (numbers_from_below entity end below))
    ∙ c.loop-entity.invariant
