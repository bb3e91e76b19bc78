use Rattle.std.proofs.Common.{◌≡◌, ℕ, List, length, Some, sym, ap, ◌∙◌, subst}
use Rattle.rp_rules.specs.Layouts.{Lays, attributes_at, layout_at}
use Rattle.rp_rules.proofs.Laid.{lays-more, one-longer}
use Rattle.rp_rules.proofs.layouts.layouts_of.Goals as goal

pub loop-at-preserved : goal.loop-at-preserved
loop-at-preserved g c =
    let population = g.D.Domain.population c.args.domain.now in
    let examples = c.number_of.new.examples in
    let last : layout_at population examples c.in_ok-number.number ≡ Some (attributes_at population (length c.loop-at.found.numbers)) =
    c.in_ok-number.ensures.number ∙ ap Some c.attributes_at-attributes.ensures ∙ ap (λ n. Some (attributes_at population n)) (sym c.loop-at.invariant.many) in
    let more = lays-more population c.loop-at.found examples c.in_ok-number.number c.loop-at.invariant.lays c.in_ok-number.ensures.kept last in
    record {
      many = ap length c.in_ok-push.ensures.ok ∙ one-longer c.loop-at.found.numbers c.in_ok-number.number c.loop-at.at c.loop-at.invariant.many;
      lays = subst (λ (numbers : List ℕ). Lays population (record { numbers = numbers; examples = examples })) (sym c.in_ok-push.ensures.ok) more;
    }
