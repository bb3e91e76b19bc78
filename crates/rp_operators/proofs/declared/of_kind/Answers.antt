use Rattle.std.proofs.Common.{◌≡◌, sym, ◌∙◌, subst, to_z, of_z, arith}
use Rattle.std.proofs.lemmas.Int.{ints}
use Rattle.std.specs.Prelude.{IfOk}
use mir.Syntax.{w64}
use Rattle.rp_meaning.specs.Types.{of_kind}
use Rattle.rp_operators.proofs.Sets.{once}
use Rattle.rp_operators.proofs.declared.of_kind.Goals as goal

pub returns-in_ok-found-in-Set : goal.returns-in_ok-found-in-Set
returns-in_ok-found-in-Set c =
    let low = to_z w64 (of_z w64 c.args.low) in
    let same : low ≡ c.args.low = omega (arith, ints, c.ranges.low.sfits) in
    subst (λ y. IfOk c.aggregate_union.result (λ x. x ≡ y))
    (once c.in_ok-empty-in-Set.empty c.in_ok-found-in-Set.found low _ c.new.result c.args.items c.in_ok-empty-in-Set.ensures c.new.ensures c.in_ok-found-in-Set.ensures
    ∙ (λ i. of_kind (sym c.in-Set.is i, same i) c.args.items))
    c.aggregate_union.ensures
