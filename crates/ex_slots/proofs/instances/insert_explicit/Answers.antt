use Rattle.std.proofs.Common.{rules, arith, ◌≡◌, ◌==◌, ◌&&◌, ◌||◌, ap, ◌∙◌}
use Rattle.std.proofs.lemmas.Bool.Decides.{nat_tests}
use Rattle.plain_data.proofs.Disjunctions.{or_swap}
use Rattle.ex_named.specs.declared.reference.AttributeSort.TheVariants.{Explicit}
use Rattle.ex_slots.specs.Slots as spec
use Rattle.ex_slots.proofs.Pairs.{any-insert, explicit_is}
use Rattle.ex_slots.proofs.instances.insert_explicit.Goals as goal

pub returns-in_ok-insert : goal.returns-in_ok-insert
returns-in_ok-insert c = λ e p.
    let place = c.args.place in
    let old = spec.has c.args.found.now.keys e p in
    let explicit : Explicit ≡ place.sort = search rules in
    let put : spec.has c.insert.new.self.keys e p ≡ ((place.entity == e) && (place.place == p) || old) =
    ap (λ keys. spec.has keys e p) c.in_ok-insert.ensures.keys
    ∙ any-insert _ (λ q. (q.0 == e) && (q.1 == p)) (λ x y same. grind (arith, nat_tests, same)) c.args.found.now.keys (place.entity, place.place) in
    put ∙ or_swap ((place.entity == e) && (place.place == p)) old ∙ explicit_is place old e p explicit
