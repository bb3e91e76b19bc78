use Rattle.std.proofs.Common.{◌≡◌, ◌++◌, ◌∙◌, [], append-nil, ap, subst, sym}
use Rattle.std.specs.Prelude.{IfOk}
use Rattle.ex_resolve.proofs.Numbers.{numbered_at, numbered_past}
use Rattle.ex_resolve.proofs.named.push_explicit_of.Goals as goal
use Rattle.ex_resolve.specs.Schemas as spec

pub returns-in-None : goal.returns-in-None
returns-in-None c =
    let none = numbered_past spec.explicit_places 0 c.args.entities.now c.args.number [] c.in-None.ensures.lookup.3 in
    sym (append-nil c.args.places.now.items) ∙ ap (λ found. c.args.places.now.items ++ found) (sym none)

pub returns-in-Some : goal.returns-in-Some
returns-in-Some c =
    let there = c.in-Some.ensures.lookup in
    let is = numbered_at spec.explicit_places c.args.entities.now c.args.number c.in-Some.entity.now [] there.3.0 there.1 in
    subst (λ found. IfOk c.push_explicit.result (λ x. c.push_explicit.new.places.items ≡ c.args.places.now.items ++ found)) (sym is) c.push_explicit.ensures
