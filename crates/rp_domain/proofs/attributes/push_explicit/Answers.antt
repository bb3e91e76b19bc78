use Rattle.std.proofs.Common.{◌∙◌, ◌++◌, ◌∷◌, [], List, map, ap, sym, arith, append_assoc}
use Rattle.std.specs.List.{range_with_len}
use Rattle.std.proofs.lemmas.List.FromFn.{map-range_with_len_more}
use Rattle.ex_named.specs.declared.reference.AttributePlace.{AttributePlace}
use Rattle.rp_meaning.specs.Reading as spec
use Rattle.rp_domain.proofs.attributes.push_explicit.Goals as goal

pub loop-place-preserved : goal.loop-place-preserved
loop-place-preserved c =
    let at = spec.explicit_place c.args.schema.now c.args.entity in
    let place = c.loop-place.place in
    let before = map at (range_with_len 0 place) in
    c.in_ok-push.ensures.ok
    ∙ ap (λ (xs : List AttributePlace). xs ++ at place ∷ []) c.loop-place.invariant
    ∙ append_assoc c.args.found.now before (at place ∷ [])
    ∙ ap (λ (xs : List AttributePlace). c.args.found.now ++ xs) (sym (map-range_with_len_more at 0 place place (omega arith)))
