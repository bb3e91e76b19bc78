use Rattle.std.proofs.Common.{◌≡◌, ℕ, ◌&&◌, not, ◌∙◌, ap}
use Rattle.std.specs.List.{list_any}
use Rattle.plain_data.specs.Numbers.{is_among}
use Rattle.graphs.specs.Graphs.{supertypes}
use Rattle.ex_subtypes.specs.Legal as spec
use Rattle.ex_subtypes.proofs.legal.first_bare.Goals as goal

pub returns : goal.returns
returns c =
    let entities = c.args.entities.now in
    let set = c.args.set.now in
    let same : (e : ℕ) → is_among c.in_ok-above.above.keys e ≡ list_any (λ s. is_among (supertypes (spec.graph entities) s) e) set = λ e.
    c.in_ok-above.ensures e ∙ ap (λ l. list_any (λ s. is_among (supertypes (spec.graph entities) s) e) l) c.as_slice.ensures.same in
    c.first_below.ensures ∙ (λ i. spec.first_of entities (λ e. spec.is_abstract entities e && not (same e i)) set)
