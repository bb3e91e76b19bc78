use Rattle.std.proofs.Common.{ℕ, List, ◌+◌, ◌==◌, drop, filter, slice_index_or, refl, sym, ◌∙◌, ap}
use Rattle.std.specs.List.{flat_map}
use Rattle.ex_named.specs.declared.reference.AttributePlace.{AttributePlace}
use Rattle.ex_scopes.specs.declared.seen.Seen.{Seen}
use Rattle.ex_scopes.specs.Attributes.{seen_after}
use Rattle.ex_scopes.specs.Sorts.{admitted}
use Rattle.ex_scopes.proofs.Told.{settled, seen_next}
use Rattle.ex_scopes.proofs.attributes.and_of_each.Goals as goal

pub returns-then-is_settled : goal.returns-then-is_settled
returns-then-is_settled c = sym (settled (admitted c.args.sorts) c.loop-entity.seen (flat_map (λ e. filter (λ (a : AttributePlace). e == a.entity) c.args.places.now) (drop c.loop-entity.entity-index c.args.entities.now)) (sym c.is_settled.ensures ∙ c.if-is_settled.true)) ∙ c.loop-entity.invariant

pub loop-entity-preserved : goal.loop-entity-preserved
loop-entity-preserved c =
    let can = admitted c.args.sorts in
    let own : ℕ → List AttributePlace = λ e. filter (λ (a : AttributePlace). e == a.entity) c.args.places.now in
    let entities = c.args.entities.now in
    let i = c.loop-entity.entity-index in
    ap (λ (s : Seen). seen_after can s (flat_map own (drop (i + 1) entities))) (c.and_all-seen.ensures ∙ ap (seen_after can c.loop-entity.seen) c.run_of.ensures)
    ∙ seen_next can own entities i (slice_index_or entities i 0) c.loop-entity.seen c.loop-entity-test.true refl
    ∙ c.loop-entity.invariant
