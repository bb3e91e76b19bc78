use Rattle.std.proofs.Common.{◌≡◌, ◌<◌, ◌==◌, ◌∙◌, length, ap, refl, arith}
use Rattle.std.proofs.lemmas.Bool.{eq-eqb}
use Rattle.std.proofs.lemmas.Result.{on_ok_weaker}
use Rattle.plain_data.specs.Numbers.{is_among}
use Rattle.rp_index.specs.declared.kinds.Kind.{Kind}
use Rattle.rp_index.specs.Index.{is_in_kind, is_under}
use Rattle.rp_index.proofs.Tests.{or_left, or_right}
use Rattle.rp_index.proofs.Entries.{any_inserted, same_element, kind_grows, kind_has}
use Rattle.rp_index.proofs.kinds.enter.Goals as goal

pub returns-then-index-entity-clause-grows : goal.returns-then-index-entity-clause-grows
returns-then-index-entity-clause-grows c =
    let kinds = c.args.kinds.now.items in
    let place = c.place_of-place.result in
    let k : Kind = c.index_mut.result.now in
    let l : Kind = record { entity = k.entity; names = c.enter_name.new.names } in
    let within : place < length kinds = omega (arith, c.if-place-len.true, c.len.ensures, c.args.kinds.now.ok.0) in
    on_ok_weaker c.enter_name.result
    (λ up. kind_grows kinds place k l within c.index_mut.ensures.value refl (λ n e. up n ∙ or_left (is_among k.names.items n) (c.args.name == n) e))
    c.enter_name.ensures

pub returns-then-index-entity-clause-has : goal.returns-then-index-entity-clause-has
returns-then-index-entity-clause-has c =
    let kinds = c.args.kinds.now.items in
    let place = c.place_of-place.result in
    let name = c.args.name in
    let k : Kind = c.index_mut.result.now in
    let l : Kind = record { entity = k.entity; names = c.enter_name.new.names } in
    let within : place < length kinds = omega (arith, c.if-place-len.true, c.len.ensures, c.args.kinds.now.ok.0) in
    let read : k ≡ c.index.result.now = same_element kinds place k c.index.result.now within c.index_mut.ensures.value c.index.ensures in
    on_ok_weaker c.enter_name.result
    (λ up. kind_has kinds place c.args.entity name l within (ap (λ (m : Kind). m.entity) read ∙ c.if-index-entity.true)
    (up name ∙ or_right (is_among k.names.items name) (name == name) (eq-eqb name name refl)))
    c.enter_name.ensures

pub returns-clause-grows : goal.returns-clause-grows
returns-clause-grows c = λ q e.
    ap (λ l. is_under l q) c.in_ok-insert.ensures.items ∙ any_inserted (is_in_kind q) c.args.kinds.now.items c.place_of-place.result _
    ∙ or_right _ (is_under c.args.kinds.now.items q) e
