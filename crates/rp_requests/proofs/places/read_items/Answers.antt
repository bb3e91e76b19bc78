use Rattle.std.proofs.Common.{Some, ap, sym, ◌∙◌}
use Rattle.serde_json.specs.View.{view}
use Rattle.rp_requests.proofs.PlaceLemmas.{item_found, list_over, three_items}
use Rattle.rp_requests.proofs.places.read_items.Goals as goal

pub returns-clause-ok : goal.returns-clause-ok
returns-clause-ok c =
    let a = c.next_item.new.reader in
    let b = c.next_item-2.new.reader in
    let d = c.next_item-3.new.reader in
    let r = c.next_item-4.new.reader in
    let owner = item_found c.args.reader.now a c.in_ok-owner.field-0 c.in-Some.owner c.in-Some.is c.in_ok-owner.ensures.ok in
    let name = item_found a b c.in_ok-name.field-0 c.in-Some-2.name c.in-Some-2.is c.in_ok-name.ensures.ok in
    let instance = item_found b d c.in_ok-instance.field-0 c.in-Some-3.instance c.in-Some-3.is c.in_ok-instance.ensures.ok in
    let over = list_over d r c.in_ok-next_item.field-0 (sym c.is_some.ensures ∙ c.if-is_some.false) c.in_ok-next_item.ensures.ok in
    three_items _ _ _ _ (view c.in-Some.owner.value) (view c.in-Some-2.name.value) (view c.in-Some-3.instance.value) r owner name instance over ∙ ap (λ place. Some (place, r)) (sym c.in_ok-place.ensures)
