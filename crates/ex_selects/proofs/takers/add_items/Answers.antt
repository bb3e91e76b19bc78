use Rattle.std.proofs.Common.{◌≡◌, ◌<◌, ◌++◌, ◌∷◌, ◌+◌, [], map, length, take, sym, ◌∙◌, ap}
use Rattle.std.proofs.lemmas.List.{map-append, take_more}
use Rattle.std.specs.Prelude.{is_some}
use Rattle.std.specs.Str.{bytes_eq}
use Rattle.name_tables.specs.Names.{first_in, place_of}
use Rattle.ex_selects.specs.Takers.{with_taker}
use Rattle.ex_selects.proofs.Firsts.{either_taker, item_more}
use Rattle.ex_selects.proofs.takers.add_items.Goals as goal

pub loop-item-preserved : goal.loop-item-preserved
loop-item-preserved c = λ other.
    let items = c.args.items.now in
    let i = c.loop-item.item-index in
    let item = c.item-item.result in
    let number = c.args.number in
    let first = first_in other c.args.takers.now in
    let before = map (λ n. n.text) (take i items) in
    let within : i < length items = c.loop-item-test.true in
    let longer : before ++ item.text ∷ [] ≡ map (λ n. n.text) (take (i + 1) items) =
    sym (ap (map (λ n. n.text)) (take_more items i item within) ∙ map-append (λ n. n.text) (take i items) _ ∙ ap (λ n. before ++ n.text ∷ []) (sym c.item-item.is)) in
    c.in_ok-add_taker.ensures other
    ∙ ap (λ name. with_taker (bytes_eq name other) (first_in other c.loop-item.takers) number) c.as_bytes.ensures
    ∙ ap (λ o. with_taker (bytes_eq item.text other) o number) (c.loop-item.invariant other)
    ∙ either_taker (is_some (place_of other before)) (bytes_eq item.text other) first number
    ∙ ap (λ b. with_taker b first number) (item_more other item.text before ∙ ap (λ ns. is_some (place_of other ns)) longer)
