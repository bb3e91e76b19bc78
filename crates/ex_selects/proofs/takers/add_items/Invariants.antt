use Rattle.std.proofs.Common.{◌≡◌, ℕ, List, map, take}
use Rattle.std.specs.Prelude.{is_some}
use Rattle.name_tables.specs.Names.{first_in, place_of}
use Rattle.ex_selects.specs.Takers.{with_taker}
use Rattle.ex_selects.proofs.takers.add_items.Given as goal

abbrev pub invariant-loop-item : goal.invariant-loop-item
invariant-loop-item l =
    (other : List ℕ) → first_in other l.takers ≡ with_taker (is_some (place_of other (map (λ n. n.text) (take l.item-index l.items)))) (first_in other l.fn.takers) l.number
