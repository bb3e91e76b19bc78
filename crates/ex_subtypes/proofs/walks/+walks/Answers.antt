use Rattle.std.proofs.Common.{◌≡◌, ◌≤◌, ◌<◌, ◌+◌, ℕ, length, map, drop, take, get_or, sym, ◌∙◌, ap, subst, arith}
use Rattle.std.proofs.lemmas.Bool.Decides.{nat_tests}
use Rattle.std.proofs.lemmas.List.{take_rest}
use Rattle.std.proofs.lemmas.List.Sorted.{IsNonDecreasingBy-drop}
use Rattle.std.specs.List.Sorted.{IsNonDecreasing}
use Rattle.ex_subtypes.specs.declared.choices.Choice.TheVariants.{Nothing}
use Rattle.ex_subtypes.specs.Combinations.{joined}
use Rattle.ex_subtypes.specs.Nodes.{dealt, taken_at, with_part}
use Rattle.ex_subtypes.specs.Walks.{join_choices}
use Rattle.ex_subtypes.proofs.Placed.{nothing_taken, some_taken, taken-Entity, taken-Joined}
use Rattle.ex_subtypes.proofs.Tallies.{counted, goes_on, none_behind, none_counted, none_left, passed_over, rest, stops, turn, with_part-le}
use Rattle.ex_subtypes.proofs.walks.+walks.Goals as goal

pub taken_at-returns-then-is_empty : goal.taken_at-returns-then-is_empty
taken_at-returns-then-is_empty t c =
    let none : length c.args.places.now ≡ 0 = grind (arith, nat_tests) in
    sym (nothing_taken c.args.node.now c.args.places.now none)

pub taken_at-returns-in-Entity : goal.taken_at-returns-in-Entity
taken_at-returns-in-Entity t c =
    let some : 0 < length c.args.places.now = grind (arith, nat_tests) in
    sym (taken-Entity c.args.node.now c.args.places.now c.in-Entity.is ∙ some_taken c.args.places.now some)

pub taken_at-returns-in-Joined : goal.taken_at-returns-in-Joined
taken_at-returns-in-Joined t c =
    let way = c.in-Joined.way in
    let places = c.args.places.now in
    c.taken_of_all.ensures
    ∙ ap (λ ends. joined Nothing (join_choices way) (dealt (map taken_at c.as_slice-in-Joined.result.now) ends places)) c.as_slice.ensures.same
    ∙ ap (λ parts. joined Nothing (join_choices way) (dealt (map taken_at parts) c.in-Joined.ends places)) c.as_slice-in-Joined.ensures
    ∙ sym (taken-Joined c.args.node.now way c.in-Joined.ends c.in-Joined.parts places c.in-Joined.is)

pub taken_of_all-parts-init : goal.taken_of_all-parts-init
taken_of_all-parts-init t c = record {
  rising = c.requires.places;
  within = omega arith;
  few = omega arith;
  told = none_counted c.args.way c.args.parts.now c.args.ends.now c.args.places.now;
}

pub taken_of_all-returns-then-part-many : goal.taken_of_all-returns-then-part-many
taken_of_all-returns-then-part-many t c =
    let way = c.args.way in
    let parts = c.args.parts.now in
    let ends = c.args.ends.now in
    let left = c.parts.left.now in
    let part = c.parts.part in
    let count = c.parts.count in
    let j = c.passed-part.result in
    let before : (k : ℕ) → k < j → get_or (drop part ends) k 0 ≤ get_or left 0 0 = rw (take_rest ends part) at c.passed-part.ensures.before in
    let within : j ≤ length (drop part ends) = rw (take_rest ends part) at c.passed-part.ensures.within in
    let low : (k : ℕ) → k < j → (i : ℕ) → i < length left → get_or (drop part ends) k 0 ≤ get_or left i 0 = λ k h i g.
    let first : get_or left 0 0 ≤ get_or left i 0 = c.parts.invariant.rising 0 i 0 (omega arith) g in
    let here : get_or (drop part ends) k 0 ≤ get_or left 0 0 = before k h in
    omega (arith, first, here) in
    c.by_count.ensures ∙ sym (none_behind way (length parts) count parts ends (part + j) left (omega arith)) ∙ passed_over way (length parts) count parts ends left part j within low ∙ c.parts.invariant.told

pub taken_of_all-returns-then-is_neither : goal.taken_of_all-returns-then-is_neither
taken_of_all-returns-then-is_neither t c =
    let way = c.args.way in
    let parts = c.args.parts.now in
    let ends = c.args.ends.now in
    let left = c.parts.left.now in
    let part = c.parts.part in
    let count = c.parts.count in
    let j = c.passed-part.result in
    let before : (k : ℕ) → k < j → get_or (drop part ends) k 0 ≤ get_or left 0 0 = rw (take_rest ends part) at c.passed-part.ensures.before in
    let within : j ≤ length (drop part ends) = rw (take_rest ends part) at c.passed-part.ensures.within in
    let low : (k : ℕ) → k < j → (i : ℕ) → i < length left → get_or (drop part ends) k 0 ≤ get_or left i 0 = λ k h i g.
    let first : get_or left 0 0 ≤ get_or left i 0 = c.parts.invariant.rising 0 i 0 (omega arith) g in
    let here : get_or (drop part ends) k 0 ≤ get_or left 0 0 = before k h in
    omega (arith, first, here) in
    let node = c.index-parts-part.result in
    let m = c.count_before.result in
    let choice = c.taken_at-choice.result in
    let told = joined Nothing (join_choices way) (dealt (map taken_at parts) ends c.args.places.now) in
    let is : choice ≡ taken_at (get_or parts (part + j) node) (take m left) = c.taken_at-choice.ensures ∙ ap (λ n. taken_at n c.split_at.result.0.now) c.index-parts-part.is ∙ ap (taken_at (get_or parts (part + j) node)) c.split_at.ensures.front in
    let so_far = turn way (length parts) count parts ends left part j m node told choice within low (omega arith) (omega arith) c.count_before.ensures.before c.count_before.ensures.behind is c.parts.invariant.told in
    sym (stops way (length parts) count choice (rest parts ends ((part + j) + 1) (drop m left)) (sym c.is_neither.ensures ∙ c.if-is_neither.true)) ∙ so_far

pub taken_of_all-parts-preserved : goal.taken_of_all-parts-preserved
taken_of_all-parts-preserved t c =
    let way = c.args.way in
    let parts = c.args.parts.now in
    let ends = c.args.ends.now in
    let left = c.parts.left.now in
    let part = c.parts.part in
    let count = c.parts.count in
    let j = c.passed-part.result in
    let before : (k : ℕ) → k < j → get_or (drop part ends) k 0 ≤ get_or left 0 0 = rw (take_rest ends part) at c.passed-part.ensures.before in
    let within : j ≤ length (drop part ends) = rw (take_rest ends part) at c.passed-part.ensures.within in
    let low : (k : ℕ) → k < j → (i : ℕ) → i < length left → get_or (drop part ends) k 0 ≤ get_or left i 0 = λ k h i g.
    let first : get_or left 0 0 ≤ get_or left i 0 = c.parts.invariant.rising 0 i 0 (omega arith) g in
    let here : get_or (drop part ends) k 0 ≤ get_or left 0 0 = before k h in
    omega (arith, first, here) in
    let node = c.index-parts-part.result in
    let m = c.count_before.result in
    let choice = c.taken_at-choice.result in
    let told = joined Nothing (join_choices way) (dealt (map taken_at parts) ends c.args.places.now) in
    let is : choice ≡ taken_at (get_or parts (part + j) node) (take m left) = c.taken_at-choice.ensures ∙ ap (λ n. taken_at n c.split_at.result.0.now) c.index-parts-part.is ∙ ap (taken_at (get_or parts (part + j) node)) c.split_at.ensures.front in
    let so_far = turn way (length parts) count parts ends left part j m node told choice within low (omega arith) (omega arith) c.count_before.ensures.before c.count_before.ensures.behind is c.parts.invariant.told in
    let more = with_part-le count choice in
    record {
      rising = subst IsNonDecreasing (sym c.split_at.ensures.back) (IsNonDecreasingBy-drop (λ x. x) m left c.parts.invariant.rising);
      within = omega arith;
      few = omega (arith, more, c.parts.invariant.few);
      told =
          ap (λ n. counted way (length parts) n (rest parts ends ((part + j) + 1) c.split_at.result.1.now)) c.with_part-count.ensures
          ∙ ap (λ ps. counted way (length parts) (with_part count choice) (rest parts ends ((part + j) + 1) ps)) c.split_at.ensures.back
          ∙ sym (goes_on way (length parts) count choice (rest parts ends ((part + j) + 1) (drop m left)) (sym c.is_neither.ensures ∙ c.if-is_neither.false))
          ∙ so_far;
    }

pub taken_of_all-returns : goal.taken_of_all-returns
taken_of_all-returns t c =
    let parts = c.args.parts.now in
    let none : length c.parts.left.now ≤ 0 = grind (arith, nat_tests) in
    c.by_count-2.ensures ∙ sym (none_left c.args.way (length parts) c.parts.count parts c.args.ends.now c.parts.part c.parts.left.now none) ∙ c.parts.invariant.told
