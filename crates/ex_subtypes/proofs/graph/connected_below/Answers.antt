use Rattle.std.proofs.Common.{◌≡◌, ◌↔◌, ℕ, true, zero, length, ◌&&◌, ◌||◌, ◌==◌, nat_lt, sym, ◌∙◌, ap}
use Rattle.std.specs.List.{list_all}
use Rattle.plain_data.specs.Numbers.{is_among}
use Rattle.graphs.specs.Graphs.{numbers_from, supertypes, IsAncestor}
use Rattle.ex_subtypes.specs.Legal as spec
use Rattle.ex_subtypes.proofs.Connected.{are_below, connected_told}
use Rattle.ex_subtypes.proofs.graph.connected_below.Goals as goal

pub returns-then-are_reached-clause-connected : goal.returns-then-are_reached-clause-connected
returns-then-are_reached-clause-connected c =
    let above = spec.graph c.args.entities.now in
    let set = c.args.set.now in
    let up = c.in_ok-up.up.items in
    let down = c.in_ok-down.down.items in
    let both = c.in_ok-both.both.items in
    let found = c.in_ok-reached.reached.keys in
    let down_is : (e n : ℕ) → is_among (supertypes down e) n ≡ (nat_lt e (length up) && is_among (supertypes up n) e) = rw c.deref.ensures.value at c.in_ok-down.ensures.turned in
    let both_is : (e n : ℕ) → is_among (supertypes both e) n ≡ (is_among (supertypes up e) n || is_among (supertypes down e) n) = rw (c.deref-2.ensures.value, c.deref-3.ensures.value) at c.in_ok-both.ensures in
    let exact : (a : ℕ) → (is_among found a ≡ true) ↔ IsAncestor both zero a = rw c.deref-4.ensures.value at c.in_ok-reached.ensures in
    sym c.if-are_reached.true ∙ c.are_reached.ensures
    ∙ ap (λ l. nat_lt zero (length l) && list_all (λ place. place == zero || is_among found place) (numbers_from zero (length l))) c.as_slice.ensures.same
    ∙ connected_told above set up down c.in_ok-up.ensures.length c.in_ok-up.ensures.up down_is both found both_is exact

pub returns-then-are_reached-clause-below : goal.returns-then-are_reached-clause-below
returns-then-are_reached-clause-below c =
    let up = c.in_ok-up.up.items in
    let down = c.in_ok-down.down.items in
    let down_is : (e n : ℕ) → is_among (supertypes down e) n ≡ (nat_lt e (length up) && is_among (supertypes up n) e) = rw c.deref.ensures.value at c.in_ok-down.ensures.turned in
    are_below (spec.graph c.args.entities.now) c.args.set.now up down c.in_ok-up.ensures.length c.in_ok-up.ensures.up down_is

pub returns-clause-connected : goal.returns-clause-connected
returns-clause-connected c =
    let above = spec.graph c.args.entities.now in
    let set = c.args.set.now in
    let up = c.in_ok-up.up.items in
    let down = c.in_ok-down.down.items in
    let both = c.in_ok-both.both.items in
    let found = c.in_ok-reached.reached.keys in
    let down_is : (e n : ℕ) → is_among (supertypes down e) n ≡ (nat_lt e (length up) && is_among (supertypes up n) e) = rw c.deref.ensures.value at c.in_ok-down.ensures.turned in
    let both_is : (e n : ℕ) → is_among (supertypes both e) n ≡ (is_among (supertypes up e) n || is_among (supertypes down e) n) = rw (c.deref-2.ensures.value, c.deref-3.ensures.value) at c.in_ok-both.ensures in
    let exact : (a : ℕ) → (is_among found a ≡ true) ↔ IsAncestor both zero a = rw c.deref-4.ensures.value at c.in_ok-reached.ensures in
    sym c.if-are_reached.false ∙ c.are_reached.ensures
    ∙ ap (λ l. nat_lt zero (length l) && list_all (λ place. place == zero || is_among found place) (numbers_from zero (length l))) c.as_slice.ensures.same
    ∙ connected_told above set up down c.in_ok-up.ensures.length c.in_ok-up.ensures.up down_is both found both_is exact
