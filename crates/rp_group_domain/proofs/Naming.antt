-- What a name in a model stands for in a population.
use Rattle.std.proofs.Common.{◌≡◌, ℕ, suc, ◌+◌, Bool, true, false, not, cond, List, [], ◌∷◌, length, take, Some, refl, sym, ◌∙◌, ap, arith}
use Rattle.std.specs.Prelude.{if◌then◌else◌, min, slice_get}
use Rattle.std.specs.List.{list_any, position_or_len}
use Rattle.rp_content.specs.declared.instance.Instance.{Instance}
use Rattle.rp_content.specs.declared.link.Link.{Link}
use Rattle.rp_population.specs.Populations.{Counted, Placed, beside, links_to, placed, population, same_place, stands_for}
use Rattle.rp_positions.specs.Positions.{IsSearchable, position_of}
use Rattle.rp_group_domain.specs.Models.{AreNamesOf, CanName, IsPopulation, Names, named_at, own_at, place_of, targets_of}
use Rattle.rp_group_domain.proofs.Linking.{linked_walk, same_place-sym}
use Rattle.rp_group_domain.proofs.PlaceOrder.{tied_places}
use Rattle.rp_group_domain.proofs.Standing.{is_place, holds_at, own_stands, own_within}
use Rattle.rp_group_domain.proofs.Walks.{first_of_either, same_test}

position_walked : (x : Placed) (name : ℕ) (xs : List Placed) → position_of xs x name ≡ position_or_len (λ (y : Placed). stands_for y.place x name) xs
unfolding position_of
position_walked x name [] = refl
position_walked x name (y ∷ xs) = by (stands_for y.place x name) (position_walked x name xs)
  where
    by : (t : Bool) → position_of xs x name ≡ position_or_len (λ (z : Placed). stands_for z.place x name) xs
        → (if t then 0 else suc (position_of xs x name)) ≡ cond (not t) (1 + position_or_len (λ (z : Placed). stands_for z.place x name) xs) 0
    by true rest = refl
    by false rest = omega arith

-- those of the model at a place
abbrev pub names_at : List Counted → List Placed → ℕ → Counted → Names
names_at ms xs at m = record {
  instances = m.content.instances;
  start = length (population (take at ms));
  count = length xs;
  links = m.content.links;
  targets = targets_of xs m.content.links;
}

module _ (ms : List Counted) (xs : List Placed) (counted : IsPopulation ms xs) (at : ℕ) (m : Counted) (is : slice_get ms at ≡ Some m) where
  own_is : (i : Instance) (name : ℕ) → position_or_len (λ (y : Placed). same_place y.place (beside (placed m i) name)) xs ≡ own_at (names_at ms xs at m) (place_of m.content.instances name)
  own_is i name =
      same_test (λ (y : Placed). same_place y.place (beside (placed m i) name)) (is_place m.model name)
      (λ y. same_place-sym y.place (beside (placed m i) name) ∙ sym (tied_places (beside (placed m i) name) y)) xs
      ∙ rw counted.all (own_stands ms at m name counted.order.models is)

  searchable : IsSearchable m.content
  searchable = holds_at (λ (n : Counted). IsSearchable n.content) ms at m is counted.order.contents

  pub can_name : CanName (names_at ms xs at m)
  can_name = record { within = rw counted.all (own_within ms at m is); links = searchable.links }

  pub all_named : AreNamesOf xs m (names_at ms xs at m)
  unfolding named_at
  all_named i name =
      sym (
      position_walked (placed m i) name xs
      ∙ first_of_either (λ (y : Placed). same_place y.place (beside (placed m i) name)) (λ (y : Placed). list_any (links_to name y.place) m.content.links) xs
      ∙ (λ j. min (own_is i name j) (linked_walk name m.content.links searchable.links xs j))
      )

-- names that are made of these are those
abbrev pub made_of : List Placed → List Instance → ℕ → List Link → List ℕ → Names
made_of xs instances start links targets = record { instances = instances; start = start; count = length xs; links = links; targets = targets }

pub made_are : (ms : List Counted) (xs : List Placed) (at : ℕ) (m : Counted) (instances : List Instance) (start : ℕ) (links : List Link) (targets : List ℕ)
    → instances ≡ m.content.instances → start ≡ length (population (take at ms)) → links ≡ m.content.links → targets ≡ targets_of xs links
    → made_of xs instances start links targets ≡ names_at ms xs at m
made_are ms xs at m instances start links targets all starts linked lead =
    let same : targets ≡ targets_of xs m.content.links = lead ∙ ap (targets_of xs) linked in
    λ i. record { instances = all i; start = starts i; count = length xs; links = linked i; targets = same i }
