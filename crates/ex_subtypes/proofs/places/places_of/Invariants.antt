use Rattle.std.proofs.Common.{◌≡◌, ◌||◌, ℕ, drop}
use Rattle.std.specs.List.{list_any}
use Rattle.plain_data.specs.Numbers.{is_among}
use Rattle.ex_subtypes.specs.Places.{is_place_of}
use Rattle.ex_subtypes.proofs.places.places_of.Given as goal

abbrev pub invariant-loop-number : goal.invariant-loop-number
invariant-loop-number l =
    (place : ℕ) → (is_among l.found.items place || list_any (λ n. is_place_of l.places l.members n place) (drop l.number-index l.numbers)) ≡ list_any (λ n. is_place_of l.places l.members n place) l.numbers
