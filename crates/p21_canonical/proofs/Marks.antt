-- Which attributes are derived, by their places.
use Rattle.std.proofs.Common.{◌≡◌, ℕ, zero, suc, false, List, [], ◌∷◌, Option, Some, None, length, slice_get, slice_index_or, refl, ap}
use Rattle.ex_slots.specs.Slots.{Slot}
use Rattle.p21_canonical.specs.Trees.{marks_of}

pub many : (ss : List Slot) → length (marks_of ss) ≡ length ss
many [] = refl
many (s ∷ ss) = ap suc (many ss)

pub marked : (ss : List Slot) (place : ℕ) (s : Slot) → slice_get ss place ≡ Some s → slice_index_or (marks_of ss) place false ≡ s.is_derived
marked [] place s is = cc
marked (x ∷ ss) zero s is = let same : x ≡ s = cc in ap (λ s. s.is_derived) same
marked (x ∷ ss) (suc place) s is = marked ss place s is

pub unmarked : (ss : List Slot) (place : ℕ) → slice_get ss place ≡ None → slice_index_or (marks_of ss) place false ≡ false
unmarked [] place is = refl
unmarked (x ∷ ss) zero is = cc
unmarked (x ∷ ss) (suc place) is = unmarked ss place is
