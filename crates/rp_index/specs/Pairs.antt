-- Pairs of numbers, and which of them something has.
use Rattle.std.specs.Prelude.{◌≡◌, ◌≢◌, ℕ, Bool, true, List}
use Rattle.std.specs.List.{list_all, list_any}
use Rattle.std.specs.Ordering.{nat_cmp, ordering_then, is_eq}
use Rattle.std.specs.declared.cmp.Ordering.{Ordering}

abbrev pub pair_cmp : ℕ × ℕ → ℕ × ℕ → Ordering
pair_cmp p q = ordering_then (nat_cmp p.0 q.0) (nat_cmp p.1 q.1)

abbrev pub has_pair : List (ℕ × ℕ) → ℕ × ℕ → Bool
has_pair pairs q = list_any (λ p. is_eq (pair_cmp q p)) pairs

-- all of these pass the test
abbrev pub HasAll : (ℕ × ℕ → Bool) → List (ℕ × ℕ) → Type 0
HasAll has pairs = list_all has pairs ≡ true

-- what passed the former test passes the later
abbrev pub Grows : (ℕ × ℕ → Bool) → (ℕ × ℕ → Bool) → Type 0
Grows former later = (q : ℕ × ℕ) → former q ≡ true → later q ≡ true

-- the same of all pairs but those that this number is the second of
abbrev pub KeepsOthers : ℕ → (ℕ × ℕ → Bool) → (ℕ × ℕ → Bool) → Type 0
KeepsOthers n former later = (q : ℕ × ℕ) → q.1 ≢ n → former q ≡ true → later q ≡ true
