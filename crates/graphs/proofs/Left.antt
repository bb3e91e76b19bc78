-- What is left of a graph: a weight for each member that isn't found yet.
use Rattle.std.proofs.Common.{◌≡◌, ℕ, zero, suc, ◌+◌, ◌<◌, ◌≤◌, true, false, ◌||◌, ◌==◌, nat_lt, List, [], ◌∷◌, ◌++◌, length, length-append, get_or, ⊎_elim, refl, arith, if◌then◌else◌}
use Rattle.std.proofs.lemmas.Bool.{cases_Bool}
use Rattle.std.proofs.lemmas.List.{get_or_past}
use Rattle.std.proofs.lemmas.Bool.Decides.{nat_tests}
use Rattle.plain_data.specs.Numbers.{is_among}
use Rattle.graphs.specs.Graphs.{supertypes}

-- the weights of the members from k on that aren't found
pub left_from : (List ℕ → ℕ) → ℕ → List (List ℕ) → List ℕ → ℕ
left_from weight k [] found = 0
left_from weight k (s ∷ graph) found = (if is_among found k then 0 else weight s) + left_from weight (k + 1) graph found

pub left : (List ℕ → ℕ) → List (List ℕ) → List ℕ → ℕ
left weight graph found = left_from weight 0 graph found

apart_one : (m n : ℕ) → (m < n) → (m == n) ≡ false
apart_one m n h = grind (arith, nat_tests)

apart_more : (m n : ℕ) → (n < m) → (m == n) ≡ false
apart_more m n h = grind (arith, nat_tests)

same_one : (m n : ℕ) → m ≡ n → (m == n) ≡ true
same_one m n h = grind (arith, nat_tests)

module _ (weight : List ℕ → ℕ) (found more : List ℕ) (e : ℕ) (adds : (n : ℕ) → is_among more n ≡ ((e == n) || is_among found n)) where
  same_from : (k : ℕ) (graph : List (List ℕ)) → ((n : ℕ) → k ≤ n → n < k + length graph → (e == n) ≡ false) → left_from weight k graph more ≡ left_from weight k graph found
  unfolding left_from
  same_from k [] apart = refl
  same_from k (s ∷ graph) apart =
      let other : (e == k) ≡ false = apart k (omega arith) (omega arith) in
      rw (adds k, other, same_from (k + 1) graph (λ n low high. apart n (omega arith) (omega arith))) refl

  less_from : (k j : ℕ) (graph : List (List ℕ)) → e ≡ k + j → j < length graph → is_among found e ≡ false → left_from weight k graph more + weight (get_or graph j []) ≡ left_from weight k graph found
  unfolding left_from
  less_from k j [] is within fresh = absurd (omega arith)
  less_from k zero (s ∷ graph) is within fresh =
      let here : e ≡ k = omega arith in
      let new : is_among found k ≡ false = rw (← here) fresh in
      let rest = same_from (k + 1) graph (λ n low high. apart_one e n (omega arith)) in
      rw (adds k, same_one e k here, new, rest) (omega arith)
  less_from k (suc j) (s ∷ graph) is within fresh =
      let other : (e == k) ≡ false = apart_more e k (omega arith) in
      let rest = less_from (k + 1) j graph (omega arith) (omega arith) fresh in
      rw (adds k, other) (omega arith)

  -- a member that is found takes its weight from what is left
  pub left_less : (graph : List (List ℕ)) → e < length graph → is_among found e ≡ false → left weight graph more + weight (get_or graph e []) ≡ left weight graph found
  unfolding left
  left_less graph within fresh = less_from 0 e graph (omega arith) within fresh

  pub left_beyond : (graph : List (List ℕ)) → length graph ≤ e → left weight graph more ≡ left weight graph found
  unfolding left
  left_beyond graph beyond = same_from 0 graph (λ n low high. apart_more e n (omega arith))

pub within_or : (e n : ℕ) → nat_lt e n ≡ true → e < n
within_or e n h = grind (arith, nat_tests)

pub beyond_or : (e n : ℕ) → nat_lt e n ≡ false → n ≤ e
beyond_or e n h = grind (arith, nat_tests)

-- a member is found, and its supertypes are to be looked at in its place
pub new_is_less : (graph : List (List ℕ)) (found more rest : List ℕ) (next : ℕ) → ((n : ℕ) → is_among more n ≡ ((next == n) || is_among found n)) → is_among found next ≡ false
    → length (rest ++ supertypes graph next) + left length graph more < length (rest ++ next ∷ []) + left length graph found
new_is_less graph found more rest next adds fresh = ⊎_elim
    (λ (within : nat_lt next (length graph) ≡ true).
    let less = left_less length found more next adds graph (within_or next (length graph) within) fresh in
    rw (length-append rest (supertypes graph next), length-append rest (next ∷ [])) (omega arith))
    (λ (beyond : nat_lt next (length graph) ≡ false).
    let same = left_beyond length found more next adds graph (beyond_or next (length graph) beyond) in
    let none : supertypes graph next ≡ [] = get_or_past graph next [] (beyond_or next (length graph) beyond) in
    rw (none, length-append rest [], length-append rest (next ∷ [])) (omega arith))
    (cases_Bool (nat_lt next (length graph)))

all_from : (k : ℕ) (graph : List (List ℕ)) → left_from (λ s. 1) k graph [] ≡ length graph
unfolding left_from
all_from k [] = refl
all_from k (s ∷ graph) = let rest = all_from (k + 1) graph in omega arith

-- one for each member
pub left_all : (graph : List (List ℕ)) → left (λ s. 1) graph [] ≡ length graph
unfolding left
left_all graph = all_from 0 graph
