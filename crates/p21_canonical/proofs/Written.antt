-- What is left of a list while it is written.
use Rattle.std.proofs.Common.{◌≡◌, ℕ, zero, suc, Bool, true, false, List, [], ◌∷◌, ◌++◌, length, map, drop, refl, sym, ◌∙◌, ap, append_assoc, append-nil, ◌<◌, ◌≤◌, ◌+◌, ◌%◌, arith}
use Rattle.p21_spelling.specs.Tokens.{enclosed}
use Rattle.p21_spelling.specs.Values.{Spelling, more, listed}
use Rattle.p21_canonical.specs.Binaries.{digits, unused, binary}

pub map_twice : {A B C : Type 0} (f : B → C) (g : A → B) (xs : List A) → map f (map g xs) ≡ map (λ x. f (g x)) xs
map_twice f g [] = refl
map_twice f g (x ∷ xs) = ap (λ l. f (g x) ∷ l) (map_twice f g xs)

-- the next is the first, or isn't
abbrev pub left : Bool → List Spelling → List ℕ
left true vs = listed vs
left false vs = more vs

-- the marks of a list around its items, of which none are left
pub closed : (old out : List ℕ) (b : Bool) (rest texts : List Spelling) → rest ≡ [] → out ++ left b rest ≡ old ++ 40 ∷ listed texts → out ++ 41 ∷ [] ≡ old ++ enclosed (listed texts)
closed old out b rest texts none written =
    let all : out ≡ old ++ 40 ∷ listed texts = sym (append-nil out) ∙ ap (λ l. out ++ l) (sym (nothing b)) ∙ ap (λ l. out ++ left b l) (sym none) ∙ written in
    ap (λ l. l ++ 41 ∷ []) all ∙ append_assoc old (40 ∷ listed texts) (41 ∷ [])
  where
    nothing : (b : Bool) → left b [] ≡ []
    nothing true = refl
    nothing false = refl

drop_past : {A : Type 0} (n : ℕ) (vs : List A) → length vs ≤ n → drop n vs ≡ []
drop_past zero [] past = refl
drop_past (suc n) [] past = refl
drop_past zero (v ∷ vs) past = absurd (omega arith)
drop_past (suc n) (v ∷ vs) past = drop_past n vs (omega arith)

-- of a list that was gone through by places
pub list_written : {A : Type 0} (text : A → Spelling) (old out : List ℕ) (b : Bool) (vs : List A) (n : ℕ) → length vs ≤ n
    → out ++ left b (map text (drop n vs)) ≡ old ++ 40 ∷ listed (map text vs) → out ++ 41 ∷ [] ≡ old ++ enclosed (listed (map text vs))
list_written text old out b vs n past = closed old out b (map text (drop n vs)) (map text vs) (ap (map text) (drop_past n vs past))

-- a keyword and its marks around a value
pub typed_written : (old a p w k t : List ℕ) → a ≡ old ++ k → p ≡ a ++ 40 ∷ [] → w ≡ p ++ t → w ++ 41 ∷ [] ≡ old ++ (k ++ enclosed t)
typed_written old a p w k t e1 e2 e3 = rw (e3, e2, e1) (simp append_assoc)

-- ---- binaries

-- the first digit, which the bits that are no whole group have, and those behind it
pub first_and_groups : (first groups : List Bool) → length first < 4 → digits (unused (length first) ++ (first ++ groups)) ≡ digits (unused (length first) ++ first) ++ digits groups
first_and_groups [] groups small = refl
first_and_groups (a ∷ []) groups small = refl
first_and_groups (a ∷ b ∷ []) groups small = refl
first_and_groups (a ∷ b ∷ c ∷ []) groups small = refl
first_and_groups (a ∷ b ∷ c ∷ d ∷ first) groups small = absurd (omega arith)

pub binary_in_parts : (bits first groups : List Bool) → length first ≡ length bits % 4 → first ++ groups ≡ bits
    → binary bits ≡ (48 + length (unused (length first))) ∷ (digits (unused (length first) ++ first) ++ digits groups)
unfolding binary
binary_in_parts bits first groups count whole =
    ap (λ n. (48 + length (unused n)) ∷ digits (unused n ++ bits)) (sym count)
    ∙ ap (λ b. (48 + length (unused (length first))) ∷ digits (unused (length first) ++ b)) (sym whole)
    ∙ ap (λ l. (48 + length (unused (length first))) ∷ l) (first_and_groups first groups (omega arith))

-- what is written of a binary, one after another
pub binary_written : (old a n f g : List ℕ) (count : ℕ) (first groups : List ℕ) → a ≡ old ++ 34 ∷ [] → n ≡ a ++ count ∷ [] → f ≡ n ++ first → g ≡ f ++ groups
    → g ++ 34 ∷ [] ≡ old ++ 34 ∷ (count ∷ (first ++ groups) ++ 34 ∷ [])
binary_written old a n f g count first groups e1 e2 e3 e4 = rw (e4, e3, e2, e1) (simp append_assoc)
