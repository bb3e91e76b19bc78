-- Where a word stands among the reserved words, by its first letter.
use Rattle.std.proofs.Common.{◌≡◌, ℕ, zero, suc, ◌+◌, ◌-◌, ◌<◌, ◌≤◌, Bool, true, false, not, ◌&&◌, if◌then◌else◌, nat_eq, nat_le, List, [], ◌∷◌, ◌++◌, length, map, take, drop, slice_index, refl, sym, ap, ◌∙◌, inl, inr, arith}
use Rattle.std.specs.List.{list_all}
use Rattle.std.specs.Cmp.Lexicographic.{pointwise}
use Rattle.std.specs.Char.{is_ascii_alphabetic, to_ascii_lowercase}
use Rattle.std.specs.Str.{str_eq_ignore_ascii_case}
use Rattle.std.proofs.lemmas.Bool.{cases_Bool}
use Rattle.std.proofs.lemmas.Bool.Decides.{nat_tests}
use Rattle.std.proofs.Math.ListN.{take-append-drop}
use Rattle.ex_tree.specs.declared.kind.TokenKind.TheVariants as k
use Rattle.ex_lex.specs.declared.words.TheConstants.{WORDS, STARTS}
use Rattle.ex_lex.specs.Words.{Row, reserved, kind_in, kind_of}

both : (a b : Bool) → (a && b) ≡ true → (a ≡ true) × (b ≡ true)
both true b h = (refl, h)
both false b h = cc

-- the row's word begins with another letter
abbrev other : ℕ → Row → Bool
other l row = not (nat_eq (to_ascii_lowercase (slice_index row.0 0)) (97 + l))

differs : (l w : ℕ) (ws text : List ℕ) → to_ascii_lowercase w ≡ 97 + l → not (nat_eq (to_ascii_lowercase (slice_index text 0)) (97 + l)) ≡ true
    → str_eq_ignore_ascii_case text (w ∷ ws) ≡ false
differs l w ws [] is unlike = refl
differs l w ws (r ∷ rs) is unlike =
    let apart : nat_eq (to_ascii_lowercase r) (to_ascii_lowercase w) ≡ false = rw is (grind (arith, nat_tests)) in
    ap (λ b. b && pointwise nat_eq (map to_ascii_lowercase rs) (map to_ascii_lowercase ws)) apart

skip : (row : Row) (rows : List Row) (word : List ℕ) → str_eq_ignore_ascii_case (row.0) word ≡ false → kind_in (row ∷ rows) word ≡ kind_in rows word
skip row rows word unlike = ap (λ b. if b then row.1 else kind_in rows word) unlike

hit : (row : Row) (rows : List Row) (word : List ℕ) → str_eq_ignore_ascii_case (row.0) word ≡ true → kind_in (row ∷ rows) word ≡ row.1
hit row rows word alike = ap (λ b. if b then row.1 else kind_in rows word) alike

module _ (l w : ℕ) (ws : List ℕ) (is : to_ascii_lowercase w ≡ 97 + l) where
  none : (rows : List Row) → list_all (other l) rows ≡ true → kind_in rows (w ∷ ws) ≡ k.Identifier
  none [] all = refl
  none (row ∷ rows) all =
      let parts = both (other l row) (list_all (other l) rows) all in
      skip row rows (w ∷ ws) (differs l w ws (row.0) is (parts.0)) ∙ none rows (parts.1)

  after : (rows more : List Row) → list_all (other l) rows ≡ true → kind_in (rows ++ more) (w ∷ ws) ≡ kind_in more (w ∷ ws)
  after [] more all = refl
  after (row ∷ rows) more all =
      let parts = both (other l row) (list_all (other l) rows) all in
      skip row (rows ++ more) (w ∷ ws) (differs l w ws (row.0) is (parts.0)) ∙ after rows more (parts.1)

  before : (rows more : List Row) → list_all (other l) more ≡ true → kind_in (rows ++ more) (w ∷ ws) ≡ kind_in rows (w ∷ ws)
  before [] more all = none more all
  before (row ∷ rows) more all =
      elim (cases_Bool (str_eq_ignore_ascii_case (row.0) (w ∷ ws))) [
        | inl alike ↦ hit row (rows ++ more) (w ∷ ws) alike ∙ sym (hit row rows (w ∷ ws) alike)
        | inr unlike ↦ skip row (rows ++ more) (w ∷ ws) unlike ∙ before rows more all ∙ sym (skip row rows (w ∷ ws) unlike)
      ]

  among : (rows : List Row) (s n : ℕ) → list_all (other l) (take s rows) ≡ true → list_all (other l) (drop n (drop s rows)) ≡ true
      → kind_in (take n (drop s rows)) (w ∷ ws) ≡ kind_in rows (w ∷ ws)
  among rows s n front back =
      sym (before (take n (drop s rows)) (drop n (drop s rows)) back)
      ∙ ap (λ r. kind_in r (w ∷ ws)) (take-append-drop n (drop s rows))
      ∙ sym (after (take s rows) (drop s rows) front)
      ∙ ap (λ r. kind_in r (w ∷ ws)) (take-append-drop s rows)

-- ---- the two tables

abbrev starts : ℕ → ℕ
starts l = slice_index STARTS l

-- the words of this letter are those from its start up to the next
abbrev ordered : ℕ → Bool
ordered l = nat_le (starts l) (starts (l + 1)) && nat_le (starts (l + 1)) (length WORDS)

abbrev front : ℕ → Bool
front l = list_all (other l) (take (starts l) reserved)

abbrev back : ℕ → Bool
back l = list_all (other l) (drop (starts (l + 1) - starts l) (drop (starts l) reserved))

abbrev parted : ℕ → Bool
parted l = ordered l && (front l && back l)

abbrev all_below : ℕ → (ℕ → Bool) → Bool
all_below zero test = true
all_below (suc n) test = test n && all_below n test

below : (n : ℕ) (test : ℕ → Bool) → all_below n test ≡ true → (l : ℕ) → l < n → test l ≡ true
below zero test all l less = absurd (omega arith)
below (suc n) test all l less =
    let parts = both (test n) (all_below n test) all in
    elim (cases_Bool (nat_eq l n)) [
      | inl same ↦ let e : l ≡ n = grind (arith, nat_tests) in rw e (parts.0)
      | inr apart ↦ let smaller : l < n = grind (arith, nat_tests) in below n test (parts.1) l smaller
    ]

each_parted : all_below 26 parted ≡ true
unfolding reserved
each_parted = refl

pub starts_ordered : (l : ℕ) → l < 26 → (starts l ≤ starts (l + 1)) × (starts (l + 1) ≤ length WORDS)
starts_ordered l less =
    let parts = both (ordered l) (front l && back l) (below 26 parted each_parted l less) in
    let bounds = both (nat_le (starts l) (starts (l + 1))) (nat_le (starts (l + 1)) (length WORDS)) (parts.0) in
    let ordered : starts l ≤ starts (l + 1) = grind (arith, nat_tests) in
    let within : starts (l + 1) ≤ length WORDS = grind (arith, nat_tests) in
    (ordered, within)

pub kind_by_letter : (l : ℕ) (word : List ℕ) → l < 26 → to_ascii_lowercase (slice_index word 0) ≡ 97 + l
    → kind_in (take (starts (l + 1) - starts l) (drop (starts l) reserved)) word ≡ kind_of word
unfolding kind_of
kind_by_letter l [] less is = absurd (omega arith)
kind_by_letter l (w ∷ ws) less is =
    let parts = both (ordered l) (front l && back l) (below 26 parted each_parted l less) in
    let sides = both (front l) (back l) (parts.1) in
    among l w ws is reserved (starts l) (starts (l + 1) - starts l) (sides.0) (sides.1)

pub letter_of : (b : ℕ) → is_ascii_alphabetic b ≡ true → (97 ≤ to_ascii_lowercase b) × (to_ascii_lowercase b < 123)
letter_of b is = (grind (arith, nat_tests), grind (arith, nat_tests))
