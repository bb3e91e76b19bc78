-- Lines and columns: the bytes behind the last line feed, and how many feeds there are.
use Rattle.std.proofs.Common.{◌≡◌, ℕ, ◌+◌, ◌-◌, ◌≤◌, Bool, true, not, ◌==◌, List, ◌++◌, length, length-append, take, drop, reverse, slice_index, cond, eqb, refl, sym, ◌∙◌, ap, arith, inl, inr}
use Rattle.std.proofs.lemmas.Bool.{cases_Bool}
use Rattle.std.proofs.lemmas.List.Sums.{suffix_len_is}
use Rattle.std.proofs.lemmas.Bool.Decides.{nat_tests}
use Rattle.std.proofs.lemmas.Grind.{common_steps}
use Rattle.std.proofs.lemmas.List.{reverse-append, length-reverse, take-append-drop, drop-take}
use Rattle.std.proofs.lemmas.List.Folds.{prefix_len-append}
use Rattle.std.proofs.lemmas.List.Sums.{sum_by-append, suffix_len-le-length, count_by-le-length}
use Rattle.std.specs.Prelude.{if◌then◌else◌}
use Rattle.std.specs.List.{count_by, suffix_len, prefix_len}
use Rattle.memchr.specs.Find.{NoneAfter, Nowhere, Passes, is_byte}
use Rattle.ex_check.specs.Check.{is_line_feed, line, column, column_behind}

abbrev pub is_no_feed : ℕ → Bool
is_no_feed b = not (is_line_feed b)

is_none : (b : ℕ) → ¬ ((b == 10) ≡ true) → is_no_feed b ≡ true
is_none b h = elim (cases_Bool (b == 10)) [ inl is ↦ absurd (h is) | inr is_not ↦ rw is_not refl ]

pub behind_a_feed : (z : List ℕ) (i : ℕ) → NoneAfter (Passes (is_byte 10) z) 0 (length z) i → Passes (is_byte 10) z i → length z - i ≡ suffix_len is_no_feed z + 1
behind_a_feed z i after is =
    let e : suffix_len is_no_feed z ≡ length z - (i + 1) =
    suffix_len_is is_no_feed z (i + 1) 0 (omega arith) (λ k low high. is_none (slice_index z k) (after.after k low high)) (λ _. let same : (i + 1) - 1 ≡ i = omega arith in rw (same, is) refl) in
    omega arith

pub without_a_feed : (z : List ℕ) → Nowhere (Passes (is_byte 10) z) 0 (length z) → length z + 1 ≡ suffix_len is_no_feed z + 1
without_a_feed z none =
    let e : suffix_len is_no_feed z ≡ length z - 0 =
    suffix_len_is is_no_feed z 0 0 (omega arith) (λ k low high. is_none (slice_index z k) (none k low high)) (λ h. absurd (omega arith)) in
    omega arith

-- ---- the column behind bytes of which the first stands in this one

pub behind_last : (z : List ℕ) (column n : ℕ) → n ≤ length z → n ≡ suffix_len is_no_feed z + 1 → n ≡ column_behind z column
behind_last z column n within is = grind (arith, nat_tests)

pub behind_none : (z : List ℕ) (column : ℕ) → length z + 1 ≡ suffix_len is_no_feed z + 1 → column + length z ≡ column_behind z column
behind_none z column is = grind (arith, nat_tests)

chosen : (n m c : ℕ) → cond (eqb n m) (m + c) n + 1 ≡ (if n == m then (c + 1) + m else n + 1)
chosen n m c = grind (arith, nat_tests)

pub column_joined : (xs ys : List ℕ) → suffix_len is_no_feed (xs ++ ys) + 1 ≡ column_behind ys (suffix_len is_no_feed xs + 1)
column_joined xs ys =
    ap (λ zs. prefix_len is_no_feed zs + 1) (reverse-append xs ys)
    ∙ ap (λ n. n + 1) (prefix_len-append is_no_feed (reverse ys) (reverse xs))
    ∙ rw (length-reverse ys) (chosen (suffix_len is_no_feed ys) (length ys) (suffix_len is_no_feed xs))

pub feeds_joined : (xs ys : List ℕ) → count_by is_line_feed (xs ++ ys) + 1 ≡ (count_by is_line_feed xs + 1) + count_by is_line_feed ys
feeds_joined xs ys = let e = sum_by-append (λ b. cond (is_line_feed b) 1 0) xs ys in omega (arith, e)

-- ---- from one byte of a text to a later one

front_joined : (a m : ℕ) (xs : List ℕ) → take a xs ++ take m (drop a xs) ≡ take (a + m) xs
front_joined a m xs =
    let parts = take-append-drop a (take (a + m) xs) in
    let first : take a (take (a + m) xs) ≡ take a xs = grind (arith, common_steps) in
    let rest : drop a (take (a + m) xs) ≡ take m (drop a xs) = drop-take a m xs in
    rw (first, rest) at parts

module _ (text : List ℕ) (a b : ℕ) (order : a ≤ b) (between : List ℕ) (is : between ≡ take (b - a) (drop a text)) where
  parts : take a text ++ between ≡ take b text
  parts =
      let m : a + (b - a) ≡ b = omega arith in
      rw is (front_joined a (b - a) text ∙ ap (λ n. take n text) m)

  pub line_moved : line text a + count_by is_line_feed between ≡ line text b
  line_moved = sym (feeds_joined (take a text) between) ∙ ap (λ xs. count_by is_line_feed xs + 1) parts

  pub column_moved : column_behind between (column text a) ≡ column text b
  column_moved = sym (column_joined (take a text) between) ∙ ap (λ xs. suffix_len is_no_feed xs + 1) parts

  pub column_fits : b ≤ length text → column text a + length between ≤ length text + 1
  column_fits within =
      let short = suffix_len-le-length is_no_feed (take a text) in
      let whole = ap length parts in
      grind (arith, common_steps, short, whole, length-append (take a text) between)

  pub line_fits : b ≤ length text → line text a + count_by is_line_feed between ≤ length text + 1
  line_fits within =
      let short = count_by-le-length is_line_feed (take b text) in
      let whole = line_moved in
      grind (arith, common_steps, short, whole)
