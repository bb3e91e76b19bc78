-- The rows of one owner stand in one piece.
use Rattle.std.proofs.Common.{◌≡◌, ℕ, zero, suc, ◌<◌, Bool, true, false, not, ◌&&◌, List, [], ◌∷◌, length, get_or, refl, sym, ◌∙◌, ap, arith}
use Rattle.std.specs.Prelude.{filter, nat_lt, nat_le}
use Rattle.std.specs.List.Sorted.{IsPartitionedBy}
use Rattle.std.specs.Str.{bytes_eq}
use Rattle.std.specs.declared.cmp.Ordering.{Ordering}
use Rattle.std.specs.declared.cmp.Ordering.TheVariants.{Less, Equal, Greater}
use Rattle.std.specs.Ordering.{is_eq}
use Rattle.std.proofs.lemmas.Bool.{false≢true, lt-ltb, le-ltb, ltb-true, ltb-false, le-leb, lt-leb}
use Rattle.std.proofs.lemmas.Map.Text.{is_eq-slice_cmp}
use Rattle.sorted_tables.specs.Table.{IsAscending}
use Rattle.rp_rows.specs.declared.rows.Grant.{Grant}
use Rattle.rp_rows.specs.declared.rows.Key.{Key}
use Rattle.rp_rows.specs.Rows.{Text, text_cmp, key_cmp, Row}
use Rattle.rp_store.specs.declared.keyed.Entry.{Entry}
use Rattle.rp_store.specs.Entries.{entry_key}
use Rattle.rp_store.proofs.Counting.{is_earlier, is_not_later, is_owned, earlier_splits, not_later_splits}
use Rattle.rp_sight.specs.declared.rows.Part.{Part}
use Rattle.rp_sight.specs.Parts.{IsPart}
use Rattle.rp_sight.specs.Stored.{joined_row, joined, IsTable}
use Rattle.rp_sight.proofs.Joining.{length-joined, length-same, get-joined, same_at}

-- ---- tests of numbers

lt_suc : (m n : ℕ) → nat_lt (suc m) (suc n) ≡ nat_lt m n
lt_suc m n = by (nat_lt m n) refl
  where
    by : (t : Bool) → nat_lt m n ≡ t → nat_lt (suc m) (suc n) ≡ t
    by true e = lt-ltb (suc m) (suc n) (omega (arith, ltb-true m n e))
    by false e = le-ltb (suc m) (suc n) (omega (arith, ltb-false m n e))

le_not : (m n : ℕ) → nat_le n m ≡ not (nat_lt m n)
le_not m n = by (nat_lt m n) refl
  where
    by : (t : Bool) → nat_lt m n ≡ t → nat_le n m ≡ not t
    by true e = lt-leb n m (ltb-true m n e)
    by false e = le-leb n m (ltb-false m n e)

-- ---- a list whose front passes

module _ {X : Type 0} (p : X → Bool) where
  none_pass : (xs : List X) → ((j : ℕ) (d : X) → j < length xs → p (get_or xs j d) ≡ false) → filter p xs ≡ []
  none_pass [] fail = refl
  none_pass (x ∷ xs) fail = rw (fail 0 x (omega arith)) (none_pass xs (λ j d h. fail (suc j) d (omega arith)))

  later_fail : (x : X) (xs : List X) → IsPartitionedBy p (x ∷ xs) → p x ≡ false → (j : ℕ) (d : X) → j < length xs → p (get_or xs j d) ≡ false
  later_fail x xs split fails j d h = by (p (get_or xs j d)) refl
    where
      by : (t : Bool) → p (get_or xs j d) ≡ t → t ≡ false
      by true e = absurd (false≢true (sym fails ∙ split 0 (suc j) d (omega arith) (omega arith) e))
      by false e = refl

  -- what passes stands before so many places
  front_has : (xs : List X) → IsPartitionedBy p xs → (i : ℕ) (d : X) → i < length xs → nat_lt i (length (filter p xs)) ≡ p (get_or xs i d)
  front_has [] split i d h = absurd (omega arith)
  front_has (x ∷ xs) split zero d h = by (p x) refl
    where
      by : (t : Bool) → p x ≡ t → nat_lt zero (length (filter p (x ∷ xs))) ≡ t
      by true e = rw e (lt-ltb zero (suc (length (filter p xs))) (omega arith))
      by false e = rw (e, none_pass xs (later_fail x xs split e)) (le-ltb zero zero (omega arith))
  front_has (x ∷ xs) split (suc i) d h = by (front_has xs (λ k j e le within. split (suc k) (suc j) e (omega arith) (omega arith)) i d (omega arith)) (p x) refl
    where
      by : nat_lt i (length (filter p xs)) ≡ p (get_or xs i d) → (t : Bool) → p x ≡ t → nat_lt (suc i) (length (filter p (x ∷ xs))) ≡ p (get_or xs i d)
      by rest true e = rw e (lt_suc i (length (filter p xs)) ∙ rest)
      by rest false e =
          let fail = later_fail x xs split e in
          rw (e, none_pass xs fail) (le-ltb (suc i) zero (omega arith) ∙ sym (fail i d (omega arith)))

-- ---- an owner's part

owned_between : {B : Type 0} (c : Text) (ys : List (Entry B)) → IsAscending key_cmp entry_key ys → (i : ℕ) (y : Entry B) → i < length ys
    → (nat_le (length (filter (is_earlier c) ys)) i && nat_lt i (length (filter (is_not_later c) ys))) ≡ is_owned c (get_or ys i y)
owned_between {B = B} c ys order i y h =
    (λ j. le_not i (length (filter (is_earlier c) ys)) j && nat_lt i (length (filter (is_not_later c) ys)))
    ∙ (λ j. not (front_has (is_earlier c) ys (earlier_splits c ys order) i y h j) && front_has (is_not_later c) ys (not_later_splits c ys order) i y h j)
    ∙ by (text_cmp (get_or ys i y).key.owner c) refl
  where
    at : Entry B
    at = get_or ys i y

    by : (t : Ordering) → text_cmp at.key.owner c ≡ t → (not (is_earlier c at) && is_not_later c at) ≡ is_owned c at
    by Less e = rw e (sym (sym (is_eq-slice_cmp at.key.owner c) ∙ ap is_eq e))
    by Equal e = rw e (sym (sym (is_eq-slice_cmp at.key.owner c) ∙ ap is_eq e))
    by Greater e = rw e (sym (sym (is_eq-slice_cmp at.key.owner c) ∙ ap is_eq e))

pub part_of_rows : {A : Type 0} (c : Text) (xs : List (Entry A)) (ys : List (Entry (List Grant))) (rows : List (Row A)) (part : Part) → IsTable xs ys → joined xs ys ≡ rows
    → part.first ≡ length (filter (is_earlier c) ys) → part.end ≡ length (filter (is_not_later c) ys) → IsPart c rows part
part_of_rows {A = A} c xs ys rows part table are first end = record {
  own = λ i r within here.
      let x : Entry A = record { key = record { owner = r.owner; name = r.name }; value = r.holds } in
      let y : Entry (List Grant) = record { key = record { owner = r.owner; name = r.name }; value = r.grants } in
      let inside : i < length xs = omega (arith, within, length-joined xs ys table.same, ap length are) in
      let beside : i < length ys = omega (arith, inside, length-same xs ys table.same) in
      let row : r ≡ joined_row (get_or xs i x) (get_or ys i y) = sym here ∙ ap (λ rs. get_or rs i r) (sym are) ∙ get-joined xs ys i r x y table.same inside in
      (λ j. nat_le (first j) i && nat_lt i (end j))
      ∙ owned_between c ys table.right_order i y beside
      ∙ ap (λ (k : Key). bytes_eq k.owner c) (sym (same_at xs ys i x y table.same inside))
      ∙ ap (λ (s : Row A). bytes_eq s.owner c) (sym row);
}
