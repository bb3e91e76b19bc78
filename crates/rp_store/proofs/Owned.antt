-- What stands under the keys of one owner stands in one piece.
use Rattle.std.proofs.Common.{◌≡◌, ℕ, suc, ◌<◌, ◌≤◌, Bool, true, false, not, List, [], ◌∷◌, length, get_or, take, drop, refl, sym, ◌∙◌, ap, arith}
use Rattle.std.specs.Prelude.{filter}
use Rattle.std.specs.List.Sorted.{IsPartitionedBy}
use Rattle.std.specs.declared.cmp.Ordering.{Ordering}
use Rattle.std.specs.declared.cmp.Ordering.TheVariants.{Less, Equal, Greater}
use Rattle.std.specs.Ordering.{is_eq}
use Rattle.std.proofs.lemmas.Bool.{false≢true}
use Rattle.std.proofs.lemmas.Map.Text.{is_eq-slice_cmp}
use Rattle.sorted_tables.specs.Table.{IsAscending}
use Rattle.sorted_tables.proofs.Ascending.{filter_ascends}
use Rattle.rp_rows.specs.Rows.{Text, text_cmp, key_cmp}
use Rattle.rp_rows.proofs.Keys.{key_total}
use Rattle.rp_store.specs.declared.keyed.Entry.{Entry}
use Rattle.rp_store.specs.Entries.{entry_key}
use Rattle.std.proofs.lemmas.List.Filters.{length-filter_both}
use Rattle.rp_store.proofs.Counting.{is_earlier, is_not_later, is_owned, earlier_splits, not_later_splits}

-- ---- a list whose front passes

none_pass : {X : Type 0} (p : X → Bool) (xs : List X) → ((j : ℕ) (d : X) → j < length xs → p (get_or xs j d) ≡ false) → filter p xs ≡ []
none_pass p [] fail = refl
none_pass p (x ∷ xs) fail = rw (fail 0 x (omega arith)) (none_pass p xs (λ j d h. fail (suc j) d (omega arith)))

all_stay : {X : Type 0} (p : X → Bool) (xs : List X) → ((j : ℕ) (d : X) → j < length xs → p (get_or xs j d) ≡ false) → filter (λ x. not (p x)) xs ≡ xs
all_stay p [] fail = refl
all_stay p (x ∷ xs) fail = rw (fail 0 x (omega arith)) (ap (λ ys. x ∷ ys) (all_stay p xs (λ j d h. fail (suc j) d (omega arith))))

later_fail : {X : Type 0} (p : X → Bool) (x : X) (xs : List X) → IsPartitionedBy p (x ∷ xs) → p x ≡ false → (j : ℕ) (d : X) → j < length xs → p (get_or xs j d) ≡ false
later_fail p x xs split fails j d h = by (p (get_or xs j d)) refl
  where
    by : (t : Bool) → p (get_or xs j d) ≡ t → t ≡ false
    by true e = absurd (false≢true (sym fails ∙ split 0 (suc j) d (omega arith) (omega arith) e))
    by false e = refl

tail_split : {X : Type 0} (p : X → Bool) (x : X) (xs : List X) → IsPartitionedBy p (x ∷ xs) → IsPartitionedBy p xs
tail_split p x xs split i j d le h t = split (suc i) (suc j) d (omega arith) (omega arith) t

pub front_passes : {X : Type 0} (p : X → Bool) (xs : List X) → IsPartitionedBy p xs → take (length (filter p xs)) xs ≡ filter p xs
front_passes p [] split = refl
front_passes {X = X} p (x ∷ xs) split = by (front_passes p xs (tail_split p x xs split)) (p x) refl
  where
    by : take (length (filter p xs)) xs ≡ filter p xs → (t : Bool) → p x ≡ t → take (length (filter p (x ∷ xs))) (x ∷ xs) ≡ filter p (x ∷ xs)
    by rest true e = rw e (ap (λ ys. x ∷ ys) rest)
    by rest false e = rw (e, none_pass p xs (later_fail p x xs split e)) refl

pub rest_fails : {X : Type 0} (p : X → Bool) (xs : List X) → IsPartitionedBy p xs → drop (length (filter p xs)) xs ≡ filter (λ x. not (p x)) xs
rest_fails p [] split = refl
rest_fails {X = X} p (x ∷ xs) split = by (rest_fails p xs (tail_split p x xs split)) (p x) refl
  where
    by : drop (length (filter p xs)) xs ≡ filter (λ y. not (p y)) xs → (t : Bool) → p x ≡ t → drop (length (filter p (x ∷ xs))) (x ∷ xs) ≡ filter (λ y. not (p y)) (x ∷ xs)
    by rest true e = rw e rest
    by rest false e =
        let fail = later_fail p x xs split e in
        rw (e, none_pass p xs fail) (ap (λ ys. x ∷ ys) (sym (all_stay p xs fail)))

-- ---- an owner's part

-- those before him are not after him, and those neither before nor after him are his
earlier_alone : {B : Type 0} (c : Text) (xs : List (Entry B)) → filter (is_earlier c) (filter (is_not_later c) xs) ≡ filter (is_earlier c) xs
earlier_alone c [] = refl
earlier_alone c (x ∷ xs) = by (text_cmp x.key.owner c) refl (earlier_alone c xs)
  where
    by : (t : Ordering) → text_cmp x.key.owner c ≡ t → filter (is_earlier c) (filter (is_not_later c) xs) ≡ filter (is_earlier c) xs → filter (is_earlier c) (filter (is_not_later c) (x ∷ xs)) ≡ filter (is_earlier c) (x ∷ xs)
    by Less e rest = rw e (rw e (ap (λ ys. x ∷ ys) rest))
    by Equal e rest = rw e (rw e rest)
    by Greater e rest = rw e rest

own_alone : {B : Type 0} (c : Text) (xs : List (Entry B)) → filter (λ x. not (is_earlier c x)) (filter (is_not_later c) xs) ≡ filter (is_owned c) xs
own_alone c [] = refl
own_alone c (x ∷ xs) = by (text_cmp x.key.owner c) refl (own_alone c xs)
  where
    same : (t : Ordering) → text_cmp x.key.owner c ≡ t → is_owned c x ≡ is_eq t
    same t e = sym (is_eq-slice_cmp x.key.owner c) ∙ ap is_eq e

    by : (t : Ordering) → text_cmp x.key.owner c ≡ t → filter (λ y. not (is_earlier c y)) (filter (is_not_later c) xs) ≡ filter (is_owned c) xs → filter (λ y. not (is_earlier c y)) (filter (is_not_later c) (x ∷ xs)) ≡ filter (is_owned c) (x ∷ xs)
    by Less e rest = rw (same Less e, e) (rw e rest)
    by Equal e rest = rw (same Equal e, e) (rw e (ap (λ ys. x ∷ ys) rest))
    by Greater e rest = rw (same Greater e, e) rest

pub own_part : {B : Type 0} (c : Text) (xs : List (Entry B)) → IsAscending key_cmp entry_key xs → drop (length (filter (is_earlier c) xs)) (take (length (filter (is_not_later c) xs)) xs) ≡ filter (is_owned c) xs
own_part c xs order =
    let upto = filter (is_not_later c) xs in
    ap (drop (length (filter (is_earlier c) xs))) (front_passes (is_not_later c) xs (not_later_splits c xs order))
    ∙ ap (λ ys. drop (length ys) upto) (sym (earlier_alone c xs))
    ∙ rest_fails (is_earlier c) upto (earlier_splits c upto (filter_ascends key_cmp entry_key key_total (is_not_later c) xs order))
    ∙ own_alone c xs

-- ---- it ends within the list

pub last_within : {B : Type 0} (c : Text) (xs ys : List (Entry B)) (last : ℕ) → last ≡ length (filter (is_not_later c) xs) → ys ≡ xs → last ≤ length ys
last_within c xs ys last is same = omega (arith, is, ap length same, length-filter_both (is_not_later c) (λ x. not (is_not_later c x)) (λ x. refl) xs)
