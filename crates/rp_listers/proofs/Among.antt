-- Keys that are the same, and lists of keys with one more and one less.
use Rattle.std.proofs.Common.{◌≡◌, Bool, true, false, ◌&&◌, ◌||◌, List, [], ◌∷◌, ◌++◌, Some, None, refl, sym, ◌∙◌, ap}
use Rattle.std.specs.Prelude.{filter}
use Rattle.std.specs.List.{list_any}
use Rattle.std.specs.Str.{bytes_eq}
use Rattle.std.specs.Cmp.{tied_then}
use Rattle.std.proofs.lemmas.Bool.{false≢true, and_parts}
use Rattle.std.proofs.lemmas.Map.Text.{is_eq-slice_cmp}
use Rattle.std.proofs.lemmas.Slice.Eq.{bytes_eq-Decides}
use Rattle.sorted_tables.specs.Table.{is_at, is_before, is_after}
use Rattle.sorted_tables.proofs.Altered.{any-with_row}
use Rattle.rp_rows.specs.declared.rows.Key.{Key}
use Rattle.rp_rows.specs.Rows.{text_cmp, key_cmp, same_key}
use Rattle.rp_rows.specs.Listings.{itself}
use Rattle.rp_rows.proofs.Keys.{key_total}
use Rattle.rp_listers.specs.Kept.{has_key, with_key, without_key}

pub same_is : (k j : Key) → same_key k j ≡ true → j ≡ k
same_is k j same =
    let parts = and_parts (bytes_eq j.owner k.owner) (bytes_eq j.name k.name) same in
    λ i. record { owner = (bytes_eq-Decides j.owner k.owner).0 parts.0 i; name = (bytes_eq-Decides j.name k.name).0 parts.1 i }

pub same_itself : (k : Key) → same_key k k ≡ true
same_itself k = λ i. (bytes_eq-Decides k.owner k.owner).1 refl i && (bytes_eq-Decides k.name k.name).1 refl i

pub apart_back : (k j : Key) → same_key k j ≡ false → same_key j k ≡ false
apart_back k j apart = by (same_key j k) refl
  where
    by : (t : Bool) → same_key j k ≡ t → t ≡ false
    by false e = refl
    by true e = absurd (false≢true (sym apart ∙ ap (λ i. same_key i j) (same_is j k e) ∙ same_itself j))

at_is : (k x : Key) → is_at key_cmp itself k x ≡ true → same_key k x ≡ true
at_is k x at =
    let owner = sym (is_eq-slice_cmp x.owner k.owner) in
    let name = sym (is_eq-slice_cmp x.name k.name) in
    (λ i. owner i && name i) ∙ tied_then (text_cmp x.owner k.owner) (text_cmp x.name k.name) ∙ at

-- what is at a key isn't at another
other_at : (k j : Key) → same_key k j ≡ false → (x : Key) → is_at key_cmp itself k x ≡ true → same_key j x ≡ false
other_at k j apart x at = ap (same_key j) (same_is k x (at_is k x at)) ∙ apart_back k j apart

or_true : (t : Bool) → (t || true) ≡ true
or_true true = refl
or_true false = refl

any_within : (q : Key → Bool) (xs ys : List Key) (x : Key) → q x ≡ true → list_any q ((xs ++ x ∷ []) ++ ys) ≡ true
any_within q [] ys x h = ap (λ t. t || list_any q ys) h
any_within q (z ∷ zs) ys x h = ap (λ t. q z || t) (any_within q zs ys x h) ∙ or_true (q z)

pub has_there : (k : Key) (ks : List Key) → has_key k (with_key k ks) ≡ true
has_there k ks = any_within (same_key k) (filter (is_before key_cmp itself k) ks) (filter (is_after key_cmp itself k) ks) k (same_itself k)

-- another is among them as before
pub has_without : (k j : Key) (ks : List Key) → same_key k j ≡ false → has_key j (without_key k ks) ≡ has_key j ks
has_without k j ks apart = any-with_row key_cmp itself key_total (same_key j) k (other_at k j apart) None ks refl

has_with : (k j : Key) (ks : List Key) → same_key k j ≡ false → has_key j (with_key k ks) ≡ has_key j ks
has_with k j ks apart = any-with_row key_cmp itself key_total (same_key j) k (other_at k j apart) (Some k) ks (ap (λ t. t || false) (apart_back k j apart))

-- none is lost where one is added
pub has_still : (k j : Key) (ks : List Key) → has_key j ks ≡ true → has_key j (with_key k ks) ≡ true
has_still k j ks has = by (same_key k j) refl
  where
    by : (t : Bool) → same_key k j ≡ t → has_key j (with_key k ks) ≡ true
    by true e = ap (λ i. has_key i (with_key k ks)) (same_is k j e) ∙ has_there k ks
    by false e = has_with k j ks e ∙ has
