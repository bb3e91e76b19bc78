-- Rows by their keys, and what keeps their order.
use Rattle.std.proofs.Common.{◌≡◌, Bool, true, false, List, [], ◌∷◌, Option, Some, None, refl, sym, ◌∙◌, subst}
use Rattle.std.specs.Prelude.{if◌then◌else◌}
use Rattle.std.specs.List.{find}
use Rattle.std.specs.Option.{option_map}
use Rattle.std.specs.Cmp.{IsTotalOrder, tied_then}
use Rattle.std.specs.Cmp.Lexicographic.{slice_cmp}
use Rattle.std.specs.Ordering.{is_eq, nat_cmp}
use Rattle.std.proofs.lemmas.Bool.{and_parts}
use Rattle.std.proofs.lemmas.Cmp.{nat_list_cmp_total, on_total, then_total}
use Rattle.std.proofs.lemmas.Map.Text.{is_eq-slice_cmp}
use Rattle.std.proofs.lemmas.Slice.Eq.{bytes_eq-Decides}
use Rattle.sorted_tables.specs.Table.{IsAscending, with_row}
use Rattle.sorted_tables.proofs.Ascending.{with_row_ascends, with_none_ascends}
use Rattle.rp_rows.specs.declared.rows.Key.{Key}
use Rattle.rp_rows.specs.Rows.{key_cmp, Row, row_key, is_row}
use Rattle.rp_rows.specs.Alterations.{Alteration, Holds, Grants, altered, granting, grants_of}

pub key_total : IsTotalOrder key_cmp
key_total = then_total (on_total (λ (k : Key). k.owner) nat_list_cmp_total) (on_total (λ (k : Key). k.name) nat_list_cmp_total)

-- a row at a key has that owner and that name
key_parts : {A : Type 0} (k : Key) (x : Row A) → is_row k x ≡ true → (is_eq (slice_cmp nat_cmp x.owner k.owner) ≡ true) × (is_eq (slice_cmp nat_cmp x.name k.name) ≡ true)
key_parts k x h = and_parts (is_eq (slice_cmp nat_cmp x.owner k.owner)) (is_eq (slice_cmp nat_cmp x.name k.name)) (tied_then (slice_cmp nat_cmp x.owner k.owner) (slice_cmp nat_cmp x.name k.name) ∙ h)

pub owner_at : {A : Type 0} (k : Key) (x : Row A) → is_row k x ≡ true → x.owner ≡ k.owner
owner_at k x h = (bytes_eq-Decides x.owner k.owner).0 (sym (is_eq-slice_cmp x.owner k.owner) ∙ (key_parts k x h).0)

pub name_at : {A : Type 0} (k : Key) (x : Row A) → is_row k x ≡ true → x.name ≡ k.name
name_at k x h = (bytes_eq-Decides x.name k.name).0 (sym (is_eq-slice_cmp x.name k.name) ∙ (key_parts k x h).1)

pub key_at : {A : Type 0} (k : Key) (x : Row A) → is_row k x ≡ true → row_key x ≡ k
key_at k x h = λ i. record { owner = owner_at k x h i; name = name_at k x h i }

pub found_at : {X : Type 0} (p : X → Bool) (xs : List X) (x : X) → find p xs ≡ Some x → p x ≡ true
found_at p [] x h = cc
found_at p (y ∷ ys) x h = by (found_at p ys x) (p y) refl h
  where
    by : (find p ys ≡ Some x → p x ≡ true) → (t : Bool) → p y ≡ t → (if t then Some y else find p ys) ≡ Some x → p x ≡ true
    by rest true e f = let same : y ≡ x = cc in subst (λ z. p z ≡ true) same e
    by rest false e f = rest f

row_ascends : {A : Type 0} (k : Key) (row : Row A) (xs : List (Row A)) → row_key row ≡ k → IsAscending key_cmp row_key xs → IsAscending key_cmp row_key (with_row key_cmp row_key k (Some row) xs)
row_ascends k row xs at order = subst (λ j. IsAscending key_cmp row_key (with_row key_cmp row_key j (Some row) xs)) at (with_row_ascends key_cmp row_key key_total row xs order)

pub altered_ascends : {A : Type 0} (k : Key) (a : Alteration A) (xs : List (Row A)) → IsAscending key_cmp row_key xs → IsAscending key_cmp row_key (altered k a xs)
altered_ascends k (Holds None) xs order = with_none_ascends key_cmp row_key key_total k xs order
altered_ascends k (Holds (Some h)) xs order = row_ascends k (record { owner = k.owner; name = k.name; holds = h; grants = grants_of (find (is_row k) xs) }) xs refl order
altered_ascends {A = A} k (Grants to l) xs order = by (find (is_row k) xs) refl
  where
    by : (o : Option (Row A)) → find (is_row k) xs ≡ o → IsAscending key_cmp row_key (with_row key_cmp row_key k (option_map (granting to l) o) xs)
    by None e = with_none_ascends key_cmp row_key key_total k xs order
    by (Some x) e = row_ascends k (granting to l x) xs (key_at k x (found_at (is_row k) xs x e)) order
