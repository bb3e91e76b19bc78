-- How many keys are an owner's.
use Rattle.std.proofs.Common.{◌≡◌, ◌+◌, true, false, List, [], ◌∷◌, length, refl, sym, ◌∙◌, ap, arith}
use Rattle.std.specs.Prelude.{Bool, filter, not}
use Rattle.std.specs.List.Sorted.{IsPartitionedBy}
use Rattle.std.specs.Str.{bytes_eq}
use Rattle.std.specs.declared.cmp.Ordering.{Ordering}
use Rattle.std.specs.declared.cmp.Ordering.TheVariants.{Less, Equal, Greater}
use Rattle.std.specs.Ordering.{is_lt, is_eq, is_gt, ordering_reverse, ordering_then}
use Rattle.std.specs.Cmp.{IsTotalOrder}
use Rattle.std.proofs.lemmas.Cmp.{alike_right, nat_list_cmp_total}
use Rattle.std.proofs.lemmas.Map.Text.{is_eq-slice_cmp}
use Rattle.sorted_tables.specs.Table.{is_after, IsAscending}
use Rattle.sorted_tables.proofs.Searching.{partitioned, down_lt}
use Rattle.rp_rows.specs.Rows.{Text, text_cmp, key_cmp}
use Rattle.rp_store.specs.declared.keyed.Entry.{Entry}
use Rattle.rp_store.specs.Entries.{entry_key}

module _ {K : Type 0} (cmp : K → K → Ordering) (total : IsTotalOrder cmp) where
  -- x is at most y, and y at most k
  down_le : (x y k : K) (t : Ordering) → cmp y x ≡ t → is_lt t ≡ false → not (is_gt (cmp y k)) ≡ true → not (is_gt (cmp x k)) ≡ true
  down_le x y k Less e high low = cc
  down_le x y k Equal e high low = rw (← total.congr y x k e) low
  down_le x y k Greater e high low = by (cmp y k) refl low
    where
      less : cmp x y ≡ Less
      less = total.antisymm x y ∙ ap ordering_reverse e

      by : (u : Ordering) → cmp y k ≡ u → not (is_gt u) ≡ true → not (is_gt (cmp x k)) ≡ true
      by Less is h = ap (λ v. not (is_gt v)) (total.trans x y k less is)
      by Equal is h = ap (λ v. not (is_gt v)) (sym (alike_right total y k x is) ∙ less)
      by Greater is h = cc

first_not_less : (t u : Ordering) → is_gt (ordering_then t u) ≡ true → is_lt t ≡ false
first_not_less Less u h = cc
first_not_less Equal u h = refl
first_not_less Greater u h = refl

owner_not_less : {B : Type 0} (x y : Entry B) → is_after key_cmp entry_key (entry_key x) y ≡ true → is_lt (text_cmp y.key.owner x.key.owner) ≡ false
owner_not_less x y h = first_not_less (text_cmp y.key.owner x.key.owner) (text_cmp y.key.name x.key.name) h

-- an entry of an owner before c, one of an owner not after c, and one of c
abbrev pub is_earlier : {B : Type 0} → Text → Entry B → Bool
is_earlier c x = is_lt (text_cmp x.key.owner c)

abbrev pub is_not_later : {B : Type 0} → Text → Entry B → Bool
is_not_later c x = not (is_gt (text_cmp x.key.owner c))

abbrev pub is_owned : {B : Type 0} → Text → Entry B → Bool
is_owned c x = bytes_eq x.key.owner c

pub earlier_splits : {B : Type 0} (c : Text) (xs : List (Entry B)) → IsAscending key_cmp entry_key xs → IsPartitionedBy (is_earlier c) xs
earlier_splits c xs = partitioned key_cmp entry_key (is_earlier c) (λ x y h. down_lt text_cmp nat_list_cmp_total x.key.owner y.key.owner c (text_cmp y.key.owner x.key.owner) refl (owner_not_less x y h)) xs

pub not_later_splits : {B : Type 0} (c : Text) (xs : List (Entry B)) → IsAscending key_cmp entry_key xs → IsPartitionedBy (is_not_later c) xs
not_later_splits c xs = partitioned key_cmp entry_key (is_not_later c) (λ x y h. down_le text_cmp nat_list_cmp_total x.key.owner y.key.owner c (text_cmp y.key.owner x.key.owner) refl (owner_not_less x y h)) xs

-- those of owners up to c are those of owners before him, and his own
pub up_to_owner : {B : Type 0} (c : Text) (xs : List (Entry B)) → length (filter (is_not_later c) xs) ≡ length (filter (is_earlier c) xs) + length (filter (is_owned c) xs)
up_to_owner c [] = refl
up_to_owner c (x ∷ xs) = by (text_cmp x.key.owner c) refl (up_to_owner c xs)
  where
    by : (t : Ordering) → text_cmp x.key.owner c ≡ t → length (filter (is_not_later c) xs) ≡ length (filter (is_earlier c) xs) + length (filter (is_owned c) xs) → length (filter (is_not_later c) (x ∷ xs)) ≡ length (filter (is_earlier c) (x ∷ xs)) + length (filter (is_owned c) (x ∷ xs))
    by Less e rest =
        let other : bytes_eq x.key.owner c ≡ false = sym (is_eq-slice_cmp x.key.owner c) ∙ ap is_eq e in
        rw (e, other) (omega arith)
    by Equal e rest =
        let own : bytes_eq x.key.owner c ≡ true = sym (is_eq-slice_cmp x.key.owner c) ∙ ap is_eq e in
        rw (e, own) (omega arith)
    by Greater e rest =
        let other : bytes_eq x.key.owner c ≡ false = sym (is_eq-slice_cmp x.key.owner c) ∙ ap is_eq e in
        rw (e, other) rest
