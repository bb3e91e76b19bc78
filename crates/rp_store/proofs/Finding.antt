-- What is done to entries at the place of a key.
use Rattle.std.proofs.Common.{◌≡◌, ℕ, true, false, List, [], set, get_or, Option, Some, None, is_some, Result, Ok, Err, refl, sym, ◌∙◌, ap, subst}
use Rattle.std.specs.Prelude.{option_map, OnOk, OnErr}
use Rattle.std.specs.List.{find}
use Rattle.sorted_tables.specs.Table.{with_row, IsAscending}
use Rattle.sorted_tables.specs.Places.{IsThere, IsAbsent}
use Rattle.sorted_tables.proofs.Ascending.{with_row_ascends, with_none_ascends}
use Rattle.sorted_tables.proofs.Finding.{Becomes, found_is, put_there, taken_absent, stays}
use Rattle.rp_rows.specs.declared.rows.Key.{Key}
use Rattle.rp_rows.specs.Rows.{key_cmp, Row}
use Rattle.rp_rows.proofs.Keys.{key_total, key_at, found_at}
use Rattle.rp_store.specs.declared.keyed.Entry.{Entry}
use Rattle.rp_rows.specs.declared.rows.ModelContent.{ModelContent}
use Rattle.rp_store.specs.Entries.{entry_key, is_entry, revalued, standing, HasAt}
use Rattle.rp_store.specs.Models.{Held, model, edited}

-- an entry at a key has that key
pub entry_at : {B : Type 0} (k : Key) (x : Entry B) → is_entry k x ≡ true → entry_key x ≡ k
entry_at {B = B} k x h = let row : Row B = record { owner = x.key.owner; name = x.key.name; holds = x.value; grants = [] } in key_at k row h

-- ---- the order stays

pub keyed_ascends : {B : Type 0} (k : Key) (x : Entry B) (xs : List (Entry B)) → entry_key x ≡ k → IsAscending key_cmp entry_key xs → IsAscending key_cmp entry_key (with_row key_cmp entry_key k (Some x) xs)
keyed_ascends k x xs at order = rw (← at) (with_row_ascends key_cmp entry_key key_total x xs order)

pub none_ascends : {B : Type 0} (k : Key) (xs : List (Entry B)) → IsAscending key_cmp entry_key xs → IsAscending key_cmp entry_key (with_row key_cmp entry_key k None xs)
none_ascends k xs order = with_none_ascends key_cmp entry_key key_total k xs order

pub standing_key : {B : Type 0} (k : Key) (b : B) (xs : List (Entry B)) → entry_key (standing k b (find (is_entry k) xs)) ≡ k
standing_key {B = B} k b xs = by (find (is_entry k) xs) refl
  where
    by : (o : Option (Entry B)) → find (is_entry k) xs ≡ o → entry_key (standing k b o) ≡ k
    by None e = refl
    by (Some x) e = entry_at k x (found_at (is_entry k) xs x e)

pub changed_ascends : {B : Type 0} (k : Key) (f : Entry B → Entry B) → ((x : Entry B) → entry_key (f x) ≡ entry_key x) → (xs : List (Entry B)) → IsAscending key_cmp entry_key xs
    → IsAscending key_cmp entry_key (with_row key_cmp entry_key k (option_map f (find (is_entry k) xs)) xs)
changed_ascends {B = B} k f same_key xs order = by (find (is_entry k) xs) refl
  where
    by : (o : Option (Entry B)) → find (is_entry k) xs ≡ o → IsAscending key_cmp entry_key (with_row key_cmp entry_key k (option_map f o) xs)
    by None e = none_ascends k xs order
    by (Some x) e = keyed_ascends k (f x) xs (same_key x ∙ entry_at k x (found_at (is_entry k) xs x e)) order

-- ---- an entry is changed in what is not its key

pub changed_there : {B : Type 0} (k : Key) (f : Entry B → Entry B) → ((x : Entry B) → entry_key (f x) ≡ entry_key x) → (xs ys : List (Entry B)) (i : ℕ) (x y : Entry B)
    → xs ≡ ys → IsThere key_cmp entry_key k ys i → get_or ys i x ≡ x → y ≡ f x
    → Becomes key_cmp entry_key (set xs i y) (with_row key_cmp entry_key k (option_map f (find (is_entry k) ys)) ys)
changed_there {B = B} k f same_key xs ys i x y same there here is =
    let found : find (is_entry k) ys ≡ Some x = found_is key_cmp entry_key key_total k ys i x there here in
    let at : entry_key y ≡ k = ap entry_key is ∙ same_key x ∙ entry_at k x (found_at (is_entry k) ys x found) in
    let there' : IsThere key_cmp entry_key (entry_key y) ys i = subst (λ j. IsThere key_cmp entry_key j ys i) (sym at) there in
    let row : with_row key_cmp entry_key (entry_key y) (Some y) ys ≡ with_row key_cmp entry_key k (option_map f (find (is_entry k) ys)) ys =
    (λ j. with_row key_cmp entry_key (at j) (Some (is j)) ys) ∙ ap (λ o. with_row key_cmp entry_key k (option_map f o) ys) (sym found) in
    subst (λ zs. Becomes key_cmp entry_key (set xs i y) zs) row (put_there key_cmp entry_key key_total y xs ys i same there')

pub changed_absent : {B : Type 0} (k : Key) (f : Entry B → Entry B) (xs : List (Entry B)) (i : ℕ) → IsAbsent key_cmp entry_key k xs i → xs ≡ with_row key_cmp entry_key k (option_map f (find (is_entry k) xs)) xs
changed_absent k f xs i absent =
    taken_absent key_cmp entry_key key_total k xs i absent ∙ ap (λ o. with_row key_cmp entry_key k (option_map f o) xs) (sym absent.none)

-- an entry that is there gets another value, or stays, as memory is there or wanting
pub revalued_there : {B T E : Type 0} (k : Key) (b : B) (f : B → B) (xs ys : List (Entry B)) (i : ℕ) (x y : Entry B) (r : Result T E)
    → xs ≡ ys → IsThere key_cmp entry_key k ys i → get_or ys i x ≡ x → OnOk r (y ≡ revalued f x) → OnErr r (y ≡ x)
    → IsAscending key_cmp entry_key (set xs i y) × OnOk r (set xs i y ≡ with_row key_cmp entry_key k (Some (revalued f (standing k b (find (is_entry k) ys)))) ys)
revalued_there {B = B} k b f xs ys i x y (Ok t) same there here is stay =
    let made = changed_there k (revalued f) (λ z. refl) xs ys i x y same there here is in
    let found : find (is_entry k) ys ≡ Some x = found_is key_cmp entry_key key_total k ys i x there here in (
      made.ascends,
      made.are
          ∙ ap (λ (o : Option (Entry B)). with_row key_cmp entry_key k (option_map (revalued f) o) ys) found
          ∙ ap (λ (o : Option (Entry B)). with_row key_cmp entry_key k (Some (revalued f (standing k b o))) ys) (sym found),
    )
revalued_there k b f xs ys i x y (Err e) same there here is stay =
    ((changed_there k (λ z. z) (λ z. refl) xs ys i x y same there here stay).ascends, tt)

-- ---- one more, unless one stands there

pub added_old : {B : Type 0} (k : Key) (b : B) (xs : List (Entry B)) → IsAscending key_cmp entry_key xs → is_some (find (is_entry k) xs) ≡ true → xs ≡ with_row key_cmp entry_key k (Some (standing k b (find (is_entry k) xs))) xs
added_old {B = B} k b xs order there = by (find (is_entry k) xs) refl
  where
    by : (o : Option (Entry B)) → find (is_entry k) xs ≡ o → xs ≡ with_row key_cmp entry_key k (Some (standing k b o)) xs
    by None e = let wrong : true ≡ false = sym there ∙ ap is_some e in cc
    by (Some x) e = sym (ap (λ o. with_row key_cmp entry_key k o xs) (sym e) ∙ stays key_cmp entry_key key_total k xs order)

-- ---- what holds of the entry that is there holds at its key

pub at_found : {B : Type 0} (P : B → Type 0) (k : Key) (xs : List (Entry B)) (x : Entry B) → find (is_entry k) xs ≡ Some x → P x.value → HasAt P k xs
at_found {B = B} P k xs x found is = λ y e.
    let same : x ≡ y = cc in
    subst (λ (z : Entry B). P z.value) same is

-- ---- what a model holds is changed

pub edited_rows : (k : Key) (f : ModelContent → ModelContent) (ms : List Held) → with_row key_cmp entry_key k (option_map (revalued f) (find (is_entry k) ms)) ms ≡ edited k f ms
edited_rows k f ms = by (find (is_entry k) ms) refl
  where
    by : (o : Option Held) → find (is_entry k) ms ≡ o → with_row key_cmp entry_key k (option_map (revalued f) o) ms ≡ with_row key_cmp entry_key k (option_map (model k) (option_map f (option_map (λ m. m.value) o))) ms
    by None e = refl
    by (Some x) e = ap (λ j. with_row key_cmp entry_key k (Some (record { key = j; value = f x.value })) ms) (entry_at k x (found_at (is_entry k) ms x e))
