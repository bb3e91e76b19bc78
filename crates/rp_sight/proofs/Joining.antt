-- The rows that two halves with the same keys make.
use Rattle.std.proofs.Common.{◌≡◌, ℕ, zero, suc, ◌<◌, Bool, true, false, List, [], ◌∷◌, ◌++◌, length, get_or, map, Option, Some, None, refl, sym, ◌∙◌, ap, subst, arith}
use Rattle.std.specs.Prelude.{filter, if◌then◌else◌, is_some, option_map, option_to_list}
use Rattle.std.specs.List.{find, AllByRecursion}
use Rattle.std.specs.Ordering.{is_lt, is_eq, is_gt}
use Rattle.sorted_tables.specs.Table.{is_before, is_after, with_row, IsAscending}
use Rattle.sorted_tables.specs.Places.{IsThere}
use Rattle.sorted_tables.proofs.Finding.{stays}
use Rattle.sorted_tables.proofs.Tables.{map-append}
use Rattle.rp_rows.specs.declared.rows.Grant.{Grant}
use Rattle.rp_rows.specs.declared.rows.Key.{Key}
use Rattle.rp_rows.specs.Rows.{Text, key_cmp, Row, row_key, is_row}
use Rattle.rp_rows.specs.Sight.{owns}
use Rattle.rp_rows.specs.Alterations.{Holds, altered, grants_of}
use Rattle.rp_rows.proofs.Keys.{key_total}
use Rattle.rp_store.specs.declared.keyed.Entry.{Entry}
use Rattle.rp_store.specs.Entries.{entry_key, is_entry, with_value, revalued, HasAt, standing}
use Rattle.rp_sight.specs.Stored.{joined_row, joined, IsTable, granted_row, rewritten, reheld, HasRowAt}
use Rattle.rp_store.proofs.Finding.{keyed_ascends, none_ascends, standing_key, changed_ascends}
use Rattle.rp_store.proofs.Counting.{is_owned}

-- ---- entries by their keys

keys-filter : {B : Type 0} (q : Key → Bool) (xs : List (Entry B)) → map entry_key (filter (λ x. q (entry_key x)) xs) ≡ filter q (map entry_key xs)
keys-filter q [] = refl
keys-filter {B = B} q (x ∷ xs) = by (keys-filter q xs) (q (entry_key x))
  where
    by : map entry_key (filter (λ y. q (entry_key y)) xs) ≡ filter q (map entry_key xs) → (t : Bool) → map entry_key (if t then x ∷ filter (λ y. q (entry_key y)) xs else filter (λ y. q (entry_key y)) xs) ≡ (if t then entry_key x ∷ filter q (map entry_key xs) else filter q (map entry_key xs))
    by rest true = ap (λ ks. entry_key x ∷ ks) rest
    by rest false = rest

same_filtered : {A B : Type 0} (q : Key → Bool) (xs : List (Entry A)) (ys : List (Entry B)) → map entry_key xs ≡ map entry_key ys → map entry_key (filter (λ x. q (entry_key x)) xs) ≡ map entry_key (filter (λ y. q (entry_key y)) ys)
same_filtered q xs ys same = keys-filter q xs ∙ ap (filter q) same ∙ sym (keys-filter q ys)

same_appended : {A B : Type 0} (xs more : List (Entry A)) (ys other : List (Entry B)) → map entry_key xs ≡ map entry_key ys → map entry_key more ≡ map entry_key other → map entry_key (xs ++ more) ≡ map entry_key (ys ++ other)
same_appended xs more ys other same alike =
    map-append entry_key xs more ∙ (λ i. same i ++ alike i) ∙ sym (map-append entry_key ys other)

abbrev before : {B : Type 0} → Key → List (Entry B) → List (Entry B)
before k xs = filter (is_before key_cmp entry_key k) xs

abbrev after : {B : Type 0} → Key → List (Entry B) → List (Entry B)
after k xs = filter (is_after key_cmp entry_key k) xs

-- what is put at a key has the same key in both
pub same_with : {A B : Type 0} (k : Key) (o : Option (Entry A)) (p : Option (Entry B)) (xs : List (Entry A)) (ys : List (Entry B)) → map entry_key xs ≡ map entry_key ys → map entry_key (option_to_list o) ≡ map entry_key (option_to_list p) → map entry_key (with_row key_cmp entry_key k o xs) ≡ map entry_key (with_row key_cmp entry_key k p ys)
same_with k o p xs ys same alike =
    same_appended (before k xs ++ option_to_list o) (after k xs) (before k ys ++ option_to_list p) (after k ys)
    (same_appended (before k xs) (option_to_list o) (before k ys) (option_to_list p) (same_filtered (λ j. is_lt (key_cmp j k)) xs ys same) alike)
    (same_filtered (λ j. is_gt (key_cmp j k)) xs ys same)

-- ---- rows

joined-filter : {A : Type 0} (q : Key → Bool) (xs : List (Entry A)) (ys : List (Entry (List Grant))) → map entry_key xs ≡ map entry_key ys → joined (filter (λ x. q (entry_key x)) xs) (filter (λ y. q (entry_key y)) ys) ≡ filter (λ r. q (row_key r)) (joined xs ys)
joined-filter q [] ys same = refl
joined-filter q (x ∷ xs) [] same = cc
joined-filter {A = A} q (x ∷ xs) (y ∷ ys) same =
    let one : entry_key x ≡ entry_key y = cc in
    let rest : map entry_key xs ≡ map entry_key ys = cc in
    by (joined-filter q xs ys rest) (q (entry_key x)) (q (entry_key y)) (ap q one)
  where
    by : joined (filter (λ z. q (entry_key z)) xs) (filter (λ z. q (entry_key z)) ys) ≡ filter (λ r. q (row_key r)) (joined xs ys) → (t u : Bool) → t ≡ u → joined (if t then x ∷ filter (λ z. q (entry_key z)) xs else filter (λ z. q (entry_key z)) xs) (if u then y ∷ filter (λ z. q (entry_key z)) ys else filter (λ z. q (entry_key z)) ys) ≡ (if t then joined_row x y ∷ filter (λ r. q (row_key r)) (joined xs ys) else filter (λ r. q (row_key r)) (joined xs ys))
    by rest true true e = ap (λ rs. joined_row x y ∷ rs) rest
    by rest true false e = cc
    by rest false true e = cc
    by rest false false e = rest

joined-append : {A : Type 0} (xs more : List (Entry A)) (ys other : List (Entry (List Grant))) → map entry_key xs ≡ map entry_key ys → joined (xs ++ more) (ys ++ other) ≡ joined xs ys ++ joined more other
joined-append [] more [] other same = refl
joined-append [] more (y ∷ ys) other same = cc
joined-append (x ∷ xs) more [] other same = cc
joined-append (x ∷ xs) more (y ∷ ys) other same =
    let rest : map entry_key xs ≡ map entry_key ys = cc in
    ap (λ rs. joined_row x y ∷ rs) (joined-append xs more ys other rest)

-- the row that two entries make
abbrev pub both : {A : Type 0} → Option (Entry A) → Option (Entry (List Grant)) → Option (Row A)
both None p = None
both (Some x) None = None
both (Some x) (Some y) = Some (joined_row x y)

joined-option : {A : Type 0} (o : Option (Entry A)) (p : Option (Entry (List Grant))) → joined (option_to_list o) (option_to_list p) ≡ option_to_list (both o p)
joined-option None p = refl
joined-option (Some x) None = refl
joined-option (Some x) (Some y) = refl

pub joined-with : {A : Type 0} (k : Key) (o : Option (Entry A)) (p : Option (Entry (List Grant))) (xs : List (Entry A)) (ys : List (Entry (List Grant))) → map entry_key xs ≡ map entry_key ys → map entry_key (option_to_list o) ≡ map entry_key (option_to_list p) → joined (with_row key_cmp entry_key k o xs) (with_row key_cmp entry_key k p ys) ≡ with_row key_cmp row_key k (both o p) (joined xs ys)
joined-with k o p xs ys same alike =
    let first = same_filtered (λ j. is_lt (key_cmp j k)) xs ys same in
    joined-append (before k xs ++ option_to_list o) (after k xs) (before k ys ++ option_to_list p) (after k ys)
    (same_appended (before k xs) (option_to_list o) (before k ys) (option_to_list p) first alike)
    ∙ ap (λ rs. rs ++ joined (after k xs) (after k ys)) (joined-append (before k xs) (option_to_list o) (before k ys) (option_to_list p) first)
    ∙ (λ i. (joined-filter (λ j. is_lt (key_cmp j k)) xs ys same i ++ joined-option o p i) ++ joined-filter (λ j. is_gt (key_cmp j k)) xs ys same i)

-- ---- what stands at a key

pub find-joined : {A : Type 0} (k : Key) (xs : List (Entry A)) (ys : List (Entry (List Grant))) → map entry_key xs ≡ map entry_key ys → find (is_row k) (joined xs ys) ≡ both (find (is_entry k) xs) (find (is_entry k) ys)
find-joined k [] ys same = refl
find-joined k (x ∷ xs) [] same = cc
find-joined {A = A} k (x ∷ xs) (y ∷ ys) same =
    let one : entry_key x ≡ entry_key y = cc in
    let rest : map entry_key xs ≡ map entry_key ys = cc in
    by (find-joined k xs ys rest) (is_entry k x) (is_entry k y) (ap (λ j. is_eq (key_cmp j k)) one)
  where
    by : find (is_row k) (joined xs ys) ≡ both (find (is_entry k) xs) (find (is_entry k) ys) → (t u : Bool) → t ≡ u → (if t then Some (joined_row x y) else find (is_row k) (joined xs ys)) ≡ both (if t then Some x else find (is_entry k) xs) (if u then Some y else find (is_entry k) ys)
    by rest true true e = refl
    by rest true false e = cc
    by rest false true e = cc
    by rest false false e = rest

-- both halves have a key, or neither has it
same_found : {A B : Type 0} (k : Key) (xs : List (Entry A)) (ys : List (Entry B)) → map entry_key xs ≡ map entry_key ys → map entry_key (option_to_list (find (is_entry k) xs)) ≡ map entry_key (option_to_list (find (is_entry k) ys))
same_found k [] [] same = refl
same_found k [] (y ∷ ys) same = cc
same_found k (x ∷ xs) [] same = cc
same_found {A = A} {B = B} k (x ∷ xs) (y ∷ ys) same =
    let one : entry_key x ≡ entry_key y = cc in
    let rest : map entry_key xs ≡ map entry_key ys = cc in
    by one (same_found k xs ys rest) (is_entry k x) (is_entry k y) (ap (λ j. is_eq (key_cmp j k)) one)
  where
    by : entry_key x ≡ entry_key y → map entry_key (option_to_list (find (is_entry k) xs)) ≡ map entry_key (option_to_list (find (is_entry k) ys)) → (t u : Bool) → t ≡ u → map entry_key (option_to_list (if t then Some x else find (is_entry k) xs)) ≡ map entry_key (option_to_list (if u then Some y else find (is_entry k) ys))
    by one rest true true e = ap (λ j. j ∷ []) one
    by one rest true false e = cc
    by one rest false true e = cc
    by one rest false false e = rest

-- ---- order and places

all_joined : {A : Type 0} (P : Key → Type 0) (xs : List (Entry A)) (ys : List (Entry (List Grant))) → AllByRecursion (λ x. P (entry_key x)) xs → AllByRecursion (λ r. P (row_key r)) (joined xs ys)
all_joined P [] ys all = tt
all_joined P (x ∷ xs) [] all = tt
all_joined P (x ∷ xs) (y ∷ ys) all = (all.0, all_joined P xs ys all.1)

pub rows_ascend : {A : Type 0} (xs : List (Entry A)) (ys : List (Entry (List Grant))) → IsAscending key_cmp entry_key xs → IsAscending key_cmp row_key (joined xs ys)
rows_ascend [] ys order = tt
rows_ascend (x ∷ xs) [] order = tt
rows_ascend (x ∷ xs) (y ∷ ys) order = (all_joined (λ j. is_gt (key_cmp j (entry_key x)) ≡ true) xs ys order.0, rows_ascend xs ys order.1)

pub length-joined : {A : Type 0} (xs : List (Entry A)) (ys : List (Entry (List Grant))) → map entry_key xs ≡ map entry_key ys → length (joined xs ys) ≡ length xs
length-joined [] ys same = refl
length-joined (x ∷ xs) [] same = cc
length-joined (x ∷ xs) (y ∷ ys) same =
    let rest : map entry_key xs ≡ map entry_key ys = cc in
    ap suc (length-joined xs ys rest)

pub length-same : {A B : Type 0} (xs : List (Entry A)) (ys : List (Entry B)) → map entry_key xs ≡ map entry_key ys → length xs ≡ length ys
length-same [] [] same = refl
length-same [] (y ∷ ys) same = cc
length-same (x ∷ xs) [] same = cc
length-same (x ∷ xs) (y ∷ ys) same =
    let rest : map entry_key xs ≡ map entry_key ys = cc in
    ap suc (length-same xs ys rest)

pub get-joined : {A : Type 0} (xs : List (Entry A)) (ys : List (Entry (List Grant))) (i : ℕ) (d : Row A) (x : Entry A) (y : Entry (List Grant)) → map entry_key xs ≡ map entry_key ys → i < length xs → get_or (joined xs ys) i d ≡ joined_row (get_or xs i x) (get_or ys i y)
get-joined [] ys i d x y same within = absurd (omega arith)
get-joined (z ∷ xs) [] i d x y same within = cc
get-joined (z ∷ xs) (w ∷ ys) zero d x y same within = refl
get-joined (z ∷ xs) (w ∷ ys) (suc i) d x y same within =
    let rest : map entry_key xs ≡ map entry_key ys = cc in
    get-joined xs ys i d x y rest (omega arith)

-- an owner's rows are as many as his entries
pub owned_rows : {A : Type 0} (c : Text) (xs : List (Entry A)) (ys : List (Entry (List Grant))) → map entry_key xs ≡ map entry_key ys → length (filter (owns c) (joined xs ys)) ≡ length (filter (is_owned c) xs)
owned_rows c [] ys same = refl
owned_rows c (x ∷ xs) [] same = cc
owned_rows {A = A} c (x ∷ xs) (y ∷ ys) same =
    let rest : map entry_key xs ≡ map entry_key ys = cc in
    by (owned_rows c xs ys rest) (is_owned c x)
  where
    by : length (filter (owns c) (joined xs ys)) ≡ length (filter (is_owned c) xs) → (t : Bool) → length (if t then joined_row x y ∷ filter (owns c) (joined xs ys) else filter (owns c) (joined xs ys)) ≡ length (if t then x ∷ filter (is_owned c) xs else filter (is_owned c) xs)
    by rest true = ap suc rest
    by rest false = rest

-- ---- what is done to both halves

-- two halves make these rows
pub record Makes {A : Type 0} (xs : List (Entry A)) (ys : List (Entry (List Grant))) (rows : List (Row A)) : Type 0 where
  pub rows_are : joined xs ys ≡ rows
  pub table : IsTable xs ys

stood : {A : Type 0} (k : Key) (h : A) (o : Option (Entry A)) (p : Option (Entry (List Grant))) → map entry_key (option_to_list o) ≡ map entry_key (option_to_list p) → entry_key (standing k [] p) ≡ k → both (Some (record { key = k; value = h })) (Some (standing k [] p)) ≡ Some (record { owner = k.owner; name = k.name; holds = h; grants = grants_of (both o p) })
stood k h None None same at = refl
stood k h None (Some y) same at = cc
stood k h (Some x) None same at = cc
stood k h (Some x) (Some y) same at = refl

put_makes : {A : Type 0} (k : Key) (h : A) (xs : List (Entry A)) (ys : List (Entry (List Grant))) → IsTable xs ys → Makes (with_row key_cmp entry_key k (Some (record { key = k; value = h })) xs) (with_row key_cmp entry_key k (Some (standing k [] (find (is_entry k) ys))) ys) (altered k (Holds (Some h)) (joined xs ys))
put_makes {A = A} k h xs ys table =
    let x : Entry A = record { key = k; value = h } in
    let y : Entry (List Grant) = standing k [] (find (is_entry k) ys) in
    let at : entry_key y ≡ k = standing_key k [] ys in
    let alike : map entry_key (x ∷ []) ≡ map entry_key (y ∷ []) = ap (λ j. j ∷ []) (sym at) in
    record {
      rows_are =
          joined-with k (Some x) (Some y) xs ys table.same alike
          ∙ ap (λ o. with_row key_cmp row_key k o (joined xs ys)) (stood k h (find (is_entry k) xs) (find (is_entry k) ys) (same_found k xs ys table.same) at)
          ∙ ap (λ o. with_row key_cmp row_key k (Some (record { owner = k.owner; name = k.name; holds = h; grants = grants_of o })) (joined xs ys)) (sym (find-joined k xs ys table.same));
      table = record {
        same = same_with k (Some x) (Some y) xs ys table.same alike;
        order = keyed_ascends k x xs refl table.order;
        right_order = keyed_ascends k y ys at table.right_order;
      };
    }

hold_makes : {A : Type 0} (k : Key) (h : A) (gs : List Grant) (xs : List (Entry A)) (ys : List (Entry (List Grant))) → IsTable xs ys → Makes (with_row key_cmp entry_key k (Some (record { key = k; value = h })) xs) (with_row key_cmp entry_key k (Some (record { key = k; value = gs })) ys) (with_row key_cmp row_key k (Some (granted_row k h gs)) (joined xs ys))
hold_makes {A = A} k h gs xs ys table =
    let x : Entry A = record { key = k; value = h } in
    let y : Entry (List Grant) = record { key = k; value = gs } in
    record {
      rows_are = joined-with k (Some x) (Some y) xs ys table.same refl;
      table = record {
        same = same_with k (Some x) (Some y) xs ys table.same refl;
        order = keyed_ascends k x xs refl table.order;
        right_order = keyed_ascends k y ys refl table.right_order;
      };
    }

remove_makes : {A : Type 0} (k : Key) (xs : List (Entry A)) (ys : List (Entry (List Grant))) → IsTable xs ys → Makes (with_row key_cmp entry_key k None xs) (with_row key_cmp entry_key k None ys) (altered k (Holds None) (joined xs ys))
remove_makes k xs ys table =
    record {
      rows_are = joined-with k None None xs ys table.same refl;
      table = record {
        same = same_with k None None xs ys table.same refl;
        order = none_ascends k xs table.order;
        right_order = none_ascends k ys table.right_order;
      };
    }

valued_alike : {A : Type 0} (gs : List Grant) (o : Option (Entry A)) (p : Option (Entry (List Grant))) → map entry_key (option_to_list o) ≡ map entry_key (option_to_list p) → map entry_key (option_to_list o) ≡ map entry_key (option_to_list (option_map (with_value gs) p))
valued_alike gs o None same = same
valued_alike gs o (Some y) same = same

valued_both : {A : Type 0} (gs : List Grant) (o : Option (Entry A)) (p : Option (Entry (List Grant))) → both o (option_map (with_value gs) p) ≡ option_map (λ (x : Row A). record x { grants = gs }) (both o p)
valued_both gs None p = refl
valued_both gs (Some x) None = refl
valued_both gs (Some x) (Some y) = refl

regrant_makes : {A : Type 0} (k : Key) (gs : List Grant) (xs : List (Entry A)) (ys : List (Entry (List Grant))) → IsTable xs ys → Makes xs (with_row key_cmp entry_key k (option_map (with_value gs) (find (is_entry k) ys)) ys) (rewritten k (λ x. record x { grants = gs }) (joined xs ys))
regrant_makes {A = A} k gs xs ys table =
    let o = find (is_entry k) xs in
    let p = find (is_entry k) ys in
    let q = option_map (with_value gs) p in
    let alike = valued_alike gs o p (same_found k xs ys table.same) in
    let changed = with_row key_cmp entry_key k q ys in
    record {
      rows_are =
          ap (λ zs. joined zs changed) (sym (stays key_cmp entry_key key_total k xs table.order))
          ∙ joined-with k o q xs ys table.same alike
          ∙ ap (λ r. with_row key_cmp row_key k r (joined xs ys)) (valued_both gs o p)
          ∙ ap (λ (r : Option (Row A)). with_row key_cmp row_key k (option_map (λ (x : Row A). record x { grants = gs }) r) (joined xs ys)) (sym (find-joined k xs ys table.same));
      table = record {
        same = ap (map entry_key) (sym (stays key_cmp entry_key key_total k xs table.order)) ∙ same_with k o q xs ys table.same alike;
        order = table.order;
        right_order = changed_ascends k (with_value gs) (λ y. refl) ys table.right_order;
      };
    }

reheld_alike : {A : Type 0} (f : A → A) (o : Option (Entry A)) (p : Option (Entry (List Grant))) → map entry_key (option_to_list o) ≡ map entry_key (option_to_list p) → map entry_key (option_to_list (option_map (revalued f) o)) ≡ map entry_key (option_to_list p)
reheld_alike f None p same = same
reheld_alike f (Some x) p same = same

reheld_both : {A : Type 0} (f : A → A) (o : Option (Entry A)) (p : Option (Entry (List Grant))) → both (option_map (revalued f) o) p ≡ option_map (reheld f) (both o p)
reheld_both f None p = refl
reheld_both f (Some x) None = refl
reheld_both f (Some x) (Some y) = refl

rehold_makes : {A : Type 0} (k : Key) (f : A → A) (xs : List (Entry A)) (ys : List (Entry (List Grant))) → IsTable xs ys → Makes (with_row key_cmp entry_key k (option_map (revalued f) (find (is_entry k) xs)) xs) ys (rewritten k (reheld f) (joined xs ys))
rehold_makes {A = A} k f xs ys table =
    let o = find (is_entry k) xs in
    let p = find (is_entry k) ys in
    let q = option_map (revalued f) o in
    let alike = reheld_alike f o p (same_found k xs ys table.same) in
    let changed = with_row key_cmp entry_key k q xs in
    record {
      rows_are =
          ap (joined changed) (sym (stays key_cmp entry_key key_total k ys table.right_order))
          ∙ joined-with k q p xs ys table.same alike
          ∙ ap (λ r. with_row key_cmp row_key k r (joined xs ys)) (reheld_both f o p)
          ∙ ap (λ (r : Option (Row A)). with_row key_cmp row_key k (option_map (reheld f) r) (joined xs ys)) (sym (find-joined k xs ys table.same));
      table = record {
        same = same_with k q p xs ys table.same alike ∙ ap (map entry_key) (stays key_cmp entry_key key_total k ys table.right_order);
        order = changed_ascends k (revalued f) (λ x. refl) xs table.order;
        right_order = table.right_order;
      };
    }

-- ---- the same, where these are the rows

pub put_rows : {A : Type 0} (k : Key) (h : A) (xs : List (Entry A)) (ys : List (Entry (List Grant))) (rows : List (Row A)) → IsTable xs ys → joined xs ys ≡ rows → Makes (with_row key_cmp entry_key k (Some (record { key = k; value = h })) xs) (with_row key_cmp entry_key k (Some (standing k [] (find (is_entry k) ys))) ys) (altered k (Holds (Some h)) rows)
put_rows k h xs ys rows table are =
    subst (λ rs. Makes (with_row key_cmp entry_key k (Some (record { key = k; value = h })) xs) (with_row key_cmp entry_key k (Some (standing k [] (find (is_entry k) ys))) ys) (altered k (Holds (Some h)) rs)) are (put_makes k h xs ys table)

pub hold_rows : {A : Type 0} (k : Key) (h : A) (gs : List Grant) (xs : List (Entry A)) (ys : List (Entry (List Grant))) (rows : List (Row A)) → IsTable xs ys → joined xs ys ≡ rows → Makes (with_row key_cmp entry_key k (Some (record { key = k; value = h })) xs) (with_row key_cmp entry_key k (Some (record { key = k; value = gs })) ys) (with_row key_cmp row_key k (Some (granted_row k h gs)) rows)
hold_rows k h gs xs ys rows table are =
    subst (λ rs. Makes (with_row key_cmp entry_key k (Some (record { key = k; value = h })) xs) (with_row key_cmp entry_key k (Some (record { key = k; value = gs })) ys) (with_row key_cmp row_key k (Some (granted_row k h gs)) rs)) are (hold_makes k h gs xs ys table)

pub remove_rows : {A : Type 0} (k : Key) (xs : List (Entry A)) (ys : List (Entry (List Grant))) (rows : List (Row A)) → IsTable xs ys → joined xs ys ≡ rows → Makes (with_row key_cmp entry_key k None xs) (with_row key_cmp entry_key k None ys) (altered k (Holds None) rows)
remove_rows k xs ys rows table are =
    subst (λ rs. Makes (with_row key_cmp entry_key k None xs) (with_row key_cmp entry_key k None ys) (altered k (Holds None) rs)) are (remove_makes k xs ys table)

pub regrant_rows : {A : Type 0} (k : Key) (gs : List Grant) (xs : List (Entry A)) (ys : List (Entry (List Grant))) (rows : List (Row A)) → IsTable xs ys → joined xs ys ≡ rows → Makes xs (with_row key_cmp entry_key k (option_map (with_value gs) (find (is_entry k) ys)) ys) (rewritten k (λ x. record x { grants = gs }) rows)
regrant_rows k gs xs ys rows table are =
    subst (λ rs. Makes xs (with_row key_cmp entry_key k (option_map (with_value gs) (find (is_entry k) ys)) ys) (rewritten k (λ x. record x { grants = gs }) rs)) are (regrant_makes k gs xs ys table)

pub rehold_rows : {A : Type 0} (k : Key) (f : A → A) (xs : List (Entry A)) (ys : List (Entry (List Grant))) (rows : List (Row A)) → IsTable xs ys → joined xs ys ≡ rows → Makes (with_row key_cmp entry_key k (option_map (revalued f) (find (is_entry k) xs)) xs) ys (rewritten k (reheld f) rows)
rehold_rows k f xs ys rows table are =
    subst (λ rs. Makes (with_row key_cmp entry_key k (option_map (revalued f) (find (is_entry k) xs)) xs) ys (rewritten k (reheld f) rs)) are (rehold_makes k f xs ys table)

-- what holds at a key of the rows holds of the entry there
pub held_at : {A : Type 0} (P : A → Type 0) (k : Key) (xs : List (Entry A)) (ys : List (Entry (List Grant))) (rows : List (Row A)) → IsTable xs ys → joined xs ys ≡ rows → HasRowAt P k rows → HasAt P k xs
held_at {A = A} P k xs ys rows table are has x found = by (find (is_entry k) ys) refl
  where
    at : find (is_row k) rows ≡ both (Some x) (find (is_entry k) ys)
    at = ap (find (is_row k)) (sym are) ∙ find-joined k xs ys table.same ∙ ap (λ o. both o (find (is_entry k) ys)) found

    by : (p : Option (Entry (List Grant))) → find (is_entry k) ys ≡ p → P x.value
    by None e =
        let same : map entry_key (option_to_list (find (is_entry k) xs)) ≡ map entry_key (option_to_list (find (is_entry k) ys)) = same_found k xs ys table.same in
        let wrong : map entry_key (x ∷ []) ≡ [] = ap (λ o. map entry_key (option_to_list o)) (sym found) ∙ same ∙ ap (λ o. map entry_key (option_to_list o)) e in
        cc
    by (Some y) e = has (joined_row x y) (at ∙ ap (both (Some x)) e)

-- the entries of both halves at a place have the same key
pub same_at : {A B : Type 0} (xs : List (Entry A)) (ys : List (Entry B)) (i : ℕ) (x : Entry A) (y : Entry B) → map entry_key xs ≡ map entry_key ys → i < length xs → entry_key (get_or xs i x) ≡ entry_key (get_or ys i y)
same_at [] ys i x y same within = absurd (omega arith)
same_at (z ∷ xs) [] i x y same within = cc
same_at (z ∷ xs) (w ∷ ys) zero x y same within = cc
same_at (z ∷ xs) (w ∷ ys) (suc i) x y same within =
    let rest : map entry_key xs ≡ map entry_key ys = cc in
    same_at xs ys i x y rest (omega arith)

-- the row at a place, with the key of the entry of rights
pub row_read : {A : Type 0} (xs : List (Entry A)) (ys : List (Entry (List Grant))) (rows : List (Row A)) (i : ℕ) (x : Entry A) (y : Entry (List Grant)) (gs : List Grant) → joined xs ys ≡ rows → map entry_key xs ≡ map entry_key ys → i < length rows → x ≡ get_or xs i x → y ≡ get_or ys i y → gs ≡ y.value → let r : Row A = record { owner = y.key.owner; name = y.key.name; holds = x.value; grants = gs } in get_or rows i r ≡ r
row_read {A = A} xs ys rows i x y gs are same within is_x is_y is_gs =
    let r : Row A = record { owner = y.key.owner; name = y.key.name; holds = x.value; grants = gs } in
    let here : i < length xs = omega (arith, within, length-joined xs ys same, ap length are) in
    let one : entry_key x ≡ entry_key y = ap entry_key is_x ∙ same_at xs ys i x y same here ∙ ap entry_key (sym is_y) in
    ap (λ rs. get_or rs i r) (sym are)
    ∙ get-joined xs ys i r x y same here
    ∙ (λ j. joined_row (sym is_x j) (sym is_y j))
    ∙ (λ j. record { owner = (one j).owner; name = (one j).name; holds = x.value; grants = sym is_gs j })

-- where the row at a key stands, told by its entry of rights
pub row_there : {A : Type 0} (k : Key) (xs : List (Entry A)) (ys : List (Entry (List Grant))) (rows : List (Row A)) (i : ℕ) → IsTable xs ys → joined xs ys ≡ rows → IsThere key_cmp entry_key k ys i → IsThere key_cmp row_key k rows i
row_there {A = A} k xs ys rows i table are there =
    let earlier = same_filtered (λ j. is_lt (key_cmp j k)) xs ys table.same in
    subst (λ (rs : List (Row A)). IsThere key_cmp row_key k rs i) are (record {
      order = rows_ascend xs ys table.order;
      is =
          there.is
          ∙ sym (length-same (before k xs) (before k ys) earlier)
          ∙ sym (length-joined (before k xs) (before k ys) earlier)
          ∙ ap length (joined-filter (λ j. is_lt (key_cmp j k)) xs ys table.same);
      within = omega (arith, there.within, length-joined xs ys table.same, length-same xs ys table.same);
      found = ap is_some (find-joined k xs ys table.same) ∙ some (find (is_entry k) xs) (find (is_entry k) ys) there.found (same_found k xs ys table.same);
    })
  where
    some : (o : Option (Entry A)) (p : Option (Entry (List Grant))) → is_some p ≡ true → map entry_key (option_to_list o) ≡ map entry_key (option_to_list p) → is_some (both o p) ≡ true
    some None None h same = h
    some None (Some y) h same = cc
    some (Some x) None h same = h
    some (Some x) (Some y) h same = refl

pub row_absent : {A : Type 0} (k : Key) (xs : List (Entry A)) (ys : List (Entry (List Grant))) (rows : List (Row A)) → IsTable xs ys → joined xs ys ≡ rows → find (is_entry k) ys ≡ None → find (is_row k) rows ≡ None
row_absent {A = A} k xs ys rows table are none =
    ap (find (is_row k)) (sym are) ∙ find-joined k xs ys table.same ∙ ap (both (find (is_entry k) xs)) none ∙ alone (find (is_entry k) xs)
  where
    alone : (o : Option (Entry A)) → both o None ≡ None
    alone None = refl
    alone (Some x) = refl
