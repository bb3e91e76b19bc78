-- What a partner sees of a model or a group stands where it is kept.
use Rattle.std.proofs.Common.{◌≡◌, suc, Bool, true, false, List, [], ◌∷◌, map, length, Option, Some, None, is_some, refl, sym, ◌∙◌, ap, subst}
use Rattle.std.specs.Prelude.{filter, option_map, ◌||◌, if◌then◌else◌}
use Rattle.std.specs.List.{find, AllByRecursion}
use Rattle.std.specs.Ordering.{is_gt}
use Rattle.std.specs.Str.{bytes_eq}
use Rattle.std.proofs.lemmas.Slice.Eq.{bytes_eq-Decides}
use Rattle.sorted_tables.specs.Table.{IsAscending}
use Rattle.sorted_tables.proofs.Searching.{chosen}
use Rattle.rp_rows.specs.declared.rows.Grant.{Grant}
use Rattle.rp_rows.specs.declared.rows.Key.{Key}
use Rattle.rp_rows.specs.declared.rows.ModelContent.{ModelContent}
use Rattle.rp_rows.specs.declared.rows.Right.TheVariants.{Unseen, Reads, Owns}
use Rattle.rp_rows.specs.Rows.{Text, key_cmp, Row, row_key, is_row, Model, GroupRow}
use Rattle.rp_rows.specs.Sight.{owns, is_granted, at_least, sees, sees_group}
use Rattle.rp_rows.proofs.Keys.{found_at, owner_at}
use Rattle.rp_plain.specs.Plain.{Plain, model_at, group_at}
use Rattle.rp_plain.specs.Readers.{asked, held, right_at, group_right_at}
use Rattle.rp_store.specs.declared.keyed.Entry.{Entry}
use Rattle.rp_store.specs.Entries.{entry_key, is_entry}
use Rattle.rp_store.specs.Models.{Held, held_at}
use Rattle.rp_store.proofs.Counting.{is_owned}
use Rattle.rp_access.specs.Kept.{Rights}
use Rattle.rp_sight.specs.Stored.{joined, IsTable}
use Rattle.rp_sight.proofs.Joining.{owned_rows}
use Rattle.rp_readers.proofs.Looking.{found_seen, seen_found, right_there}
use Rattle.rp_core.proofs.Altering.{both_have, has_row, held_row}
use Rattle.rp_core.proofs.Contents.{Stands}

-- the repository's models are these two halves, and its rows stand in order
pub record IsKept (ms : List Held) (es : List Rights) (r : Plain) : Type 0 where
  pub table : IsTable ms es
  pub rows : joined ms es ≡ r.models
  pub models : IsAscending key_cmp row_key r.models
  pub groups : IsAscending key_cmp row_key r.groups

-- ---- models

pub stands : (ms : List Held) (es : List Rights) (r : Plain) (c : Text) (k : Key) → IsKept ms es r → is_some ((asked r c).content k) ≡ true → Stands (asked r c) ms r.models k
stands ms es r c k kept seen = by (model_at r c k) refl seen
  where
    by : (o : Option Model) → model_at r c k ≡ o → is_some (held o) ≡ true → Stands (asked r c) ms r.models k
    by None e some = cc
    by (Some m) e some =
        let there = found_seen k (sees r.groups c) r.models m kept.models e in
        record { row = m; there = there; seen = ap held e; was = held_row k ms es m kept.table.same (ap (find (is_row k)) kept.rows ∙ there) }

-- there are rights on a model that is there
pub has_rights_where : (k : Key) (ms : List Held) (es : List Rights) (h : ModelContent) → map entry_key ms ≡ map entry_key es → held_at k ms ≡ Some h → is_some (find (is_entry k) es) ≡ true
has_rights_where k ms es h same held = sym (both_have k ms es same) ∙ by (find (is_entry k) ms) held
  where
    by : (o : Option Held) → option_map (λ (m : Held). m.value) o ≡ Some h → is_some o ≡ true
    by None e = cc
    by (Some x) e = refl

pub some_value : (o : Option Held) → is_some (option_map (λ (m : Held). m.value) o) ≡ is_some o
some_value None = refl
some_value (Some x) = refl

-- whoever owns a key sees what stands there
pub own_model : (ms : List Held) (es : List Rights) (r : Plain) (c : Text) (k : Key) → IsKept ms es r → k.owner ≡ c → at_least Reads ((asked r c).model_right k) ≡ is_some (find (is_entry k) es)
own_model ms es r c k kept own =
    ap (λ o. at_least Reads (right_at r.groups c o)) (sym (seen_found k (sees r.groups c) r.models (find (is_row k) r.models) kept.models refl))
    ∙ by (find (is_row k) r.models) refl
    ∙ ap (λ ms. is_some (find (is_row k) ms)) (sym kept.rows)
    ∙ has_row k ms es kept.table.same
    ∙ both_have k ms es kept.table.same
  where
    by : (o : Option Model) → find (is_row k) r.models ≡ o → at_least Reads (right_at r.groups c (chosen (sees r.groups c) o)) ≡ is_some o
    by None e = refl
    by (Some m) e =
        let owned : owns c m ≡ true = (bytes_eq-Decides m.owner c).1 (owner_at k m (found_at (is_row k) r.models m e) ∙ own) in
        ap (at_least Reads) (right_there r.groups c m) ∙ rw owned refl

owned_same : {A B : Type 0} (c : Text) (xs : List (Entry A)) (ys : List (Entry B)) → map entry_key xs ≡ map entry_key ys → length (filter (is_owned c) xs) ≡ length (filter (is_owned c) ys)
owned_same c [] [] same = refl
owned_same c [] (y ∷ ys) same = cc
owned_same c (x ∷ xs) [] same = cc
owned_same c (x ∷ xs) (y ∷ ys) same =
    let one : entry_key x ≡ entry_key y = cc in
    let rest : map entry_key xs ≡ map entry_key ys = cc in
    by (owned_same c xs ys rest) (is_owned c x) (is_owned c y) (ap (λ j. bytes_eq j.owner c) one)
  where
    by : length (filter (is_owned c) xs) ≡ length (filter (is_owned c) ys) → (t u : Bool) → t ≡ u → length (if t then x ∷ filter (is_owned c) xs else filter (is_owned c) xs) ≡ length (if u then y ∷ filter (is_owned c) ys else filter (is_owned c) ys)
    by rest true true e = ap suc rest
    by rest true false e = cc
    by rest false true e = cc
    by rest false false e = rest

-- how many models are whose
pub model_count_is : (ms : List Held) (es : List Rights) (r : Plain) (c : Text) (k : Key) → IsKept ms es r → k.owner ≡ c → length (filter (λ (x : Entry (List Grant)). bytes_eq x.key.owner k.owner) es) ≡ (asked r c).model_count
model_count_is ms es r c k kept own =
    ap (λ d. length (filter (is_owned d) es)) own
    ∙ sym (owned_same c ms es kept.table.same)
    ∙ sym (owned_rows c ms es kept.table.same)
    ∙ ap (λ rows. length (filter (owns c) rows)) kept.rows

-- ---- groups

pub record GroupStands (r : Plain) (c : Text) (k : Key) : Type 0 where
  pub row : GroupRow
  pub there : find (is_row k) r.groups ≡ Some row
  pub seen : (asked r c).listing k ≡ Some row.holds

pub group_stands : (r : Plain) (c : Text) (k : Key) → IsAscending key_cmp row_key r.groups → is_some ((asked r c).listing k) ≡ true → GroupStands r c k
group_stands r c k order seen = by (group_at r c k) refl seen
  where
    by : (o : Option GroupRow) → group_at r c k ≡ o → is_some (held o) ≡ true → GroupStands r c k
    by None e some = cc
    by (Some g) e some = record { row = g; there = found_seen k (sees_group c) r.groups g order e; seen = ap held e }

pub own_group : (r : Plain) (c : Text) (k : Key) → IsAscending key_cmp row_key r.groups → k.owner ≡ c → at_least Reads ((asked r c).group_right k) ≡ is_some (find (is_row k) r.groups)
own_group r c k order own =
    ap (λ o. at_least Reads (group_right_at c o)) (sym (seen_found k (sees_group c) r.groups (find (is_row k) r.groups) order refl))
    ∙ by (find (is_row k) r.groups) refl
  where
    by : (o : Option GroupRow) → find (is_row k) r.groups ≡ o → at_least Reads (group_right_at c (chosen (sees_group c) o)) ≡ is_some o
    by None e = refl
    by (Some g) e =
        let owned : owns c g ≡ true = (bytes_eq-Decides g.owner c).1 (owner_at k g (found_at (is_row k) r.groups g e) ∙ own) in
        ap (λ t. at_least Reads (group_right_at c (if t then Some g else None))) (ap (λ t. t || is_granted c g) owned)
        ∙ ap (λ t. at_least Reads (if t then Owns else (if is_granted c g then Reads else Unseen))) owned

-- ---- a repository in order

all_left : {A : Type 0} (P : Key → Type 0) (xs : List (Entry A)) (ys : List (Entry (List Grant))) → map entry_key xs ≡ map entry_key ys → AllByRecursion (λ (x : Row A). P (row_key x)) (joined xs ys) → AllByRecursion (λ x. P (entry_key x)) xs
all_left P [] ys same all = tt
all_left P (x ∷ xs) [] same all = cc
all_left P (x ∷ xs) (y ∷ ys) same all = let rest : map entry_key xs ≡ map entry_key ys = cc in (all.0, all_left P xs ys rest all.1)

all_same : {A B : Type 0} (P : Key → Type 0) (xs : List (Entry A)) (ys : List (Entry B)) → map entry_key xs ≡ map entry_key ys → AllByRecursion (λ x. P (entry_key x)) xs → AllByRecursion (λ y. P (entry_key y)) ys
all_same P xs [] same all = tt
all_same P [] (y ∷ ys) same all = cc
all_same P (x ∷ xs) (y ∷ ys) same all =
    let one : entry_key x ≡ entry_key y = cc in
    let rest : map entry_key xs ≡ map entry_key ys = cc in
    (subst P one all.0, all_same P xs ys rest all.1)

left_ascends : (ms : List Held) (es : List Rights) → map entry_key ms ≡ map entry_key es → IsAscending key_cmp row_key (joined ms es) → IsAscending key_cmp entry_key ms
left_ascends [] es same order = tt
left_ascends (x ∷ ms) [] same order = cc
left_ascends (x ∷ ms) (y ∷ es) same order =
    let rest : map entry_key ms ≡ map entry_key es = cc in
    (all_left (λ j. is_gt (key_cmp j x.key) ≡ true) ms es rest order.0, left_ascends ms es rest order.1)

right_ascends : (ms : List Held) (es : List Rights) → map entry_key ms ≡ map entry_key es → IsAscending key_cmp entry_key ms → IsAscending key_cmp entry_key es
right_ascends ms [] same order = tt
right_ascends [] (y ∷ es) same order = cc
right_ascends (x ∷ ms) (y ∷ es) same order =
    let one : entry_key x ≡ entry_key y = cc in
    let rest : map entry_key ms ≡ map entry_key es = cc in
    (all_same (λ j. is_gt (key_cmp j y.key) ≡ true) ms es rest (subst (λ k. AllByRecursion (λ (z : Held). is_gt (key_cmp z.key k) ≡ true) ms) one order.0), right_ascends ms es rest order.1)

pub kept_of : (ms : List Held) (es : List Rights) (r : Plain) → map entry_key ms ≡ map entry_key es → joined ms es ≡ r.models → IsAscending key_cmp row_key r.models → IsAscending key_cmp row_key r.groups → IsKept ms es r
kept_of ms es r same rows models groups =
    let order = left_ascends ms es same (subst (λ (ns : List Model). IsAscending key_cmp row_key ns) (sym rows) models) in
    record { table = record { same = same; order = order; right_order = right_ascends ms es same order }; rows = rows; models = models; groups = groups }
