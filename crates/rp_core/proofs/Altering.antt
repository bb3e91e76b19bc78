-- What is done to entries, and what that makes of the rows of models.
use Rattle.std.proofs.Common.{◌≡◌, Bool, ◌&&◌, true, false, List, [], ◌∷◌, map, Option, Some, None, is_some, refl, sym, ◌∙◌, ap, subst}
use Rattle.std.specs.Prelude.{option_map, if◌then◌else◌}
use Rattle.std.specs.List.{find}
use Rattle.std.specs.Cmp.{tied_then}
use Rattle.std.specs.Ordering.{is_eq}
use Rattle.std.proofs.lemmas.Map.Text.{is_eq-slice_cmp}
use Rattle.sorted_tables.specs.Table.{with_row}
use Rattle.rp_rows.specs.declared.rows.Grant.{Grant}
use Rattle.rp_rows.specs.declared.rows.Level.{Level}
use Rattle.rp_rows.specs.declared.rows.Key.{Key}
use Rattle.rp_rows.specs.declared.rows.ModelContent.{ModelContent}
use Rattle.rp_rows.specs.Rows.{Text, text_cmp, key_cmp, same_key, row_key, is_row, Model}
use Rattle.rp_rows.specs.Alterations.{Holds, Grants, altered, granting, grants_of}
use Rattle.rp_rows.proofs.Keys.{key_total, key_at, found_at}
use Rattle.rp_store.specs.declared.keyed.Entry.{Entry}
use Rattle.rp_store.specs.Entries.{entry_key, is_entry, with_value, revalued}
use Rattle.rp_store.specs.Models.{Held, held_at, model, edited}
use Rattle.rp_store.proofs.Finding.{edited_rows}
use Rattle.rp_sight.specs.Stored.{joined, IsTable, rewritten, reheld}
use Rattle.rp_sight.proofs.Joining.{both, find-joined, Makes, rehold_rows, regrant_rows}
use Rattle.rp_sight.proofs.Changed.{find_other}
use Rattle.rp_access.specs.Kept.{Rights}
use Rattle.rp_access.specs.Changes.{regranted, grants_in, regranted_on}

-- ---- what stands at a key

-- both halves have a key, or neither has it
pub both_have : {A B : Type 0} (k : Key) (xs : List (Entry A)) (ys : List (Entry B)) → map entry_key xs ≡ map entry_key ys → is_some (find (is_entry k) xs) ≡ is_some (find (is_entry k) ys)
both_have k [] [] same = refl
both_have k [] (y ∷ ys) same = cc
both_have k (x ∷ xs) [] same = cc
both_have k (x ∷ xs) (y ∷ ys) same =
    let one : entry_key x ≡ entry_key y = cc in
    let rest : map entry_key xs ≡ map entry_key ys = cc in
    by (both_have k xs ys rest) (is_entry k x) (is_entry k y) (ap (λ j. is_eq (key_cmp j k)) one)
  where
    by : is_some (find (is_entry k) xs) ≡ is_some (find (is_entry k) ys) → (t u : Bool) → t ≡ u → is_some (if t then Some x else find (is_entry k) xs) ≡ is_some (if u then Some y else find (is_entry k) ys)
    by rest true true e = refl
    by rest true false e = cc
    by rest false true e = cc
    by rest false false e = rest

-- there is a row where there is an entry
pub has_row : (k : Key) (ms : List Held) (es : List Rights) → map entry_key ms ≡ map entry_key es → is_some (find (is_row k) (joined ms es)) ≡ is_some (find (is_entry k) ms)
has_row k ms es same = ap is_some (find-joined k ms es same) ∙ by (find (is_entry k) ms) (find (is_entry k) es) (both_have k ms es same)
  where
    by : (o : Option Held) (p : Option Rights) → is_some o ≡ is_some p → is_some (both o p) ≡ is_some o
    by None p e = refl
    by (Some x) None e = sym e
    by (Some x) (Some y) e = refl

-- what the model of a row holds
pub held_row : (k : Key) (ms : List Held) (es : List Rights) (x : Model) → map entry_key ms ≡ map entry_key es → find (is_row k) (joined ms es) ≡ Some x → held_at k ms ≡ Some x.holds
held_row k ms es x same there = by (find (is_entry k) ms) (find (is_entry k) es) (sym (find-joined k ms es same) ∙ there)
  where
    by : (o : Option Held) (p : Option Rights) → both o p ≡ Some x → option_map (λ (m : Held). m.value) o ≡ Some x.holds
    by None p e = cc
    by (Some y) None e = cc
    by (Some y) (Some z) e = ap (option_map (λ (r : Model). r.holds)) e

-- ---- what a model holds is changed

reheld_altered : (k : Key) (f : ModelContent → ModelContent) (x : Model) (rows : List Model) → find (is_row k) rows ≡ Some x → rewritten k (reheld f) rows ≡ altered k (Holds (Some (f x.holds))) rows
reheld_altered k f x rows there =
    let key : row_key x ≡ k = key_at k x (found_at (is_row k) rows x there) in
    let now : Key → Option Model = λ j. Some (record { owner = j.owner; name = j.name; holds = f x.holds; grants = x.grants }) in
    ap (λ o. with_row key_cmp row_key k (option_map (reheld f) o) rows) there
    ∙ ap (λ j. with_row key_cmp row_key k (now j) rows) key
    ∙ ap (λ o. with_row key_cmp row_key k (Some (record { owner = k.owner; name = k.name; holds = f x.holds; grants = grants_of o })) rows) (sym there)

pub content_rows : (k : Key) (f : ModelContent → ModelContent) (x : Model) (ms : List Held) (es : List Rights) → IsTable ms es → find (is_row k) (joined ms es) ≡ Some x → Makes (edited k f ms) es (altered k (Holds (Some (f x.holds))) (joined ms es))
content_rows k f x ms es table there =
    let made = rehold_rows k f ms es (joined ms es) table refl in
    record {
      rows_are = ap (λ ns. joined ns es) (sym (edited_rows k f ms)) ∙ made.rows_are ∙ reheld_altered k f x (joined ms es) there;
      table = subst (λ ns. IsTable ns es) (edited_rows k f ms) made.table;
    }

-- keys that aren't the same differ in their order
pub other_key : (j k : Key) → same_key k j ≡ false → is_eq (key_cmp j k) ≡ false
other_key j k apart =
    sym (tied_then (text_cmp j.owner k.owner) (text_cmp j.name k.name))
    ∙ (λ i. is_eq-slice_cmp j.owner k.owner i && is_eq-slice_cmp j.name k.name i)
    ∙ apart

abbrev key_or : Key → Option Held → Key
key_or k None = k
key_or k (Some x) = entry_key x

-- another model's row stays
pub other_row : (j k : Key) (h : ModelContent) (rows : List Model) → same_key k j ≡ false → find (is_row j) (altered k (Holds (Some h)) rows) ≡ find (is_row j) rows
other_row j k h rows apart =
    let row : Model = record { owner = k.owner; name = k.name; holds = h; grants = grants_of (find (is_row k) rows) } in
    find_other key_cmp row_key key_total j k (Some row) rows (λ x e. ap row_key_or (sym e)) (other_key j k apart)
  where
    row_key_or : Option Model → Key
    row_key_or None = k
    row_key_or (Some x) = row_key x

-- what another model holds stays
pub other_held : (j k : Key) (f : ModelContent → ModelContent) (ms : List Held) → same_key k j ≡ false → held_at j (edited k f ms) ≡ held_at j ms
other_held j k f ms apart =
    ap (option_map (λ (m : Held). m.value))
    (find_other key_cmp entry_key key_total j k (option_map (model k) (option_map f (held_at k ms))) ms (keyed (option_map f (held_at k ms))) (other_key j k apart))
  where
    keyed : (o : Option ModelContent) → (x : Held) → option_map (model k) o ≡ Some x → entry_key x ≡ k
    keyed None x e = cc
    keyed (Some h) x e = ap (key_or k) (sym e)

-- ---- a grant on a model

pub regranted_rows : (k : Key) (to : Text) (l : Option Level) (ms : List Held) (es : List Rights) → IsTable ms es → Makes ms (regranted_on k to l es) (altered k (Grants to l) (joined ms es))
regranted_rows k to l ms es table =
    let p = find (is_entry k) es in
    let gs : List Grant = regranted to l (grants_in p) in
    let made = regrant_rows k gs ms es (joined ms es) table refl in
    let entries : with_row key_cmp entry_key k (option_map (with_value gs) p) es ≡ regranted_on k to l es = ap (λ o. with_row key_cmp entry_key k o es) (valued p) in
    let found = find-joined k ms es table.same in
    record {
      rows_are =
          ap (joined ms) (sym entries)
          ∙ made.rows_are
          ∙ ap (λ (o : Option Model). with_row key_cmp row_key k (option_map (λ (x : Model). record x { grants = gs }) o) (joined ms es)) found
          ∙ ap (λ (o : Option Model). with_row key_cmp row_key k o (joined ms es)) (granted_both (find (is_entry k) ms) p)
          ∙ ap (λ (o : Option Model). with_row key_cmp row_key k (option_map (granting to l) o) (joined ms es)) (sym found);
      table = subst (λ zs. IsTable ms zs) entries made.table;
    }
  where
    valued : (p : Option Rights) → option_map (with_value (regranted to l (grants_in p))) p ≡ option_map (revalued (regranted to l)) p
    valued None = refl
    valued (Some y) = refl

    granted_both : (o : Option Held) (p : Option Rights) → option_map (λ (x : Model). record x { grants = regranted to l (grants_in p) }) (both o p) ≡ option_map (granting to l) (both o p)
    granted_both None p = refl
    granted_both (Some x) None = refl
    granted_both (Some x) (Some y) = refl
