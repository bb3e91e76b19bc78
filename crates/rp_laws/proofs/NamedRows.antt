-- Edits leave the rows of other names.
use Rattle.std.proofs.Common.{◌≡◌, Bool, true, false, ◌&&◌, List, [], ◌∷◌, ◌++◌, is_some, refl, ◌∙◌, ap, append-nil}
use Rattle.std.specs.Prelude.{filter, option_to_list}
use Rattle.std.specs.List.{find, AllByRecursion}
use Rattle.std.proofs.lemmas.List.Elements.{filter-append}
use Rattle.sorted_tables.specs.Table.{is_before, is_after, IsAscending}
use Rattle.sorted_tables.proofs.Ascending.{passing-split}
use Rattle.std.proofs.lemmas.Cmp.{tied_itself}
use Rattle.std.specs.Ordering.{is_eq}
use Rattle.rp_rows.specs.declared.rows.Key.{Key}
use Rattle.rp_rows.specs.Rows.{key_cmp, Row, row_key, is_row, Model, GroupRow}
use Rattle.rp_rows.specs.Alterations.{Alteration, alter, altered}
use Rattle.rp_plain.specs.Plain.{Plain, Kind}
use Rattle.rp_plain.specs.Edits.{Edit, EditModel, EditGroup, edited_by, changed, names_of}
use Rattle.rp_plain.specs.Valid.{IsOrdered}
use Rattle.rp_rows.proofs.Keys.{key_total, found_at}
use Rattle.rp_laws.specs.Laws.{names_model, names_group}
use Rattle.rp_laws.proofs.Keeping.{edited_ordered}
use Rattle.rp_laws.proofs.Outside.{new_owner, unseen_row}

none_passes : {A : Type 0} (q : Row A → Bool) (k : Key) (fails : (x : Row A) → is_row k x ≡ true → q x ≡ false) (xs : List (Row A)) → is_some (find (λ x. is_row k x && q x) xs) ≡ false
none_passes q k fails [] = refl
none_passes q k fails (x ∷ xs) = by (none_passes q k fails xs) (is_row k x) refl
  where
    by : is_some (find (λ y. is_row k y && q y) xs) ≡ false → (t : Bool) → is_row k x ≡ t → is_some (find (λ y. is_row k y && q y) (x ∷ xs)) ≡ false
    by rest true e = rw (e, fails x e) rest
    by rest false e = rw e rest

pub others_altered : {A : Type 0} (q : Row A → Bool) (k : Key) (a : Alteration A) (xs : List (Row A)) → IsAscending key_cmp row_key xs → ((x : Row A) → is_row k x ≡ true → q x ≡ false) → filter q (altered k a xs) ≡ filter q xs
others_altered q k a xs order fails =
    let row = alter k a (find (is_row k) xs) in
    let before = filter (is_before key_cmp row_key k) xs in
    let after = filter (is_after key_cmp row_key k) xs in
    let gone = unseen_row q row (λ y e. let there = new_owner k a (find (is_row k) xs) (λ x f. found_at (is_row k) xs x f) y e in fails y (ap (λ j. is_eq (key_cmp j k)) there ∙ ap is_eq (tied_itself key_total k))) in
    filter-append q (before ++ option_to_list row) after
    ∙ ap (λ ys. ys ++ filter q after) (filter-append q before (option_to_list row) ∙ ap (λ ys. filter q before ++ ys) gone ∙ append-nil (filter q before))
    ∙ passing-split key_cmp row_key key_total q k xs order (none_passes q k fails xs)

abbrev pub FailNamed : (Model → Bool) → (GroupRow → Bool) → Kind × Key → Type 0
FailNamed p q n = ((x : Model) → names_model x n ≡ true → p x ≡ false) × ((x : GroupRow) → names_group x n ≡ true → q x ≡ false)

pub others_changed : (p : Model → Bool) (q : GroupRow → Bool) (es : List Edit) (r : Plain) → IsOrdered r → AllByRecursion (FailNamed p q) (names_of es) → (filter p (changed es r).models ≡ filter p r.models) × (filter q (changed es r).groups ≡ filter q r.groups)
others_changed p q [] r ordered fails = (refl, refl)
others_changed p q (EditModel k a ∷ es) r ordered fails =
    let rest = others_changed p q es (edited_by (EditModel k a) r) (edited_ordered (EditModel k a) r ordered) fails.1 in
    (rest.0 ∙ others_altered p k a r.models ordered.models fails.0.0, rest.1)
others_changed p q (EditGroup k a ∷ es) r ordered fails =
    let rest = others_changed p q es (edited_by (EditGroup k a) r) (edited_ordered (EditGroup k a) r ordered) fails.1 in
    (rest.0, rest.1 ∙ others_altered q k a r.groups ordered.groups fails.0.1)
