-- A row that is put with all its grants, as one edit of what it holds and one for each of its grants.
use Rattle.std.proofs.Common.{◌≡◌, List, [], ◌∷◌, map, Some, None, refl, sym, ◌∙◌, ap}
use Rattle.std.specs.List.{find}
use Rattle.std.proofs.lemmas.Cmp.{nat_list_cmp_total}
use Rattle.sorted_tables.specs.Table.{with_row, IsAscending}
use Rattle.rp_rows.specs.declared.rows.Grant.{Grant}
use Rattle.rp_rows.specs.declared.rows.Key.{Key}
use Rattle.rp_rows.specs.Rows.{text_cmp, key_cmp, grant_key, Row, row_key, is_row, Model, GroupRow}
use Rattle.rp_rows.specs.Alterations.{Holds, Grants, alter, altered, granting}
use Rattle.rp_rows.proofs.Keys.{key_total}
use Rattle.rp_plain.specs.Plain.{Plain}
use Rattle.rp_plain.specs.Edits.{changed}
use Rattle.rp_restore_laws.specs.Restoring.{row_of, restored, with_model, with_group}
use Rattle.rp_restore_laws.specs.Laws.{model_grant, group_grant, model_edits, group_edits}
use Rattle.rp_restore_laws.proofs.Behind.{put, all_put, all_put_behind}
use Rattle.rp_restore_laws.proofs.Replacing.{found_put, put_again}

-- ---- in a table

new_row : {A : Type 0} (k : Key) (a : A) (xs : List (Row A)) → find (is_row k) xs ≡ None → altered k (Holds (Some a)) xs ≡ restored (row_of k a []) xs
new_row k a xs none = ap (λ o. with_row key_cmp row_key k (alter k (Holds (Some a)) o) xs) none

granted : {A : Type 0} (x : Row A) (g : Grant) (xs : List (Row A)) → altered (row_key x) (Grants g.partner (Some g.level)) (restored x xs) ≡ restored (record x { grants = put text_cmp grant_key g x.grants }) xs
granted x g xs =
    ap (λ o. with_row key_cmp row_key (row_key x) (alter (row_key x) (Grants g.partner (Some g.level)) o) (restored x xs)) (found_put key_cmp row_key key_total x xs)
    ∙ put_again key_cmp row_key key_total (Some (granting g.partner (Some g.level) x)) x xs

grants_in_order : (gs : List Grant) → IsAscending text_cmp grant_key gs → all_put text_cmp grant_key gs [] ≡ gs
grants_in_order gs order = all_put_behind text_cmp grant_key nat_list_cmp_total [] gs order

-- ---- in a repository

model_granted : (m : Model) (gs : List Grant) (r : Plain) → changed (map (model_grant (row_key m)) gs) (with_model m r) ≡ with_model (record m { grants = all_put text_cmp grant_key gs m.grants }) r
model_granted m [] r = refl
model_granted m (g ∷ gs) r =
    ap (λ ms. changed (map (model_grant (row_key m)) gs) (record r { models = ms })) (granted m g r.models)
    ∙ model_granted (record m { grants = put text_cmp grant_key g m.grants }) gs r

group_granted : (g : GroupRow) (xs : List Grant) (r : Plain) → changed (map (group_grant (row_key g)) xs) (with_group g r) ≡ with_group (record g { grants = all_put text_cmp grant_key xs g.grants }) r
group_granted g [] r = refl
group_granted g (x ∷ xs) r =
    ap (λ gs. changed (map (group_grant (row_key g)) xs) (record r { groups = gs })) (granted g x r.groups)
    ∙ group_granted (record g { grants = put text_cmp grant_key x g.grants }) xs r

pub model_is_edits : (r : Plain) (m : Model) → IsAscending text_cmp grant_key m.grants → find (is_row (row_key m)) r.models ≡ None → with_model m r ≡ changed (model_edits m) r
model_is_edits r m order none =
    sym (ap (λ ms. changed (map (model_grant (row_key m)) m.grants) (record r { models = ms })) (new_row (row_key m) m.holds r.models none)
    ∙ model_granted (row_of (row_key m) m.holds []) m.grants r
    ∙ ap (λ gs. with_model (record m { grants = gs }) r) (grants_in_order m.grants order))

pub group_is_edits : (r : Plain) (g : GroupRow) → IsAscending text_cmp grant_key g.grants → find (is_row (row_key g)) r.groups ≡ None → with_group g r ≡ changed (group_edits g) r
group_is_edits r g order none =
    sym (ap (λ gs. changed (map (group_grant (row_key g)) g.grants) (record r { groups = gs })) (new_row (row_key g) g.holds r.groups none)
    ∙ group_granted (row_of (row_key g) g.holds []) g.grants r
    ∙ ap (λ xs. with_group (record g { grants = xs }) r) (grants_in_order g.grants order))
