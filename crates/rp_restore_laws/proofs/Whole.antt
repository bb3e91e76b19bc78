-- The rows of a repository, put one by one in their order into the one that is opened.
use Rattle.std.proofs.Common.{◌≡◌, ◌≤◌, ◌<◌, ◌+◌, ℕ, suc, true, List, [], ◌∷◌, ◌++◌, length, length-append, refl, sym, ◌∙◌, ap, subst, arith}
use Rattle.std.specs.Prelude.{filter}
use Rattle.std.specs.Str.{bytes_eq}
use Rattle.std.proofs.lemmas.List.Elements.{filter-append}
use Rattle.std.proofs.lemmas.Slice.Eq.{bytes_eq-Decides}
use Rattle.rp_rows.specs.Rows.{key_cmp, Row, row_key, Model, GroupRow}
use Rattle.rp_rows.specs.Listings.{max_models, max_groups}
use Rattle.rp_rows.specs.Sight.{owns}
use Rattle.rp_rows.proofs.Keys.{key_total}
use Rattle.rp_plain.specs.Opening.{opened}
use Rattle.rp_plain.specs.Plain.{Plain}
use Rattle.rp_plain.specs.Valid.{IsValidModel, IsValidGroup, IsOrdered, IsValid}
use Rattle.rp_restore_laws.specs.Restoring.{with_model, with_group, with_models, with_rows}
use Rattle.rp_restore_laws.specs.Laws.{MayTakeModel, MayTakeGroup, MayTakeModels, MayTakeRows}
use Rattle.rp_restore_laws.proofs.Behind.{among, all_put, not_there, are_before, put_next, all_put_behind}

-- ---- they give it

models_put : (ms : List Model) (r : Plain) → with_models ms r ≡ record r { models = all_put key_cmp row_key ms r.models }
models_put [] r = refl
models_put (m ∷ ms) r = models_put ms (with_model m r)

rows_put : (gs : List GroupRow) (ms : List Model) (r : Plain) → with_rows gs ms r ≡ record r { models = all_put key_cmp row_key ms r.models; groups = all_put key_cmp row_key gs r.groups }
rows_put [] ms r = models_put ms r
rows_put (g ∷ gs) ms r = rows_put gs ms (with_group g r)

pub rows_give : (r : Plain) → IsOrdered r → with_rows r.groups r.models (opened r.schemas r.partners) ≡ r
rows_give r order =
    let models = all_put_behind key_cmp row_key key_total [] r.models order.models in
    let groups = all_put_behind key_cmp row_key key_total [] r.groups order.groups in
    rows_put r.groups r.models (opened r.schemas r.partners) ∙ (λ i. record r { models = models i; groups = groups i })

-- ---- each may be put in its turn

-- an owner has room for a row where no more than most are his with it
room : {A : Type 0} (most : ℕ) (xs : List (Row A)) (y : Row A) (ys : List (Row A)) → length (filter (owns y.owner) (xs ++ (y ∷ ys))) ≤ most → length (filter (owns y.owner) xs) < most
room most xs y ys few =
    let own : bytes_eq y.owner y.owner ≡ true = (bytes_eq-Decides y.owner y.owner).1 refl in
    let all : length (filter (owns y.owner) (xs ++ (y ∷ ys))) ≡ length (filter (owns y.owner) xs) + length (filter (owns y.owner) (y ∷ ys)) =
    ap length (filter-append (owns y.owner) xs (y ∷ ys)) ∙ length-append (filter (owns y.owner) xs) (filter (owns y.owner) (y ∷ ys)) in
    let one : length (filter (owns y.owner) (y ∷ ys)) ≡ suc (length (filter (owns y.owner) ys)) = rw own refl in
    omega (arith, all, one, few)

-- the repository with these rows behind its own
abbrev followed_by : List GroupRow → List Model → Plain → Plain
followed_by gs ms r = record r { models = r.models ++ ms; groups = r.groups ++ gs }

next_model : (r : Plain) (m : Model) (ms : List Model) → IsValid (followed_by [] (m ∷ ms) r) → MayTakeModel r m
next_model r m ms valid = record {
  valid = among (IsValidModel r.schemas r.partners) r.models m ms valid.models;
  new = not_there key_cmp row_key (row_key m) r.models (are_before key_cmp row_key key_total r.models m ms valid.order.models);
  room = room max_models r.models m ms (valid.few_models m.owner);
}

next_group : (r : Plain) (g : GroupRow) (gs : List GroupRow) (ms : List Model) → IsValid (followed_by (g ∷ gs) ms r) → MayTakeGroup r g
next_group r g gs ms valid = record {
  valid = among (IsValidGroup r.schemas r.partners) r.groups g gs valid.groups;
  new = not_there key_cmp row_key (row_key g) r.groups (are_before key_cmp row_key key_total r.groups g gs valid.order.groups);
  room = room max_groups r.groups g gs (valid.few_groups g.owner);
}

may_take_models : (ms : List Model) (r : Plain) → IsValid (followed_by [] ms r) → MayTakeModels ms r
may_take_models [] r valid = tt
may_take_models (m ∷ ms) r valid =
    let next = put_next key_cmp row_key key_total r.models m ms valid.order.models in
    (next_model r m ms valid, may_take_models ms (with_model m r) (subst (λ xs. IsValid (record r { models = xs; groups = r.groups ++ [] })) (sym next) valid))

may_take_rows : (gs : List GroupRow) (ms : List Model) (r : Plain) → IsValid (followed_by gs ms r) → MayTakeRows gs ms r
may_take_rows [] ms r valid = may_take_models ms r valid
may_take_rows (g ∷ gs) ms r valid =
    let next = put_next key_cmp row_key key_total r.groups g gs valid.order.groups in
    (next_group r g gs ms valid, may_take_rows gs ms (with_group g r) (subst (λ xs. IsValid (record r { models = r.models ++ ms; groups = xs })) (sym next) valid))

pub rows_may_be_taken : (r : Plain) → IsValid r → MayTakeRows r.groups r.models (opened r.schemas r.partners)
rows_may_be_taken r valid = may_take_rows r.groups r.models (opened r.schemas r.partners) valid
