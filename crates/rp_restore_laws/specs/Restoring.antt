-- Restoring: rows of models and of groups are put into a repository as they stand, with all their grants at once.
use Rattle.std.specs.Prelude.{List, [], ◌∷◌, Some}
use Rattle.sorted_tables.specs.Table.{with_row}
use Rattle.rp_rows.specs.declared.rows.Grant.{Grant}
use Rattle.rp_rows.specs.declared.rows.Key.{Key}
use Rattle.rp_rows.specs.Rows.{key_cmp, Row, row_key, Model, GroupRow}
use Rattle.rp_plain.specs.Plain.{Plain}

-- the row of a key that holds this and has these grants
abbrev pub row_of : {A : Type 0} → Key → A → List Grant → Row A
row_of k a grants = record { owner = k.owner; name = k.name; holds = a; grants = grants }

-- the row stands under its key from now on
abbrev pub restored : {A : Type 0} → Row A → List (Row A) → List (Row A)
restored x = with_row key_cmp row_key (row_key x) (Some x)

-- ---- in a repository

abbrev pub with_model : Model → Plain → Plain
with_model m r = record r { models = restored m r.models }

abbrev pub with_group : GroupRow → Plain → Plain
with_group g r = record r { groups = restored g r.groups }

-- these models, one by one
abbrev pub with_models : List Model → Plain → Plain
with_models [] r = r
with_models (m ∷ ms) r = with_models ms (with_model m r)

-- these groups, one by one, and then these models
abbrev pub with_rows : List GroupRow → List Model → Plain → Plain
with_rows [] ms r = with_models ms r
with_rows (g ∷ gs) ms r = with_rows gs ms (with_group g r)
