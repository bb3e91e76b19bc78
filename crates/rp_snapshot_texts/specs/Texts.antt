-- The text of rows: the number of a version on a line, and behind it the groups and the models as JSON without blanks.
use Rattle.std.specs.Prelude.{ℕ, List, [], ◌∷◌, ◌++◌, codes, decimal}
use Rattle.serde_json.specs.Data.{Data, object, no_members, member}
use Rattle.serde_json.specs.Written.{compact_text}
use Rattle.rp_rows.specs.declared.rows.ModelContent.{ModelContent}
use Rattle.rp_rows.specs.Rows.{Model, GroupRow}
use Rattle.rp_json.specs.Written.{list_of}
use Rattle.rp_snapshot_rows.specs.Written.{model_data, group_data}

abbrev pub first_line : ℕ → List ℕ
first_line version = codes "STEPREPO " ++ (decimal version ++ 10 ∷ [])

-- a model, where this is what is written of the header and the instances that models hold
abbrev pub model_by : (ModelContent → List ℕ) → Model → Data
model_by file m = model_data (file m.holds) m

abbrev pub rows_data : (ModelContent → List ℕ) → List GroupRow → List Model → Data
rows_data file groups models = object (member (codes "groups") (list_of group_data groups) (member (codes "models") (list_of (model_by file) models) no_members))

abbrev pub rows_text : ℕ → (ModelContent → List ℕ) → List GroupRow → List Model → List ℕ
rows_text version file groups models = first_line version ++ compact_text (rows_data file groups models)
