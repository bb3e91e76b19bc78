-- The pieces that the text of rows is written in.
use Rattle.std.specs.Prelude.{ℕ, Bool, true, false, List, [], ◌∷◌, ◌++◌, map, codes}
use Rattle.serde_json.specs.Data.{Data}
use Rattle.serde_json.specs.Written.{comma_if, compact_text}
use Rattle.rp_rows.specs.declared.rows.ModelContent.{ModelContent}
use Rattle.rp_rows.specs.Rows.{Model, GroupRow}
use Rattle.rp_snapshot_rows.specs.Written.{group_data}
use Rattle.rp_snapshot_texts.specs.Texts.{model_by}

-- a row, with a comma before it where another stands there
abbrev pub piece : Bool → Data → List ℕ
piece later d = comma_if later ++ compact_text d

-- rows, with a comma before each but the first
abbrev pub pieces : Bool → List Data → List ℕ
pieces later [] = []
pieces later (d ∷ ds) = piece later d ++ pieces true ds

-- what stands behind the first line, between the groups and the models, and behind these
abbrev pub before_groups : List ℕ
before_groups = codes "{\"groups\":["

abbrev pub between : List ℕ
between = codes "],\"models\":["

abbrev pub foot : List ℕ
foot = codes "]}"

abbrev pub group_pieces : List GroupRow → List ℕ
group_pieces groups = pieces false (map group_data groups)

abbrev pub model_pieces : (ModelContent → List ℕ) → List Model → List ℕ
model_pieces file models = pieces false (map (model_by file) models)
