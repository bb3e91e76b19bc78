-- What a snapshot of a repository is.
use Rattle.std.specs.Prelude.{ℕ, List, [], Option, Some, None}
use Rattle.ex_types.specs.Checked.{Checked}
use Rattle.p21_canonical.specs.Trees.{canonical}
use Rattle.rp_content.specs.declared.content.Content.{Content}
use Rattle.rp_rows.specs.declared.rows.ModelContent.{ModelContent}
use Rattle.rp_rows.specs.Rows.{Model, GroupRow}
use Rattle.rp_plain.specs.Plain.{Plain}
use Rattle.rp_plain.specs.Meaning.{schema_named}
use Rattle.rp_snapshot_texts.specs.Texts.{rows_text}

-- a version of snapshots: its number, and the file that it writes for what a model of a schema holds
pub record Version : Type 0 where
  pub number : ℕ
  pub file : Checked → Content → List ℕ

-- the first: the file is canonical text
abbrev pub first_version : Version
first_version = record { number = 1; file = canonical }

-- the file of a model, by its schema
abbrev pub file_by : Version → Option Checked → ModelContent → List ℕ
file_by version None h = []
file_by version (Some schema) h = version.file schema h.content

abbrev pub file_in : Version → List Checked → ModelContent → List ℕ
file_in version schemas h = file_by version (schema_named schemas h.schema) h

-- of these rows, where these schemas are loaded
abbrev pub snapshot_by : Version → List Checked → List GroupRow → List Model → List ℕ
snapshot_by version schemas groups models = rows_text version.number (file_in version schemas) groups models

-- the snapshot of a repository in a version
abbrev pub snapshot_in : Version → Plain → List ℕ
snapshot_in version r = snapshot_by version r.schemas r.groups r.models

-- the snapshot of a repository
abbrev pub snapshot_of : Plain → List ℕ
snapshot_of r = snapshot_in first_version r
