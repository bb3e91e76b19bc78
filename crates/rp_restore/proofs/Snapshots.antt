-- What a snapshot is made of.
use Rattle.std.proofs.Common.{◌≡◌, ℕ, List, Result, Ok, Err, ◌∙◌}
use Rattle.json.specs.Token.{Token}
use Rattle.serde_json.specs.Written.{compact_text}
use Rattle.plain_data.specs.declared.failure.Failure.{Failure}
use Rattle.rp_plain.specs.Plain.{Plain}
use Rattle.rp_snapshot_texts.specs.Texts.{rows_data}
use Rattle.rp_snapshots.specs.Snapshots.{first_version, file_in}
use Rattle.rp_restore.specs.Again.{HoldsAgain, Restores}
use Rattle.rp_restore.specs.declared.fault.SnapshotLack.{SnapshotLack}

-- the text behind the first line
abbrev pub text_of : Plain → List ℕ
text_of r = compact_text (rows_data (file_in first_version r.schemas) r.groups r.models)

-- what stands behind the rows isn't looked at
pub ends : (r : Result (Unit {0}) (Failure SnapshotLack)) (made whole held : Plain) (new rest : List Token) → HoldsAgain r made held new rest → made ≡ whole → Restores r whole held
ends (Ok x) made whole held new rest is same = is.0 ∙ same
ends (Err e) made whole held new rest is same = is

pub restores_same : (r : Result (Unit {0}) (Failure SnapshotLack)) (made whole held : Plain) → Restores r made held → made ≡ whole → Restores r whole held
restores_same (Ok x) made whole held is same = is ∙ same
restores_same (Err e) made whole held is same = is
