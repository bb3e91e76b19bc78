use Rattle.std.proofs.Common.{◌++◌, ap, ◌∙◌}
use Rattle.rp_snapshot_rows.specs.Reading.{file_at}
use Rattle.rp_snapshot_rows.specs.Tokens.{behind_file}
use Rattle.rp_snapshot_rows.proofs.Forms.{file_read, given_again}
use Rattle.rp_snapshot_rows.proofs.reading.model_file.Goals as goal

pub returns-clause-again : goal.returns-clause-again
returns-clause-again c written m rest is = given_again _ c.file.result _ written c.file.new.reader (behind_file m ++ rest) c.file.ensures.read (ap file_at is ∙ file_read written m rest)
