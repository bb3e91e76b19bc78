use Rattle.rp_snapshot_texts.proofs.Printed.{rows_are_text, rows_are_read}
use Rattle.rp_snapshot_texts.proofs.law.rows_again.Goals as goal

pub returns-clause-text : goal.returns-clause-text
returns-clause-text c file groups models gs ms = rows_are_text file groups models gs ms

pub returns-clause-read : goal.returns-clause-read
returns-clause-read c file groups models gs ms = rows_are_read file groups models gs ms
