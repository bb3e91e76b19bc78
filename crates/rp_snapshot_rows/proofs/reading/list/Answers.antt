use Rattle.std.proofs.Common.{ap, ◌∙◌}
use Rattle.rp_snapshot_rows.specs.Reading.{list_at}
use Rattle.rp_snapshot_rows.proofs.Forms.{list_again, passed_again}
use Rattle.rp_snapshot_rows.proofs.reading.list.Goals as goal

pub returns-clause-again : goal.returns-clause-again
returns-clause-again c rest is = passed_again c.list_at.result _ c.list_at.new.reader rest c.list_at.ensures.read (ap (list_at c.args.name.now) is ∙ list_again c.args.name.now rest)
