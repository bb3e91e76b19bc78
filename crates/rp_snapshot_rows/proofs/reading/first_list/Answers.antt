use Rattle.std.proofs.Common.{ap, ◌∙◌}
use Rattle.rp_snapshot_rows.specs.Reading.{first_list_at}
use Rattle.rp_snapshot_rows.proofs.Forms.{first_list_again, passed_again}
use Rattle.rp_snapshot_rows.proofs.reading.first_list.Goals as goal

pub returns-clause-again : goal.returns-clause-again
returns-clause-again c rest is = passed_again c.first_list_at.result _ c.first_list_at.new.reader rest c.first_list_at.ensures.read (ap (first_list_at c.args.name.now) is ∙ first_list_again c.args.name.now rest)
