use Rattle.rp_content.proofs.Gaps.{turned}
use Rattle.rp_content.proofs.gapped.bring_to_front.Goals as goal

pub returns-clause-others : goal.returns-clause-others
returns-clause-others c = turned c.args.place c.args.items.now c.rotate_right.new.self c.requires c.rotate_right.ensures.after
