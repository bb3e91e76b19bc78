use Rattle.rp_domain.specs.Standing.{standing_from}
use Rattle.rp_domain.proofs.Standing.{none-of, rows_of}
use Rattle.rp_domain.proofs.extents.extents_of.Goals as goal

pub returns : goal.returns
returns c = rows_of c.args.count c.in_ok-rows.rows.items (standing_from 0 c.args.instances.now) c.in_ok-rows.ensures

pub returns-then-instances : goal.returns-then-instances
returns-then-instances c = none-of _ (standing_from 0 c.args.instances.now) c.new.ensures.items
