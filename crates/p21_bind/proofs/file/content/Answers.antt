use Rattle.p21_bind.proofs.Ascending.{found_once}
use Rattle.p21_bind.proofs.file.content.Goals as goal

pub in_name_order-requires : goal.in_name_order-requires
in_name_order-requires c = found_once c.args.layouts.now c.args.linked.now c.args.spelled c.in_ok-found.found.items c.in_ok-found.ensures
