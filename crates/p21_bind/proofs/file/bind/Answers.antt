use Rattle.p21_bind.proofs.Ascending.{found_ascend, order_given}
use Rattle.p21_bind.proofs.file.bind.Goals as goal

pub returns-clause-order : goal.returns-clause-order
returns-clause-order c = order_given c.content.result _ c.content.ensures (λ d e. found_ascend _ _ _ _ d e)
