use Rattle.ex_layouts.proofs.Ascending.{one_set}
use Rattle.ex_layouts.proofs.dictionary.set_of.Goals as goal

pub returns : goal.returns
returns c = one_set c.args.numbers.now c.in_ok-set.set c.in_ok-set.ensures.ascending c.in_ok-set.ensures.same
