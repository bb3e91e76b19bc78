use Rattle.rp_eval_parts.proofs.lookup.Lookup.of_two.Goals as goal

pub returns-in-ValueIn : goal.returns-in-ValueIn
returns-in-ValueIn g c below = rw c.in-ValueIn.is (c.value_in.ensures below)
