use Rattle.rp_eval_parts.proofs.lookup.Lookup.of_one.Goals as goal

pub returns-in-TypeOf : goal.returns-in-TypeOf
returns-in-TypeOf g c below = rw c.in-TypeOf.is (c.type_names_value.ensures below)
