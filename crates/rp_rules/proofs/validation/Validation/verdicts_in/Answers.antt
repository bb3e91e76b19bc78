use Rattle.rp_rules.proofs.validation.Validation.verdicts_in.Goals as goal

pub returns-in_ok-values-in-Some-clause-verdicts : goal.returns-in_ok-values-in-Some-clause-verdicts
returns-in_ok-values-in-Some-clause-verdicts g c = rw (c.as_slice.ensures, c.in_ok-values-in-Some.ensures) at c.verdicts_of_values.ensures.verdicts
