use Rattle.rp_rules.proofs.validation.Validation.check.Goals as goal

pub returns-in-Unique-clause-check : goal.returns-in-Unique-clause-check
returns-in-Unique-clause-check g c =
    let checked = rw c.listed_by-attributes.ensures at c.of_unique.ensures.check in
    rw c.in-Unique.is checked
