use Rattle.std.proofs.Common.{Some, sym, ◌∙◌, ap}
use Rattle.rp_core.specs.Faults.{store_refusal, with_rights}
use Rattle.rp_core.proofs.Fitting.{rights_pass}
use Rattle.rp_core.proofs.steps.model_step.Goals as goal

pub returns-in-Err-clause-made : goal.returns-in-Err-clause-made
returns-in-Err-clause-made c = λ is.
    let said = c.in-Err.ensures.prepares (λ e. is (c.without.ensures ∙ ap store_refusal e)) in
    rw (rights_pass c.args.access.now.models.entries c.args.access.now.groups.rows (with_rights c.args.change) c.in_ok-rights.rights c.in_ok-rights.ensures.made)
    (rw said (ap Some (sym c.without.ensures)))
