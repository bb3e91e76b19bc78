use Rattle.std.proofs.Common.{ap, ◌∙◌, rules, FitsSigned, w64}
use Rattle.std.proofs.lemmas.Int.{to_z-of_z}
use Rattle.rp_value.specs.declared.value.Value.{Value}
use Rattle.rp_meaning.specs.Statements as spec
use Rattle.rp_eval_parts.proofs.Runnings.{sum_of}
use Rattle.rp_eval_parts.proofs.turns.advanced_by.Goals as goal

pub returns : goal.returns
returns c =
    let r = c.running.inside in
    let last : FitsSigned w64 r.last = search rules in
    let step : FitsSigned w64 r.step = search rules in
    let sum = simp to_z-of_z at c.sum.ensures in
    simp to_z-of_z (ap (λ (x : Value). record { at = x; last = r.last; step = r.step }) (sum ∙ sum_of r.at r.step) ∙ ap spec.advanced_by c.running.view_is)
