use Rattle.std.proofs.Common.{ap, ◌∙◌, rules, FitsSigned, w64}
use Rattle.std.proofs.lemmas.Int.{to_z-of_z}
use Rattle.rp_meaning.specs.Statements as spec
use Rattle.rp_eval_parts.proofs.Runnings.{past_of}
use Rattle.rp_eval_parts.proofs.turns.is_past.Goals as goal

pub returns : goal.returns
returns c =
    let r = c.running.inside in
    let last : FitsSigned w64 r.last = search rules in
    let step : FitsSigned w64 r.step = search rules in
    let passed = simp to_z-of_z at c.is_past_at.ensures in
    passed ∙ (past_of r.at r.last r.step ∙ ap spec.is_past c.running.view_is)
