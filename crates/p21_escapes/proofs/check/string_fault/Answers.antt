use Rattle.std.proofs.Common.{◌∙◌, sym, ap}
use Rattle.p21_escapes.specs.Decoding.{spelled}
use Rattle.p21_escapes.specs.Forms.{checked}
use Rattle.p21_escapes.proofs.Fronts.{checked_step, checked_run, no_fault, none_left}
use Rattle.p21_escapes.proofs.LineEnds.{some_left}
use Rattle.p21_escapes.proofs.check.string_fault.Goals as goal

pub fronts-preserved : goal.fronts-preserved
fronts-preserved c =
    checked_run c.run-rest.result.0.now c.run-rest.result.1 c.after.result c.run-rest.ensures.value c.run-rest.ensures.bare
    ∙ ap (λ l. checked (spelled l)) c.after.ensures.value
    ∙ checked_step c.in-Ok.n c.fronts.z (some_left c.fronts.z (sym c.is_empty.ensures ∙ c.fronts-test.true)) c.in-Ok.ensures.some (sym c.in-Ok.ensures.value)
    ∙ c.fronts.invariant

pub returns : goal.returns
returns c = sym (no_fault c.args.bytes.now (sym c.fronts.invariant ∙ none_left c.fronts.z (sym c.is_empty.ensures ∙ c.fronts-test.false)))
