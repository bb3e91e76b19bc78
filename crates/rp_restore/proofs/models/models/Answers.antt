use Rattle.std.proofs.Common.{◌++◌, sym, ap, ◌∙◌}
use Rattle.std.proofs.lemmas.Result.{err_from_is_err_and}
use Rattle.rp_json.specs.Tokens.{listed}
use Rattle.rp_snapshots.specs.Snapshots.{first_version, file_in}
use Rattle.rp_restore.specs.Again.{model_tokens}
use Rattle.rp_restore.proofs.Left.{model_held, model_next, models_closed}
use Rattle.rp_restore.proofs.models.models.Goals as goal

pub models-preserved : goal.models-preserved
models-preserved c = (
  c.in_ok-model.ensures.valid,
  c.in_ok-model.ensures.schemas ∙ c.models.invariant.1,
  c.in_ok-model.ensures.partners ∙ c.models.invariant.2,
  λ ms rest may is.
      let start = c.args.holdings.now.content in
      let held = c.models.holdings.content in
      let file = file_in first_version start.schemas in
      let next = model_next file ms start held c.models.reader rest (c.models.invariant.3 ms rest may is) c.models-test.ensures.0 in
      let others = listed (model_tokens file) next.1 ++ rest in
      let here = c.models-test.ensures.1 ∙ next.5 ∙ ap (λ schemas. model_tokens (file_in first_version schemas) next.0 ++ others) (sym c.models.invariant.1) in
      model_held file ms start held c.model.new.holdings.content c.models.reader rest c.model.new.reader next (c.in_ok-model.ensures.again next.0 others next.2 here),
)

pub returns-in_err-model-clause-again : goal.returns-in_err-model-clause-again
returns-in_err-model-clause-again c ms rest may is =
    let start = c.args.holdings.now.content in
    let held = c.models.holdings.content in
    let file = file_in first_version start.schemas in
    let next = model_next file ms start held c.models.reader rest (c.models.invariant.3 ms rest may is) c.models-test.ensures.0 in
    let others = listed (model_tokens file) next.1 ++ rest in
    let here = c.models-test.ensures.1 ∙ next.5 ∙ ap (λ schemas. model_tokens (file_in first_version schemas) next.0 ++ others) (sym c.models.invariant.1) in
    let memory = c.in_err-model.ensures.again next.0 others next.2 here in
    let p = err_from_is_err_and c.from_residual.result c.from_residual.ensures.1 in
    rw p.1 (p.2 ∙ memory)

pub returns-clause-again : goal.returns-clause-again
returns-clause-again c ms rest may is = models_closed (file_in first_version c.args.holdings.now.content.schemas) ms c.args.holdings.now.content c.models.holdings.content c.models.reader rest c.take_end_array.new.self (c.models.invariant.3 ms rest may is) c.models-test.ensures
