use Rattle.std.proofs.Common.{◌≡◌, ◌++◌, sym, ap, ◌∙◌, subst}
use Rattle.json.specs.Lex.{tokens}
use Rattle.rp_restore_laws.specs.Laws.{MayTakeRows}
use Rattle.rp_restore_laws.specs.Restoring.{with_rows}
use Rattle.rp_snapshot_texts.specs.Again.{rows_tokens}
use Rattle.rp_snapshots.specs.Snapshots.{first_version, file_in}
use Rattle.rp_restore.proofs.Snapshots.{restores_same, text_of}
use Rattle.rp_restore.proofs.Texts.{AllAccepted, groups_text, have_names, models_text}
use Rattle.rp_restore.proofs.restoring.hold_bytes.Goals as goal

pub returns-in-Ok-clause-again : goal.returns-in-Ok-clause-again
returns-in-Ok-clause-again c r valid opens is =
    let file = file_in first_version r.schemas in
    let start = c.args.holdings.now.content in
    let schemas : c.schemas-schemas.result.now ≡ r.schemas = c.schemas-schemas.ensures ∙ ap (λ s. s.schemas) opens in
    let accepted : AllAccepted r.schemas = subst AllAccepted schemas c.accepted_schemas.ensures in
    let names = have_names r.schemas r.partners valid.opens in
    let ascii = c.canonical_is_ascii.ensures.read in
    let groups = groups_text ascii r.schemas r.partners accepted names r.groups valid.groups in
    let models = models_text ascii r.schemas r.partners accepted names r.models valid.models (c.model_text_again.ensures r (sym schemas) valid) in
    let utf8 = c.rows_again.ensures.text file r.groups r.models groups models in
    let front : c.args.bytes.now ≡ c.first_line-first_line.result.now ++ text_of r = is ∙ ap (λ line. line ++ text_of r) (sym c.first_line-first_line.ensures) in
    let text = c.in-Ok.ensures (text_of r) front utf8 in
    let read = ap tokens text ∙ c.rows_again.ensures.read file r.groups r.models groups models in
    let may = subst (MayTakeRows r.groups r.models) (sym opens) (c.rows_may_be_put.ensures r valid) in
    let here = read ∙ ap (λ s. rows_tokens (file_in first_version s) r.groups r.models) (sym (ap (λ s. s.schemas) opens)) in
    restores_same c.hold_text.result (with_rows r.groups r.models start) r c.hold_text.new.holdings.content (c.hold_text.ensures.again r.groups r.models may here) (ap (with_rows r.groups r.models) opens ∙ c.rows_give_repository.ensures r valid.order)

pub returns-in-Err-clause-again : goal.returns-in-Err-clause-again
returns-in-Err-clause-again c r valid opens is =
    let file = file_in first_version r.schemas in
    let schemas : c.schemas-schemas.result.now ≡ r.schemas = c.schemas-schemas.ensures ∙ ap (λ s. s.schemas) opens in
    let accepted : AllAccepted r.schemas = subst AllAccepted schemas c.accepted_schemas.ensures in
    let names = have_names r.schemas r.partners valid.opens in
    let ascii = c.canonical_is_ascii.ensures.read in
    let groups = groups_text ascii r.schemas r.partners accepted names r.groups valid.groups in
    let models = models_text ascii r.schemas r.partners accepted names r.models valid.models (c.model_text_again.ensures r (sym schemas) valid) in
    let utf8 = c.rows_again.ensures.text file r.groups r.models groups models in
    let front : c.args.bytes.now ≡ c.first_line-first_line.result.now ++ text_of r = is ∙ ap (λ line. line ++ text_of r) (sym c.first_line-first_line.ensures) in
    absurd (c.in-Err.ensures (text_of r) front utf8)
