use Rattle.std.proofs.Common.{[], ◌∷◌, codes, sym, ap, ◌∙◌}
use Rattle.std.proofs.lemmas.Result.{err_from_is_err_and}
use Rattle.json.specs.Token.{begin_array, end_object, key}
use Rattle.rp_restore_laws.specs.Restoring.{with_models, with_rows}
use Rattle.rp_snapshot_texts.specs.Again.{from_groups, from_models}
use Rattle.rp_snapshots.specs.Snapshots.{first_version, file_in}
use Rattle.rp_restore.proofs.Snapshots.{ends}
use Rattle.rp_restore.proofs.restoring.hold_rows.Goals as goal

pub returns-in_err-list-clause-again : goal.returns-in_err-list-clause-again
returns-in_err-list-clause-again c gs ms may is =
    let r = c.args.holdings.now.content in
    let file = file_in first_version r.schemas in
    let begun = c.in_ok-first_list.ensures (from_groups file gs ms) is in
    let groups = c.in_ok-groups.ensures.again gs ms (key (codes "models") ∷ begin_array ∷ from_models file ms) may begun in
    let memory = c.in_err-list.ensures (from_models file ms) groups.2 in
    let p = err_from_is_err_and c.from_residual-in_err-list.result c.from_residual-in_err-list.ensures.1 in
    rw p.1 (p.2 ∙ memory)

pub returns-clause-again : goal.returns-clause-again
returns-clause-again c gs ms may is =
    let r = c.args.holdings.now.content in
    let file = file_in first_version r.schemas in
    let held = c.groups.new.holdings.content in
    let begun = c.in_ok-first_list.ensures (from_groups file gs ms) is in
    let groups = c.in_ok-groups.ensures.again gs ms (key (codes "models") ∷ begin_array ∷ from_models file ms) may begun in
    let opened = c.in_ok-list.ensures (from_models file ms) groups.2 in
    let here = opened ∙ ap (λ schemas. from_models (file_in first_version schemas) ms) (sym c.in_ok-groups.ensures.schemas) in
    ends c.models.result (with_models ms held) (with_rows gs ms r) c.models.new.holdings.content c.models.new.reader (end_object ∷ []) (c.models.ensures.again ms (end_object ∷ []) groups.0 here) groups.1
