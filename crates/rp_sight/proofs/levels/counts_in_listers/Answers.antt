use Rattle.std.proofs.Common.{◌≡◌, Bool, ◌||◌, sym, ◌∙◌, ap}
use Rattle.std.specs.List.{list_any}
use Rattle.std.specs.Option.{option_copied}
use Rattle.rp_rows.specs.Rows.{Model, row_key}
use Rattle.rp_listers.specs.Kept.{number_of, first_at, others_at}
use Rattle.rp_sight.specs.Stored.{row_of}
use Rattle.rp_sight.specs.Told.{shows_at, shows_first}
use Rattle.rp_sight.proofs.levels.counts_in_listers.Goals as goal

pub returns-else-counts_for_first-clause-counts : goal.returns-else-counts_for_first-clause-counts
returns-else-counts_for_first-clause-counts c =
    let who = c.args.caller.now in
    let m : Model = row_of c.args.model.now in
    let gs = c.args.groups.now.rows in
    let listers = c.args.groups.now.listers in
    let rest : Bool = list_any (shows_at who gs m) (others_at (number_of (row_key m)) listers.others) in
    let first : shows_first who c.table-table.result.rows m (option_copied c.first-first.result) ≡ shows_first who gs m (first_at (number_of (row_key m)) listers.firsts) =
    λ i. shows_first who (c.table-table.ensures i) m ((c.first-first.ensures ∙ (λ j. first_at (c.requires j) (c.listers-listers.ensures.are j).firsts)) i) in
    let others : list_any (shows_at who c.table-table.result.rows m) c.others-others.result.now ≡ rest =
    λ i. list_any (shows_at who (c.table-table.ensures i) m) ((c.others-others.ensures ∙ (λ j. others_at (c.requires j) (c.listers-listers.ensures.are j).others)) i) in
    c.counts_for_one.ensures ∙ others ∙ ap (λ t. t || rest) (sym c.if-counts_for_first.false ∙ c.counts_for_first.ensures ∙ first)
