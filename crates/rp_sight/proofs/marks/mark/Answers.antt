use Rattle.std.proofs.Common.{sym, ◌∙◌}
use Rattle.rp_sight.specs.Listed.{fits}
use Rattle.rp_sight.specs.Stored.{row_of}
use Rattle.rp_sight.proofs.Marking.{marked_at, unmarked_at, unmarked_none, on_ok}
use Rattle.rp_sight.proofs.marks.mark.Goals as goal

pub returns-then-counts_if_listed : goal.returns-then-counts_if_listed
returns-then-counts_if_listed c =
    on_ok c.set.result c.set.ensures (λ e. e ∙
    marked_at c.args.key.now (fits (row_of c.args.group.now)) c.args.marks.now c.args.models.now.rows c.in-Some.place (row_of c.row.result) c.requires c.in-Some.ensures c.row.ensures (sym c.counts_if_listed.ensures ∙ c.if-counts_if_listed.true))

pub returns-else-counts_if_listed : goal.returns-else-counts_if_listed
returns-else-counts_if_listed c =
    unmarked_at c.args.key.now (fits (row_of c.args.group.now)) c.args.marks.now c.args.models.now.rows c.in-Some.place (row_of c.row.result) c.in-Some.ensures c.row.ensures (sym c.counts_if_listed.ensures ∙ c.if-counts_if_listed.false)

pub returns-in_default : goal.returns-in_default
returns-in_default c =
    unmarked_none c.args.key.now (fits (row_of c.args.group.now)) c.args.marks.now c.args.models.now.rows c.in_default.ensures
