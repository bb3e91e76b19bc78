use Rattle.std.proofs.Common.{sym, ◌∙◌, ap, subst, length}
use Rattle.sorted_tables.specs.Table.{IsAscending}
use Rattle.rp_rows.specs.Rows.{key_cmp, row_key}
use Rattle.rp_sight.proofs.Joining.{length-joined, rows_ascend}
use Rattle.rp_sight.proofs.rows.Table.len.Goals as goal

pub returns-clause-len : goal.returns-clause-len
returns-clause-len g c =
    let t = c.self.inside in
    c.len.ensures.len ∙ sym (length-joined t.held.now.entries t.rights.now.entries c.self.invariant.same) ∙ ap (λ s. length s.rows) c.self.view_is

pub returns-clause-ascending : goal.returns-clause-ascending
returns-clause-ascending g c =
    let t = c.self.inside in
    subst (λ rows. IsAscending key_cmp row_key rows) (ap (λ s. s.rows) c.self.view_is) (rows_ascend t.held.now.entries t.rights.now.entries c.self.invariant.order)
