use Rattle.std.proofs.Common.{ap, subst}
use Rattle.sorted_tables.specs.Table.{IsAscending}
use Rattle.rp_rows.specs.Rows.{key_cmp, row_key, key_of}
use Rattle.rp_sight.proofs.Joining.{row_there, row_absent, rows_ascend}
use Rattle.rp_sight.proofs.rows.Table.place_for.Goals as goal

pub returns-in-Ok-clause-there : goal.returns-in-Ok-clause-there
returns-in-Ok-clause-there g c =
    let t = c.self.inside in
    row_there (key_of c.args.owner.now c.args.name.now) t.held.now.entries t.rights.now.entries c.args.self.now.rows c.in-Ok.place c.self.invariant (ap (λ s. s.rows) c.self.view_is) c.in-Ok.ensures

pub returns-in-Ok-clause-ascending : goal.returns-in-Ok-clause-ascending
returns-in-Ok-clause-ascending g c =
    let t = c.self.inside in
    subst (λ rows. IsAscending key_cmp row_key rows) (ap (λ s. s.rows) c.self.view_is) (rows_ascend t.held.now.entries t.rights.now.entries c.self.invariant.order)

pub returns-in-Err-clause-there : goal.returns-in-Err-clause-there
returns-in-Err-clause-there g c =
    let t = c.self.inside in
    row_absent (key_of c.args.owner.now c.args.name.now) t.held.now.entries t.rights.now.entries c.args.self.now.rows c.self.invariant (ap (λ s. s.rows) c.self.view_is) c.in-Err.ensures.none

pub returns-in-Err-clause-ascending : goal.returns-in-Err-clause-ascending
returns-in-Err-clause-ascending g c =
    let t = c.self.inside in
    subst (λ rows. IsAscending key_cmp row_key rows) (ap (λ s. s.rows) c.self.view_is) (rows_ascend t.held.now.entries t.rights.now.entries c.self.invariant.order)
