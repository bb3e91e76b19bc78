use Rattle.std.proofs.Common.{length, arith, ap}
use Rattle.rp_sight.proofs.Joining.{length-joined, length-same, row_read}
use Rattle.rp_sight.proofs.rows.Table.row.Goals as goal

pub entry-entry-requires : goal.entry-entry-requires
entry-entry-requires g c =
    let t = c.self.inside in
    omega (arith, c.requires, length-joined t.held.now.entries t.rights.now.entries c.self.invariant.same, ap (λ s. length s.rows) c.self.view_is)

pub entry-rights-requires : goal.entry-rights-requires
entry-rights-requires g c =
    let t = c.self.inside in
    omega (arith, c.requires, length-joined t.held.now.entries t.rights.now.entries c.self.invariant.same, length-same t.held.now.entries t.rights.now.entries c.self.invariant.same, ap (λ s. length s.rows) c.self.view_is)

pub returns : goal.returns
returns g c =
    let t = c.self.inside in
    rw c.get.ensures (row_read t.held.now.entries t.rights.now.entries c.args.self.now.rows c.args.place c.entry-entry.result.now c.entry-rights.result.now c.as_slice.result.now (ap (λ s. s.rows) c.self.view_is) c.self.invariant.same c.requires c.entry-entry.ensures c.entry-rights.ensures c.as_slice.ensures)
