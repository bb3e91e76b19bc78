use Rattle.std.proofs.Common.{ap}
use Rattle.rp_sight.proofs.Parts.{part_of_rows}
use Rattle.rp_sight.proofs.rows.Table.part_of.Goals as goal

pub returns : goal.returns
returns g c =
    let t = c.self.inside in
    part_of_rows c.args.owner.now t.held.now.entries t.rights.now.entries c.args.self.now.rows (record { first = c.first_place.result; end = c.last_place.result }) c.self.invariant (ap (λ s. s.rows) c.self.view_is) c.first_place.ensures c.last_place.ensures
