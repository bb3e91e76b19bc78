use Rattle.std.proofs.Common.{◌<◌, length, sym, ◌∙◌, arith}
use Rattle.rp_sight.specs.Stored.{row_of}
use Rattle.rp_sight.proofs.Near.{near_there}
use Rattle.rp_sight.proofs.rows.Table.place_near.Goals as goal

pub returns-then-is : goal.returns-then-is
returns-then-is g c =
    let within : c.args.place < length c.args.self.now.rows = omega (arith, c.if-place-count.false, c.len-count.ensures.len) in
    near_there c.args.key.now c.args.self.now.rows c.args.place (row_of c.row.result) c.len-count.ensures.ascending within c.row.ensures (sym c.is.ensures ∙ c.if-is.true)
