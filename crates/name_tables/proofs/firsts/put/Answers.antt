use Rattle.std.proofs.Common.{arith}
use Rattle.std.proofs.lemmas.Map.Text.{btree_map_updates_str}
use Rattle.std.proofs.lemmas.Slice.Eq.{bytes_eq-Decides}
use Rattle.name_tables.proofs.firsts.put.Goals.{in-Some, in-None}
use Rattle.name_tables.proofs.firsts.put.Goals as goal

pub returns : goal.returns
returns g c =
    λ other.
    let written = btree_map_updates_str c.args.name.now c.args.by_name.now c.insert.new.self _ c.in_ok-insert.ensures.updates other in
    let same = (bytes_eq-Decides c.args.name.now other).0 in
    elim c.match-get.branch [
      | in-Some w ↦ grind (arith, written, same, w.first-is, w.in-Some.ensures)
      | in-None w ↦ grind (arith, written, same, w.first-is, w.in-None.ensures)
    ]
