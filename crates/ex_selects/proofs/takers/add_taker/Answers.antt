use Rattle.std.proofs.Common.{arith}
use Rattle.std.proofs.lemmas.Map.Text.{btree_map_updates_str}
use Rattle.std.proofs.lemmas.Slice.Eq.{bytes_eq-Decides}
use Rattle.ex_selects.proofs.takers.add_taker.Goals as goal

pub returns : goal.returns
returns c =
    λ other.
    let written = btree_map_updates_str c.args.name.now c.args.takers.now c.insert.new.self _ c.in_ok-insert.ensures.updates other in
    let same = (bytes_eq-Decides c.args.name.now other).0 in
    grind (arith, written, same, c.and_taker-first.ensures, c.taker_at.ensures)
