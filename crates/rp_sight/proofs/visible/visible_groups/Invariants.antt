use Rattle.std.proofs.Common.{◌≡◌, take, map}
use Rattle.std.specs.Prelude.{filter}
use Rattle.rp_rows.specs.Sight.{sees_group}
use Rattle.rp_sight.specs.Seen.{seen_group}
use Rattle.rp_sight.specs.Seen.{seen_of}
use Rattle.rp_sight.proofs.visible.visible_groups.Given as goal

abbrev pub invariant-loop-place : goal.invariant-loop-place
invariant-loop-place l = map seen_of l.seen.items ≡ map (seen_group l.caller) (filter (sees_group l.caller) (take l.place l.table.rows))
