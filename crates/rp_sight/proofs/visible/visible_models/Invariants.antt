use Rattle.std.proofs.Common.{◌≡◌, take, map}
use Rattle.std.specs.Prelude.{filter}
use Rattle.rp_rows.specs.Sight.{sees}
use Rattle.rp_sight.specs.Seen.{seen_model}
use Rattle.rp_sight.specs.Seen.{seen_of}
use Rattle.rp_sight.proofs.visible.visible_models.Given as goal

abbrev pub invariant-loop-place : goal.invariant-loop-place
invariant-loop-place l = map seen_of l.seen.items ≡ map (seen_model l.groups.rows l.caller) (filter (sees l.groups.rows l.caller) (take l.place l.models.rows))
