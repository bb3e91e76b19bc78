use Rattle.std.proofs.Common.{◌≡◌, [], drop, length, replicate}
use Rattle.rp_compile_names.specs.Rows.{put_all}
use Rattle.rp_compile_names.specs.Found as found
use Rattle.rp_compile_names.proofs.rederived.rows_by_depth.Given as goal

abbrev pub invariant-loop-entity : goal.invariant-loop-entity
invariant-loop-entity l = put_all l.rows.items (found.by_depth l.graph (drop l.entity-index l.order)) ≡ put_all (replicate (length l.graph) []) (found.by_depth l.graph l.order)
