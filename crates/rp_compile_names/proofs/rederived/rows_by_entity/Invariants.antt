use Rattle.std.proofs.Common.{◌≡◌, [], drop, replicate}
use Rattle.rp_compile_names.specs.Rows.{put_all}
use Rattle.rp_compile_names.specs.Found as found
use Rattle.rp_compile_names.proofs.rederived.rows_by_entity.Given as goal

abbrev pub invariant-loop-rederived : goal.invariant-loop-rederived
invariant-loop-rederived l = put_all l.rows.items (found.by_entity (drop l.rederived-index l.list)) ≡ put_all (replicate l.count []) (found.by_entity l.list)
