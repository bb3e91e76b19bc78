use Rattle.std.proofs.Common.{◌≡◌, [], drop, length, map, replicate}
use Rattle.plain_data.specs.Numbers.{numbered_from}
use Rattle.name_tables.specs.Order.{rank}
use Rattle.rp_compile_names.specs.Rows.{put_all}
use Rattle.rp_compile_names.specs.Found as found
use Rattle.rp_compile_names.proofs.orders.rows_by_rank.Given as goal

abbrev pub invariant-loop-number : goal.invariant-loop-number
invariant-loop-number l = put_all l.rows.items (numbered_from (λ number name. (rank (map (λ n. n.now) l.names) name, number)) l.number (map (λ n. n.now) (drop l.number l.names))) ≡ put_all (replicate (length l.names) []) (found.ranked (map (λ n. n.now) l.names))
