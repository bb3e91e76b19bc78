use Rattle.std.proofs.Common.{◌≤◌, length, rules, arith}
use Rattle.std.proofs.lemmas.List.Sorted.{IsPartitionPoint-from_clause}
use Rattle.sorted_tables.specs.Table.{is_before}
use Rattle.sorted_tables.proofs.Searching.{before_splits, point_counts}
use Rattle.sorted_rings.proofs.place.Goals as goal

pub returns : goal.returns
returns g c =
    let before = is_before g.T.Row.cmp g.T.Row.key (g.S.Sought.sought c.args.sought.now) in
    let ring = c.args.rows.now in
    let rows = ring.items in
    let place = c.partition_point.result in
    let within : place ≤ length rows = omega (arith, c.partition_point.ensures.bound, ring.ok.0) in
    point_counts before rows place within
    (IsPartitionPoint-from_clause before rows place c.partition_point.ensures.partitioned (before_splits g.T.Row.cmp g.T.Row.key g.met.T.Row.total (g.S.Sought.sought c.args.sought.now) rows c.requires) (λ a r f called. search rules))
