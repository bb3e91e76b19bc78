use Rattle.std.proofs.Common.{rules}
use Rattle.std.proofs.lemmas.List.Sorted.{IsPartitionPoint-from_clause}
use Rattle.sorted_tables.specs.Table.{is_before}
use Rattle.sorted_tables.proofs.Searching.{before_splits, point_counts}
use Rattle.sorted_tables.proofs.sorted.place.Goals as goal

pub returns : goal.returns
returns g c =
    let before = is_before g.T.Row.cmp g.T.Row.key (g.S.Sought.sought c.args.sought.now) in
    let rows = c.args.rows.now in
    let place = c.partition_point.result in
    point_counts before rows place c.partition_point.ensures.bound
    (IsPartitionPoint-from_clause before rows place c.partition_point.ensures.partitioned (before_splits g.T.Row.cmp g.T.Row.key g.met.T.Row.total (g.S.Sought.sought c.args.sought.now) rows c.requires) (λ a r f called. search rules))
