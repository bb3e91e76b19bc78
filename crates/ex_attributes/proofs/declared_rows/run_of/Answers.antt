use Rattle.std.proofs.Common.{◌-◌, length, take, drop, leb, ltb, rules}
use Rattle.std.proofs.lemmas.List.{take_rest}
use Rattle.std.proofs.lemmas.List.Sorted.{IsPartitionPoint-from_clause, IsPartitionedBy-leb, IsPartitionedBy-ltb, IsNonDecreasingBy-drop}
use Rattle.plain_data.proofs.Runs.{run}
use Rattle.ex_attributes.specs.Tables.{declarer_at}
use Rattle.ex_attributes.proofs.declared_rows.run_of.Goals as goal

pub returns : goal.returns
returns c =
    let number = declarer_at c.args.rows.now in
    let entity = c.args.entity in
    let places = c.args.places.now in
    let start = c.partition_point-start.result in
    let end = c.partition_point-end.result in
    let from = take_rest places start in
    let before = IsPartitionPoint-from_clause (λ p. ltb (number p) entity) places start c.partition_point-start.ensures.partitioned (IsPartitionedBy-ltb number places entity c.requires) (λ a r q k. search rules) in
    let rest = take (length places - start) (drop start places) in
    let behind = IsPartitionPoint-from_clause (λ p. leb (number p) entity) rest end c.partition_point-end.ensures.partitioned (IsPartitionedBy-leb number rest entity (rw from (IsNonDecreasingBy-drop number start places c.requires))) (λ a r q k. search rules) in
    rw from (run number entity places start end c.partition_point-start.ensures.bound before (rw from at c.partition_point-end.ensures.bound) (rw from at behind))
