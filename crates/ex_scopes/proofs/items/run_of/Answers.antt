use Rattle.std.proofs.Common.{ℕ, ◌-◌, length, take, drop, leb, ltb, rules}
use Rattle.std.proofs.lemmas.List.{take_rest}
use Rattle.std.proofs.lemmas.List.Sorted.{IsPartitionPoint-from_clause, IsPartitionedBy-leb, IsPartitionedBy-ltb, IsNonDecreasingBy-drop}
use Rattle.plain_data.proofs.Runs.{run}
use Rattle.ex_named.specs.declared.reference.EnumerationItem.{EnumerationItem}
use Rattle.ex_scopes.proofs.items.run_of.Goals as goal

pub returns : goal.returns
returns c =
    let type_of : EnumerationItem → ℕ = λ i. i.type_number in
    let number = c.args.number in
    let items = c.args.items.now in
    let start = c.partition_point-start.result in
    let end = c.partition_point-end.result in
    let from = take_rest items start in
    let before = IsPartitionPoint-from_clause (λ (i : EnumerationItem). ltb i.type_number number) items start c.partition_point-start.ensures.partitioned (IsPartitionedBy-ltb type_of items number c.requires) (λ a r q k. search rules) in
    let rest = take (length items - start) (drop start items) in
    let behind = IsPartitionPoint-from_clause (λ (i : EnumerationItem). leb i.type_number number) rest end c.partition_point-end.ensures.partitioned (IsPartitionedBy-leb type_of rest number (rw from (IsNonDecreasingBy-drop type_of start items c.requires))) (λ a r q k. search rules) in
    rw from (run type_of number items start end c.partition_point-start.ensures.bound before (rw from at c.partition_point-end.ensures.bound) (rw from at behind))
