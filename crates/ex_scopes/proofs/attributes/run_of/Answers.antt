use Rattle.std.proofs.Common.{ℕ, ◌-◌, length, take, drop, leb, ltb, rules}
use Rattle.std.proofs.lemmas.List.{take_rest}
use Rattle.std.proofs.lemmas.List.Sorted.{IsPartitionPoint-from_clause, IsPartitionedBy-leb, IsPartitionedBy-ltb, IsNonDecreasingBy-drop}
use Rattle.plain_data.proofs.Runs.{run}
use Rattle.ex_named.specs.declared.reference.AttributePlace.{AttributePlace}
use Rattle.ex_scopes.proofs.attributes.run_of.Goals as goal

pub returns : goal.returns
returns c =
    let number : AttributePlace → ℕ = λ a. a.entity in
    let entity = c.args.entity in
    let places = c.args.places.now in
    let start = c.partition_point-start.result in
    let end = c.partition_point-end.result in
    let from = take_rest places start in
    let before = IsPartitionPoint-from_clause (λ (a : AttributePlace). ltb a.entity entity) places start c.partition_point-start.ensures.partitioned (IsPartitionedBy-ltb number places entity c.requires) (λ a r q k. search rules) in
    let rest = take (length places - start) (drop start places) in
    let behind = IsPartitionPoint-from_clause (λ (a : AttributePlace). leb a.entity entity) rest end c.partition_point-end.ensures.partitioned (IsPartitionedBy-leb number rest entity (rw from (IsNonDecreasingBy-drop number start places c.requires))) (λ a r q k. search rules) in
    rw from (run number entity places start end c.partition_point-start.ensures.bound before (rw from at c.partition_point-end.ensures.bound) (rw from at behind))
