use Rattle.std.proofs.Common.{ltb, rules}
use Rattle.std.proofs.lemmas.List.Sorted.{IsPartitionPoint-from_clause, IsPartitionedBy-ltb}
use Rattle.ex_subtypes.proofs.Halving.{halves}
use Rattle.ex_subtypes.proofs.walks.count_before.Goals as goal

pub returns : goal.returns
returns c =
    let places = c.args.places.now in
    let end = c.args.end in
    let count = c.partition_point.result in
    let point = IsPartitionPoint-from_clause (λ p. ltb p end) places count c.partition_point.ensures.partitioned (IsPartitionedBy-ltb (λ p. p) places end c.requires) (λ a r q called. search rules) in
    let both = halves (λ p. ltb p end) places count c.partition_point.ensures.bound point in
    record { within = c.partition_point.ensures.bound; before = both.0; behind = both.1 }
