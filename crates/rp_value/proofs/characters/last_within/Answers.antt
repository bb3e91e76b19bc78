use Rattle.std.proofs.Common.{leb, rules}
use Rattle.std.proofs.lemmas.List.Sorted.{IsPartitionPoint-from_clause, IsPartitionedBy-leb}
use Rattle.rp_value.proofs.Ends.{is_most, is_within, some_before}
use Rattle.rp_value.proofs.characters.last_within.Goals as goal

pub overflow_sub-result : goal.overflow_sub-result
overflow_sub-result c =
    let numbers = c.args.numbers.now in
    let most = c.args.most in
    some_before numbers most c.partition_point.result c.requires.first c.partition_point.ensures.bound
    (IsPartitionPoint-from_clause (λ y. leb y most) numbers c.partition_point.result c.partition_point.ensures.partitioned (IsPartitionedBy-leb (λ x. x) numbers most c.requires.rising) (λ a r f called. search rules))

pub returns-clause-within : goal.returns-clause-within
returns-clause-within c =
    let numbers = c.args.numbers.now in
    let most = c.args.most in
    is_within numbers most c.partition_point.result c.requires.first c.partition_point.ensures.bound
    (IsPartitionPoint-from_clause (λ y. leb y most) numbers c.partition_point.result c.partition_point.ensures.partitioned (IsPartitionedBy-leb (λ x. x) numbers most c.requires.rising) (λ a r f called. search rules))

pub returns-clause-most : goal.returns-clause-most
returns-clause-most c =
    let numbers = c.args.numbers.now in
    let most = c.args.most in
    is_most numbers most c.partition_point.result c.requires.first c.partition_point.ensures.bound
    (IsPartitionPoint-from_clause (λ y. leb y most) numbers c.partition_point.result c.partition_point.ensures.partitioned (IsPartitionedBy-leb (λ x. x) numbers most c.requires.rising) (λ a r f called. search rules))
