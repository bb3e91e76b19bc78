use Rattle.std.proofs.Common.{get_or, leb, rules, arith}
use Rattle.std.proofs.lemmas.Bool.{leb-true}
use Rattle.std.proofs.lemmas.List.Sorted.{IsPartitionPoint-from_clause, IsPartitionedBy-leb}
use Rattle.ex_subtypes.proofs.walks.passed.Goals as goal

pub returns-clause-before : goal.returns-clause-before
returns-clause-before c = λ k h.
    let ends = c.args.ends.now in
    let place = c.args.place in
    let point = IsPartitionPoint-from_clause (λ e. leb e place) ends c.partition_point.result c.partition_point.ensures.partitioned (IsPartitionedBy-leb (λ e. e) ends place c.requires) (λ a r q called. search rules) in
    leb-true (get_or ends k 0) place (point.0 k 0 (omega arith) h)
