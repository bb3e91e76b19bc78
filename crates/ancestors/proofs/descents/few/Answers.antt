use Rattle.std.proofs.Common.{◌<◌, arith, length}
use Rattle.std.proofs.lemmas.List.Filters.{dedup_is}
use Rattle.ancestors.proofs.Listed.{few_are_family}
use Rattle.ancestors.proofs.descents.few.Goals as goal

pub returns : goal.returns
returns c =
    let within : c.args.member < length c.args.graph.now = omega arith in
    few_are_family c.args.graph.now c.args.member c.in-Some.found.items c.sort_unstable.new.self.items c.dedup.new.self.items
    (rw c.in-Some.is at c.in_ok-found.ensures) within (rw c.in_ok-push.ensures.items at c.sort_unstable.ensures.permutation) c.sort_unstable.ensures.sorted
    (dedup_is _ c.sort_unstable.new.self.items c.dedup.new.self.items c.dedup.ensures.filtered)
