use Rattle.std.proofs.Common.{◌≡◌, [], arith}
use Rattle.std.proofs.lemmas.List.{nil_from_length}
use Rattle.graphs.proofs.Left.{new_is_less}
use Rattle.graphs.proofs.Search.{search_known, search_new}
use Rattle.graphs.proofs.Sets.{inserted, was_new, was_there}
use Rattle.ancestors.proofs.Members.{inside, more_inside, family_longer, above_done}
use Rattle.ancestors.proofs.descents.above_within.Goals as goal

pub returns-then-len-limit : goal.returns-then-len-limit
returns-then-len-limit c =
    let graph = c.args.graph.now in
    let found = c.loop-next.found.keys in
    let more = c.insert.new.self.keys in
    let next = c.in-Some.next in
    let adds = inserted found more next c.in_ok-insert.ensures.keys in
    let search = search_new graph c.args.member (inside graph c.args.member) found more c.pop.new.self.items next adds (rw c.in-Some.ensures.items at c.loop-next.invariant.search) in
    family_longer graph c.args.member more c.args.limit c.len.ensures.ordered search.found_above
    (more_inside graph c.args.member found more next adds c.if-next-graph.false c.loop-next.invariant.within) (omega (arith, c.len.ensures.len, c.if-len-limit.true))

pub loop-next-smaller-in-Continue-branch-3 : goal.loop-next-smaller-in-Continue-branch-3
loop-next-smaller-in-Continue-branch-3 c =
    let found = c.loop-next.found.keys in
    let more = c.insert.new.self.keys in
    rw (c.in_ok-extend_from_slice.ensures.items, c.supertypes-then-branch.ensures, c.in-Some.ensures.items)
    (new_is_less c.args.graph.now found more c.pop.new.self.items c.in-Some.next
    (inserted found more c.in-Some.next c.in_ok-insert.ensures.keys)
    (was_new found c.in-Some.next c.in_ok-insert.field-0 c.in_ok-insert.ensures.added c.if-branch.true))

pub loop-next-preserved-in-Continue-branch-3 : goal.loop-next-preserved-in-Continue-branch-3
loop-next-preserved-in-Continue-branch-3 c =
    let graph = c.args.graph.now in
    let found = c.loop-next.found.keys in
    let more = c.insert.new.self.keys in
    let next = c.in-Some.next in
    let adds = inserted found more next c.in_ok-insert.ensures.keys in
    let search = search_new graph c.args.member (inside graph c.args.member) found more c.pop.new.self.items next adds (rw c.in-Some.ensures.items at c.loop-next.invariant.search) in
    record {
      search = rw (c.in_ok-extend_from_slice.ensures.items, c.supertypes-then-branch.ensures) search;
      within = more_inside graph c.args.member found more next adds c.if-next-graph.false c.loop-next.invariant.within;
    }

pub loop-next-preserved : goal.loop-next-preserved
loop-next-preserved c =
    let graph = c.args.graph.now in
    let found = c.loop-next.found.keys in
    let more = c.insert.new.self.keys in
    let next = c.in-Some.next in
    let adds = inserted found more next c.in_ok-insert.ensures.keys in
    record {
      search = search_known graph c.args.member (inside graph c.args.member) found more c.pop.new.self.items next adds (rw c.in-Some.ensures.items at c.loop-next.invariant.search)
          (was_there found next c.in_ok-insert.field-0 c.in_ok-insert.ensures.added c.if-branch.false);
      within = more_inside graph c.args.member found more next adds c.if-next-graph.false c.loop-next.invariant.within;
    }

pub returns : goal.returns
returns c =
    let none : c.loop-next.waiting.items ≡ [] = nil_from_length _ (omega (arith, c.in_default.ensures.cases)) in
    above_done c.args.graph.now c.args.member c.loop-next.found.keys c.loop-next.waiting.items none c.loop-next.invariant.search c.loop-next.invariant.within
