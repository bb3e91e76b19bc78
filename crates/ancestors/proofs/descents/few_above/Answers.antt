use Rattle.std.proofs.Common.{◌≡◌, ℕ, ◌||◌, ◌==◌, [], false, arith}
use Rattle.std.proofs.lemmas.List.{nil_from_length}
use Rattle.plain_data.specs.Numbers.{is_among}
use Rattle.plain_data.proofs.Numbers.{is_among-push}
use Rattle.graphs.proofs.Left.{new_is_less}
use Rattle.graphs.proofs.Search.{search_new}
use Rattle.ancestors.proofs.Members.{inside, more_inside, above_done}
use Rattle.ancestors.proofs.descents.few_above.Goals as goal

pub loop-next-smaller-in-Continue-branch-3 : goal.loop-next-smaller-in-Continue-branch-3
loop-next-smaller-in-Continue-branch-3 c =
    let found = c.loop-next.found.items in
    let next = c.in-Some.next in
    let new : is_among found next ≡ false = grind arith in
    rw (c.in_ok-extend_from_slice.ensures.items, c.supertypes-then-not-is_listed.ensures, c.in-Some.ensures.items)
    (new_is_less c.args.graph.now found c.push.new.self.items c.pop.new.self.items next (λ n. rw c.in_ok-push.ensures.items (is_among-push found next n)) new)

pub loop-next-preserved-in-Continue-branch-3 : goal.loop-next-preserved-in-Continue-branch-3
loop-next-preserved-in-Continue-branch-3 c =
    let graph = c.args.graph.now in
    let found = c.loop-next.found.items in
    let more = c.push.new.self.items in
    let next = c.in-Some.next in
    let adds : (n : ℕ) → is_among more n ≡ ((next == n) || is_among found n) = λ n. rw c.in_ok-push.ensures.items (is_among-push found next n) in
    let search = search_new graph c.args.member (inside graph c.args.member) found more c.pop.new.self.items next adds (rw c.in-Some.ensures.items at c.loop-next.invariant.search) in
    record {
      search = rw (c.in_ok-extend_from_slice.ensures.items, c.supertypes-then-not-is_listed.ensures) search;
      within = more_inside graph c.args.member found more next adds c.if-next-graph.false c.loop-next.invariant.within;
    }

pub returns : goal.returns
returns c =
    let none : c.loop-next.waiting.items ≡ [] = nil_from_length _ (omega (arith, c.in_default.ensures.cases)) in
    above_done c.args.graph.now c.args.member c.loop-next.found.items c.loop-next.waiting.items none c.loop-next.invariant.search c.loop-next.invariant.within
