use Rattle.std.proofs.Common.{◌≡◌, [], arith, refl}
use Rattle.std.proofs.lemmas.List.{nil_from_length}
use Rattle.graphs.proofs.Left.{new_is_less}
use Rattle.graphs.proofs.Sets.{inserted, was_new, was_there}
use Rattle.graphs.proofs.Search.{all, search_exact, search_known, search_new}
use Rattle.graphs.proofs.reached.all_above.Goals as goal

pub loop-next-smaller-in-Continue-branch-3 : goal.loop-next-smaller-in-Continue-branch-3
loop-next-smaller-in-Continue-branch-3 c =
    let found = c.loop-next.found.keys in
    let more = c.insert.new.self.keys in
    rw (c.in_ok-extend_from_slice.ensures.items, c.supertypes-then-branch.ensures, c.in-Some.ensures.items)
    (new_is_less c.args.graph.now found more c.pop.new.self.items c.in-Some.next
    (inserted found more c.in-Some.next c.in_ok-insert.ensures.keys)
    (was_new found c.in-Some.next c.in_ok-insert.field-0 c.in_ok-insert.ensures.added c.if-branch.true))

pub loop-next-preserved-in-Continue-branch-3 : goal.loop-next-preserved-in-Continue-branch-3
loop-next-preserved-in-Continue-branch-3 c =
    let found = c.loop-next.found.keys in
    let more = c.insert.new.self.keys in
    rw (c.in_ok-extend_from_slice.ensures.items, c.supertypes-then-branch.ensures)
    (search_new c.args.graph.now c.args.member all found more c.pop.new.self.items c.in-Some.next
    (inserted found more c.in-Some.next c.in_ok-insert.ensures.keys)
    (rw c.in-Some.ensures.items at c.loop-next.invariant))

pub loop-next-preserved : goal.loop-next-preserved
loop-next-preserved c =
    let found = c.loop-next.found.keys in
    let more = c.insert.new.self.keys in
    search_known c.args.graph.now c.args.member all found more c.pop.new.self.items c.in-Some.next
    (inserted found more c.in-Some.next c.in_ok-insert.ensures.keys)
    (rw c.in-Some.ensures.items at c.loop-next.invariant)
    (was_there found c.in-Some.next c.in_ok-insert.field-0 c.in_ok-insert.ensures.added c.if-branch.false)

pub returns : goal.returns
returns c =
    let none : c.loop-next.waiting.items ≡ [] = nil_from_length _ (omega (arith, c.in_default.ensures.cases)) in
    λ a. search_exact c.args.graph.now all (λ m b h d. refl) c.args.member c.loop-next.found.keys c.loop-next.waiting.items c.loop-next.found.keys none refl c.loop-next.invariant a refl
