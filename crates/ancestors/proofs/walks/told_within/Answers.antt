use Rattle.std.proofs.Common.{◌≡◌, [], arith, sym, ◌∙◌}
use Rattle.std.proofs.lemmas.List.{nil_from_length}
use Rattle.graphs.proofs.Search.{search_less, search_known, search_new}
use Rattle.graphs.proofs.Sets.{in_last, inserted, was_there}
use Rattle.ancestors.specs.Kept.{walked}
use Rattle.ancestors.proofs.Walked.{comes, walk_over, walk_told}
use Rattle.ancestors.proofs.walks.told_within.Goals.{in-Some-false, in-None+else-list-limit+in_ok-insert-in-None+then-branch+in_ok-extend_from_slice-in-None, in-None+else-list-limit+in_ok-insert-in-None+else-branch}
use Rattle.ancestors.proofs.walks.told_within.Goals as goal

pub returns-in_default : goal.returns-in_default
returns-in_default c =
    let none : c.loop.waiting.items ≡ [] = nil_from_length _ (omega (arith, c.in_default.ensures.cases)) in
    c.is_in.ensures ∙ walk_over (walked c.args.trees.now c.args.is_down) c.args.from c.args.to c.loop.found.keys c.loop.waiting.items none c.loop.invariant

pub returns-in-Some-true : goal.returns-in-Some-true
returns-in-Some-true c =
    walk_told (walked c.args.trees.now c.args.is_down) c.args.from c.args.to c.in-Some.next
    (c.loop.invariant.waiting_above c.in-Some.next (rw c.in-Some.ensures.items (in_last c.pop.new.self.items c.in-Some.next)))
    (sym c.in-Some-true.ensures ∙ c.in-Some-true.field-0-test)

pub loop-preserved : goal.loop-preserved
loop-preserved c =
    let graph = walked c.args.trees.now c.args.is_down in
    let from = c.args.from in
    let counts = comes graph c.args.to in
    let found = c.loop.found.keys in
    let rest = c.pop.new.self.items in
    let next = c.in-Some.next in
    let before = rw c.in-Some.ensures.items at c.loop.invariant in
    elim c.match-told.branch [
      | in-Some-false w ↦ rw (w.found-is, w.waiting-is) (search_less graph from counts found rest next before (sym w.in-Some-false.ensures ∙ w.in-Some-false.field-0-test))
      | in-None+else-list-limit+in_ok-insert-in-None+then-branch+in_ok-extend_from_slice-in-None w ↦
          rw (w.found-is, w.waiting-is, w.in_ok-extend_from_slice-in-None.ensures.items, w.supertypes-list.ensures, c.walked-graph.ensures)
          (search_new graph from counts found w.insert.new.self.keys rest next (inserted found w.insert.new.self.keys next w.in_ok-insert-in-None.ensures.keys) before)
      | in-None+else-list-limit+in_ok-insert-in-None+else-branch w ↦
          rw (w.found-is, w.waiting-is)
          (search_known graph from counts found w.insert.new.self.keys rest next (inserted found w.insert.new.self.keys next w.in_ok-insert-in-None.ensures.keys) before
          (was_there found next w.in_ok-insert-in-None.field-0 w.in_ok-insert-in-None.ensures.added w.if-branch.false))
    ]
