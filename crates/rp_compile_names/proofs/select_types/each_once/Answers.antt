use Rattle.std.proofs.Common.{sym, ◌∙◌}
use Rattle.graphs.specs.Graphs.{each_once}
use Rattle.rp_compile_names.proofs.Once.{all-unseen, turn-new, turn-seen}
use Rattle.rp_compile_names.proofs.select_types.each_once.Goals as goal
use Rattle.rp_compile_names.proofs.select_types.each_once.Goals.{then-not-is_in+in_ok-insert+in_ok-push, else-not-is_in}

pub loop-number-init : goal.loop-number-init
loop-number-init c = rw c.new-found.ensures.items (rw c.new-seen.ensures.empty (all-unseen (each_once c.args.numbers.now)))

pub loop-number-preserved : goal.loop-number-preserved
loop-number-preserved c =
    let numbers = c.args.numbers.now in
    let i = c.loop-number.number-index in
    let found = c.loop-number.found.items in
    let seen = c.loop-number.seen.keys in
    elim c.if-not-is_in.branch [
      | then-not-is_in+in_ok-insert+in_ok-push w ↦
          rw (w.found-is, w.seen-is, w.in_ok-push.ensures.items, w.in_ok-insert.ensures.keys)
          (sym (turn-new seen found numbers i c.loop-number-test.true (sym w.if-not-is_in.ensures)) ∙ c.loop-number.invariant)
      | else-not-is_in w ↦
          rw (w.found-is, w.seen-is)
          (sym (turn-seen seen found numbers i c.loop-number-test.true (sym w.if-not-is_in.ensures)) ∙ c.loop-number.invariant)
    ]
