use Rattle.std.proofs.Common.{get_or, ◌∙◌}
use Rattle.plain_data.proofs.Numbers.{set_next}
use Rattle.graphs.proofs.Sets.{inserted}
use Rattle.ex_selects.proofs.kept.add_all.Goals as goal

pub loop-number-preserved : goal.loop-number-preserved
loop-number-preserved c = λ k.
    let numbers = c.args.numbers.now in
    let i = c.loop-number.number-index in
    let found = c.loop-number.found.keys in
    let more = c.insert.new.self.keys in
    set_next i numbers found more k c.loop-number-test.true (inserted found more (get_or numbers i 0) c.in_ok-insert.ensures.keys k) ∙ c.loop-number.invariant k
