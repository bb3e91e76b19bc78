use Rattle.std.proofs.Common.{◌||◌}
use Rattle.plain_data.specs.Numbers.{is_among}
use Rattle.ex_subtypes.proofs.Numbers.{put_next}
use Rattle.ex_subtypes.proofs.sets.put_all.Goals as goal

pub loop-number-preserved : goal.loop-number-preserved
loop-number-preserved c = λ n.
    put_next c.loop-number.found.keys c.insert.new.self.keys c.args.numbers.now c.loop-number.number-index n (is_among c.args.found.now.keys n || is_among c.args.numbers.now n)
    c.loop-number-test.true c.in_ok-insert.ensures.keys (c.loop-number.invariant n)
