use Rattle.std.proofs.Common.{sym, ◌∙◌}
use Rattle.rp_faults.proofs.Repeated.{twice}
use Rattle.rp_faults.proofs.twice.has_twice_in_few.Goals as goal

pub returns-then-is_among : goal.returns-then-is_among
returns-then-is_among c =
    twice c.args.items.now c.loop-place.place c.index-items-place.result c.loop-place-test.true c.index-items-place.is c.loop-place.invariant (sym c.is_among.ensures ∙ c.if-is_among.true)
