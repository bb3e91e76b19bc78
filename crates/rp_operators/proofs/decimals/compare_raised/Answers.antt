use Rattle.std.proofs.Common.{◌+◌, ◌*◌, ◌^◌, ◌<◌, arith}
use Rattle.rp_numbers.proofs.Ranks.{further, once_more, less}
use Rattle.rp_operators.proofs.decimals.compare_raised.Goals as goal

pub returns-in_default : goal.returns-in_default
returns-in_default c =
    let l = c.loop-place in
    let n = c.args.n in
    let more = once_more n l.raised l._place l.invariant in
    let longer = further n (l._place + 1) c.args.places (omega arith) in
    let large : c.args.m < n * 10 ^ c.args.places = omega (arith, c.in_default.ensures) in
    less c.args.m (n * 10 ^ c.args.places) large

pub loop-place-preserved : goal.loop-place-preserved
loop-place-preserved c =
    let l = c.loop-place in
    let more = once_more c.args.n l.raised l._place l.invariant in
    omega (arith, c.in-Some.ensures)
