use Rattle.rp_numbers.proofs.Integers.{shorter, few}
use Rattle.rp_numbers.proofs.whole.without_zeros.Goals as goal

pub zeros-preserved : goal.zeros-preserved
zeros-preserved c = shorter c.zeros.rest c.zeros.zeros c.args.number c.zeros.invariant.0 c.zeros-test.true c.zeros.invariant.1

pub returns-clause-few : goal.returns-clause-few
returns-clause-few c = few c.zeros.rest c.zeros.zeros c.args.number c.zeros.invariant.0 c.zeros.invariant.1 c.ranges.number.fits
