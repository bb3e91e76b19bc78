use Rattle.std.proofs.Common.{◌≡◌, ap}
use Rattle.rp_numbers.specs.Spelling.{Real}
use Rattle.rp_numbers.proofs.Zeros.{coefficient-parts, coefficient-last}
use Rattle.rp_numbers.proofs.spelling.Real.coefficient.Goals as goal

pub returns-clause-value : goal.returns-clause-value
returns-clause-value c =
    let r = c.args.self.now in
    let z = c.zeros-before in
    let parts = coefficient-parts r z.result.0 z.result.1 z.ensures.all z.ensures.before z.ensures.behind z.ensures.only in
    let whole : c.self.inside.whole.now ≡ r.whole = ap (λ (r : Real). r.whole) c.self.view_is in
    let fraction : c.self.inside.fraction.now ≡ r.fraction = ap (λ (r : Real). r.fraction) c.self.view_is in
    let both = rw (whole, fraction) at c.number_of_both.ensures in
    rw parts both

pub returns-clause-last : goal.returns-clause-last
returns-clause-last c =
    let r = c.args.self.now in
    let whole : c.self.inside.whole.now ≡ r.whole = ap (λ (r : Real). r.whole) c.self.view_is in
    let fraction : c.self.inside.fraction.now ≡ r.fraction = ap (λ (r : Real). r.fraction) c.self.view_is in
    coefficient-last r (rw whole at c.self.invariant.0) (rw fraction at c.self.invariant.1)
