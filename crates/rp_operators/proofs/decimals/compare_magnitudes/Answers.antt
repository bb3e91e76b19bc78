use Rattle.std.proofs.Common.{◌*◌, ◌^◌, ap, ◌∙◌, arith}
use Rattle.std.specs.Ordering.{ordering_reverse}
use Rattle.rp_numbers.proofs.Ranks.{nat_cmp-places, nat_cmp-turned}
use Rattle.rp_operators.proofs.decimals.compare_magnitudes.Goals as goal

pub returns-then-m_places-n_places : goal.returns-then-m_places-n_places
returns-then-m_places-n_places c =
    let a = c.args in
    c.compare_raised.ensures ∙ nat_cmp-places a.m a.n a.m_places a.n_places c.if-m_places-n_places.true

pub returns-else-m_places-n_places : goal.returns-else-m_places-n_places
returns-else-m_places-n_places c =
    let a = c.args in
    c.reverse.ensures
    ∙ ap ordering_reverse (c.compare_raised-else-m_places-n_places.ensures ∙ nat_cmp-places a.n a.m a.n_places a.m_places (omega arith))
    ∙ nat_cmp-turned (a.n * 10 ^ a.n_places) (a.m * 10 ^ a.m_places)
