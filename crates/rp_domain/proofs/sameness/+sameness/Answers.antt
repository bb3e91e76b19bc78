use Rattle.std.proofs.Common.{◌≡◌, ◌∙◌, sym, rules}
use Rattle.rp_domain.proofs.Reading.{agg_same}
use Rattle.rp_domain.proofs.sameness.+sameness.Goals as goal

pub is_same_aggregate-returns : goal.is_same_aggregate-returns
is_same_aggregate-returns t c = λ same.
    let kind : c.args.kind ≡ c.in-Agg.other_kind = search rules in
    let low : c.args.elements.now.low ≡ c.in-Agg.others.low = search rules in
    let items : c.args.elements.now.items ≡ c.in-Agg.others.items = sym c.as_slice.ensures ∙ (c.are_same.ensures same ∙ c.as_slice-2.ensures) in
    agg_same c.args.kind c.in-Agg.other_kind c.args.elements.now c.in-Agg.others kind low items ∙ sym c.in-Agg.is
