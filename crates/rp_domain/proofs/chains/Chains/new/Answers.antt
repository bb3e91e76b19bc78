use Rattle.std.proofs.Common.{◌∙◌, [], ℕ, List, ap}
use Rattle.rp_domain.specs.Chains.{rows}
use Rattle.rp_domain.proofs.Links.{no-links}
use Rattle.rp_domain.proofs.chains.Chains.new.Goals as goal

pub returns : goal.returns
returns g c =
    ap (λ (ls : List (g.row.T.Denot × ℕ)). rows ls c.in_ok-no_ends.field-0.items) c.new.ensures.items
    ∙ (ap (λ (es : List ℕ). rows {A = g.row.T.Denot} [] es) c.in_ok-no_ends.ensures ∙ no-links {A = g.row.T.Denot} c.args.count)
