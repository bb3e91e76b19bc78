use Rattle.std.proofs.Common.{◌∙◌}
use Rattle.rp_population.proofs.Candidates.{kinds_cover}
use Rattle.rp_population.proofs.extents.Extent.candidates.Goals as goal

pub returns-clause-found : goal.returns-clause-found
returns-clause-found c =
    let e = c.args.self.now in
    kinds_cover e.schema e.entity c.in_ok-few.few.keys c.in-Some.kinds.now
    (λ q may under. c.in_ok-few.ensures q.1 ∙ (rw c.in-Some-2.is at c.in_ok-names.ensures.found) q may under)
    c.args.held.now.content.instances c.in-Some.ensures
