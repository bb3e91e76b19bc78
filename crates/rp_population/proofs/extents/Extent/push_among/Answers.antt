use Rattle.rp_index.proofs.Telling.{told_by_candidates}
use Rattle.rp_population.specs.Candidates.{found_in}
use Rattle.rp_population.proofs.Candidates.{found_among}
use Rattle.rp_population.proofs.extents.Extent.push_among.Goals as goal

pub returns-clause-places : goal.returns-clause-places
returns-clause-places c =
    let e = c.args.self.now in
    let model = c.args.model.now in
    let us = c.args.candidates.now.keys in
    let is = c.args.instances.now in
    let all = told_by_candidates (found_in e.schema e.entity model) us is c.len.ensures.ordered c.ordered.ensures.order (found_among e.schema e.entity us model is c.requires) in
    rw all at c.push_each.ensures.places
