use Rattle.rp_index.proofs.Telling.{told_by_candidates}
use Rattle.rp_population.specs.Found.{told_in}
use Rattle.rp_population.proofs.Candidates.{told_among_in}
use Rattle.rp_population.proofs.users.push_among_in.Goals as goal

pub returns-clause-places : goal.returns-clause-places
returns-clause-places c =
    let schema = c.args.layouts.now in
    let a = c.args.attribute.now in
    let names = c.args.names.now.keys in
    let model = c.args.model.now in
    let us = c.args.candidates.now.keys in
    let is = c.args.instances.now in
    let all = told_by_candidates (told_in schema a names model) us is c.len.ensures.ordered c.ordered.ensures.order (told_among_in schema a names us model is c.requires) in
    rw all at c.push_each_in.ensures.places
