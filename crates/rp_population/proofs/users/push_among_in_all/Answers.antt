use Rattle.rp_index.proofs.Telling.{told_by_candidates}
use Rattle.rp_population.specs.Found.{told_in_all}
use Rattle.rp_population.proofs.Candidates.{told_among_all}
use Rattle.rp_population.proofs.users.push_among_in_all.Goals as goal

pub returns : goal.returns
returns c =
    let names = c.args.names.now.keys in
    let model = c.args.model.now in
    let us = c.args.candidates.now.keys in
    let is = c.args.instances.now in
    let all = told_by_candidates (told_in_all names model) us is c.len.ensures.ordered c.ordered.ensures.order (told_among_all names us model is c.requires) in
    rw all at c.push_each_in_all.ensures
