use Rattle.std.proofs.Common.{◌||◌, ◌∙◌, ap}
use Rattle.std.proofs.lemmas.Result.{on_ok_weaker}
use Rattle.plain_data.specs.Numbers.{is_among}
use Rattle.rp_population.specs.Populations.{links_to}
use Rattle.rp_population.proofs.Leading.{leads_are, leads_there}
use Rattle.rp_population.proofs.names.insert_leading_among.Goals as goal

pub returns : goal.returns
returns c =
    let of = c.args.of.now in
    let links = c.args.links.now in
    on_ok_weaker c.insert_each_leading.result
    (λ found. λ name. found name
    ∙ ap (λ t. is_among c.args.names.now.keys name || t) (leads_are of.instance c.args.candidates.now (links_to name of) (leads_there name of) links c.requires))
    c.insert_each_leading.ensures
