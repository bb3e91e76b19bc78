use Rattle.std.proofs.Common.{sym, ◌∙◌, ap}
use Rattle.sorted_tables.specs.Table.{is_at}
use Rattle.sorted_tables.proofs.Positions.{found}
use Rattle.rp_population.specs.Populations.{target_of}
use Rattle.rp_group_domain.specs.Models.{own_place, place_cmp}
use Rattle.rp_group_domain.proofs.PlaceOrder.{place_position-is, place_total, tied_places}
use Rattle.rp_group_domain.proofs.targets.target.Goals as goal

pub returns-in-Some : goal.returns-in-Some
returns-in-Some c =
    let p = target_of c.args.link.now in
    let xs = c.args.population.now in
    let x = c.in-Some.instance.now in
    sym (
    place_position-is p xs
    ∙ found place_cmp own_place place_total p xs c.requires c.args.place x c.in-Some.ensures.lookup.3.0
    (ap (is_at place_cmp own_place p) (sym c.in-Some.ensures.lookup.1) ∙ tied_places p x ∙ sym c.is_target.ensures ∙ c.if-is_target.true)
    )
