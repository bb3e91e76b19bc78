use Rattle.std.proofs.Common.{sym, ◌∙◌}
use Rattle.sorted_tables.proofs.Positions.{there_first, absent_last}
use Rattle.rp_population.specs.Populations.{target_of}
use Rattle.rp_group_domain.specs.Models.{own_place, place_cmp}
use Rattle.rp_group_domain.proofs.PlaceOrder.{place_position-is, place_total}
use Rattle.rp_group_domain.proofs.targets.searched.Goals as goal

pub returns-in-Ok : goal.returns-in-Ok
returns-in-Ok c =
    let p = target_of c.args.link.now in
    let xs = c.args.population.now in
    sym (place_position-is p xs ∙ there_first place_cmp own_place place_total p xs c.in-Ok.place c.in-Ok.ensures)

pub returns-in-Err : goal.returns-in-Err
returns-in-Err c =
    let p = target_of c.args.link.now in
    let xs = c.args.population.now in
    sym (place_position-is p xs ∙ absent_last place_cmp own_place place_total p xs c.in-Err.field-0 c.in-Err.ensures)
