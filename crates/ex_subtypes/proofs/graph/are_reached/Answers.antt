use Rattle.std.proofs.Common.{◌||◌, ◌==◌, zero, sym, ◌∙◌}
use Rattle.std.specs.List.{list_all}
use Rattle.plain_data.specs.Numbers.{is_among}
use Rattle.graphs.specs.Graphs.{numbers_from}
use Rattle.ex_subtypes.proofs.Connected.{places_next}
use Rattle.ex_subtypes.proofs.graph.are_reached.Goals as goal

pub loop-place-preserved : goal.loop-place-preserved
loop-place-preserved c =
    let keys = c.args.reached.now.keys in
    places_next (λ place. place == zero || is_among keys place) c.loop-place.place c.args.count (list_all (λ place. place == zero || is_among keys place) (numbers_from zero c.args.count)) c.loop-place-test.true
    (sym c.is_reached.ensures ∙ c.if-not-is_reached.false) c.loop-place.invariant
