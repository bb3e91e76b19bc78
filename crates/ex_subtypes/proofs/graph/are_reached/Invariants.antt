use Rattle.std.proofs.Common.{◌≡◌, ◌||◌, ◌==◌, ◌-◌, zero}
use Rattle.std.specs.List.{list_all}
use Rattle.plain_data.specs.Numbers.{is_among}
use Rattle.graphs.specs.Graphs.{numbers_from}
use Rattle.ex_subtypes.proofs.graph.are_reached.Given as goal

abbrev pub invariant-loop-place : goal.invariant-loop-place
invariant-loop-place l =
    list_all (λ place. place == zero || is_among l.reached.keys place) (numbers_from l.place (l.count - l.place)) ≡ list_all (λ place. place == zero || is_among l.reached.keys place) (numbers_from zero l.count)
