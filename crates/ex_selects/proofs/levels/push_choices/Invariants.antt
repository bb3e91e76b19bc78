use Rattle.std.proofs.Common.{◌++◌, List, take}
use Rattle.std.specs.List.{filter_map}
use Rattle.ex_selects.specs.Levels.{PossibleAggregate, IsGroup, Keeps, chosen_aggregate}
use Rattle.ex_selects.proofs.levels.push_choices.Given as goal

abbrev pub invariant-loop-number : goal.invariant-loop-number
invariant-loop-number l = record {
  kept : Keeps l.fn.targets l.targets;
  more : (aggregates : List PossibleAggregate) → IsGroup l.fn.targets l.fn.group aggregates → IsGroup l.targets l.group (aggregates ++ filter_map (chosen_aggregate l.types) (take l.number-index l.numbers));
}
