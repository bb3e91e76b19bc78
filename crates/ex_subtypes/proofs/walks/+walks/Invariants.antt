use Rattle.std.proofs.Common.{◌≡◌, ◌≤◌, ◌-◌, length, map}
use Rattle.std.specs.List.Sorted.{IsNonDecreasing}
use Rattle.ex_subtypes.specs.declared.choices.Choice.TheVariants.{Nothing}
use Rattle.ex_subtypes.specs.Combinations.{joined}
use Rattle.ex_subtypes.specs.Nodes.{dealt, taken_at}
use Rattle.ex_subtypes.specs.Walks.{join_choices}
use Rattle.ex_subtypes.proofs.Tallies.{counted, rest}
use Rattle.ex_subtypes.proofs.walks.+walks.Given as goal

abbrev pub invariant-taken_of_all-parts : goal.invariant-taken_of_all-parts
invariant-taken_of_all-parts l = record {
  rising : IsNonDecreasing l.left;
  within : l.part ≤ length l.ends;
  few : l.count ≤ l.part;
  told : counted l.way (length l.parts) l.count (rest l.parts l.ends l.part l.left) ≡ joined Nothing (join_choices l.way) (dealt (map taken_at l.parts) l.ends l.places);
}

abbrev pub decreases-taken_of_all-parts : goal.decreases-taken_of_all-parts
decreases-taken_of_all-parts l = length l.ends - l.part
