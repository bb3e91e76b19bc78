use Rattle.std.proofs.Common.{◌≡◌, ℕ, false, length}
use Rattle.plain_data.specs.Numbers.{is_among}
use Rattle.graphs.specs.Graphs as spec
use Rattle.graphs.proofs.below.empty_lists.Given as goal

abbrev pub invariant-loop : goal.invariant-loop
invariant-loop l = record {
  many : length l.lists.items ≡ l.counter;
  empty : (d e : ℕ) → is_among (spec.supertypes l.lists.items d) e ≡ false;
}
