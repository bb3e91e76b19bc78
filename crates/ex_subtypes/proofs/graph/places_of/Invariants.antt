use Rattle.std.proofs.Common.{◌≡◌, ◌||◌, ℕ, drop}
use Rattle.plain_data.specs.Numbers.{is_among}
use Rattle.ex_subtypes.specs.Edges.{one_stands_at}
use Rattle.ex_subtypes.proofs.graph.places_of.Given as goal

abbrev pub invariant-loop-number : goal.invariant-loop-number
invariant-loop-number l = (n : ℕ) → (is_among l.places.items n || one_stands_at l.set (drop l.number-index l.numbers) n) ≡ one_stands_at l.set l.numbers n
