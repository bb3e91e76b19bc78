use Rattle.std.proofs.Common.{◌≡◌, ◌++◌, drop, filter}
use Rattle.plain_data.specs.Numbers.{is_among}
use Rattle.rp_operators.specs.Naming.{texts_at}
use Rattle.rp_operators.proofs.naming.push_entities.Given as goal

abbrev pub invariant-loop-number : goal.invariant-loop-number
invariant-loop-number l = l.found ++ texts_at l.texts (filter (is_among l.entities) (drop l.number-index l.order)) ≡ l.initial.found ++ texts_at l.texts (filter (is_among l.entities) l.order)
