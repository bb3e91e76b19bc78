use Rattle.std.proofs.Common.{◌≡◌, drop}
use Rattle.rp_operations.specs.Seen.{Text, seen}
use Rattle.rp_operators.proofs.scalars.is_among_texts.Given as goal
use Rattle.rp_operators.specs.Scalars.{is_in}
use Rattle.rp_value.specs.declared.value.Value.{Value}

abbrev pub invariant-loop-value : goal.invariant-loop-value
invariant-loop-value l = (x : Value) → seen x ≡ Text l.text → is_in x (drop l.value-index l.values) ≡ is_in x l.values
