use Rattle.std.proofs.Common.{◌≡◌, drop}
use Rattle.std.specs.List.{list_any}
use Rattle.rp_meaning.specs.Faults.{allows_choice}
use Rattle.rp_faults.proofs.references.allows_one.Given as goal

abbrev pub invariant-loop-choice : goal.invariant-loop-choice
invariant-loop-choice l = list_any (allows_choice l.instance) (drop l.choice-index l.choices) ≡ list_any (allows_choice l.instance) l.choices
