use Rattle.std.proofs.Common.{◌≡◌, drop}
use Rattle.rp_faults.specs.Keys.{with_elements}
use Rattle.rp_faults.proofs.keys.of_elements.Given as goal

abbrev pub invariant-loop-element : goal.invariant-loop-element
invariant-loop-element l = with_elements l.product (drop l.element-index l.elements) ≡ with_elements 1 l.elements
