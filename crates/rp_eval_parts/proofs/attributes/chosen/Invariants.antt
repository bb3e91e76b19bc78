use Rattle.std.proofs.Common.{◌≡◌, drop}
use Rattle.rp_meaning.specs.Attributes as spec
use Rattle.rp_eval_parts.proofs.attributes.chosen.Given as goal

abbrev pub invariant-loop-attribute : goal.invariant-loop-attribute
invariant-loop-attribute l = spec.chosen (drop l.attribute-index l.attributes) l.instance ≡ spec.chosen l.attributes l.instance
