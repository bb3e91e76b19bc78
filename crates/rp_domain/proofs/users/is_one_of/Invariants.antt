use Rattle.std.proofs.Common.{◌≡◌, drop}
use Rattle.std.specs.List.{list_any}
use Rattle.rp_meaning.specs.Uses.{same_attribute}
use Rattle.rp_domain.proofs.users.is_one_of.Given as goal

abbrev pub invariant-loop-other : goal.invariant-loop-other
invariant-loop-other l = list_any (same_attribute l.attribute) (drop l.other-index l.attributes) ≡ list_any (same_attribute l.attribute) l.attributes
