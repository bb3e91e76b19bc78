use Rattle.std.proofs.Common.{◌≡◌, drop}
use Rattle.rp_eval_parts.specs.Counts as counts
use Rattle.rp_eval_parts.proofs.attributes.named_role.Given as goal

abbrev pub invariant-loop-role : goal.invariant-loop-role
invariant-loop-role l = counts.named_role (drop l.role-index l.roles) l.name ≡ counts.named_role l.roles l.name
