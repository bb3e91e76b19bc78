use Rattle.std.proofs.Common.{◌≡◌, drop}
use Rattle.std.specs.List.{flat_map}
use Rattle.rp_meaning.specs.Uses.{references}
use Rattle.rp_domain.specs.Chains.{rows}
use Rattle.rp_domain.specs.Rows as spec
use Rattle.rp_domain.proofs.users.+uses.Given as goal

-- what is left of the values makes of the rows what all values make of those at first
abbrev pub invariant-put_values-loop-value : goal.invariant-put_values-loop-value
invariant-put_values-loop-value l =
    spec.put_all (rows l.users.0 l.users.1) (spec.used_by (spec.user_by l.place l.attribute) (flat_map references (drop l.value-index l.values))) ≡ spec.put_all (rows l.initial.users.0 l.initial.users.1) (spec.used_by (spec.user_by l.place l.attribute) (flat_map references l.values))
