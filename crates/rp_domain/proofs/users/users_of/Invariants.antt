use Rattle.std.proofs.Common.{◌≡◌, [], length, replicate, drop}
use Rattle.rp_meaning.specs.Uses.{uses_from}
use Rattle.rp_domain.specs.Chains.{rows}
use Rattle.rp_domain.specs.Rows as spec
use Rattle.rp_domain.proofs.users.users_of.Given as goal

abbrev pub invariant-loop-place : goal.invariant-loop-place
invariant-loop-place l =
    spec.put_all (rows l.users.0 l.users.1) (uses_from l.place (drop l.place l.instances)) ≡ spec.put_all (replicate (length l.instances) []) (uses_from 0 l.instances)
