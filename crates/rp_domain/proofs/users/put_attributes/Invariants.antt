use Rattle.std.proofs.Common.{◌≡◌, drop}
use Rattle.std.specs.List.{zip}
use Rattle.rp_domain.specs.Chains.{rows}
use Rattle.rp_domain.specs.Rows as spec
use Rattle.rp_domain.proofs.users.put_attributes.Given as goal

abbrev pub invariant-loop-at : goal.invariant-loop-at
invariant-loop-at l = spec.put_all (rows l.users.0 l.users.1) (spec.uses_in l.place (zip (drop l.at l.attributes) (drop l.at l.written))) ≡ spec.put_all (rows l.initial.users.0 l.initial.users.1) (spec.uses_in l.place (zip l.attributes l.written))
