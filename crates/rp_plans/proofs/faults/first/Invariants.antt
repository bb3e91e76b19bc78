use Rattle.std.proofs.Common.{◌≡◌, None, take}
use Rattle.rp_plain.specs.Meaning.{first_some}
use Rattle.rp_plans.proofs.faults.first.Given as goal

abbrev pub invariant-loop-test : goal.invariant-loop-test
invariant-loop-test l = first_some (take l.test-index l.tests) ≡ None
