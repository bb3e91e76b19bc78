use Rattle.std.proofs.Common.{◌≡◌, ◌-◌}
use Rattle.rp_rules.specs.Plan.{may_stand}
use Rattle.rp_rules.proofs.plan.Planning.may_stand.Given as goal

-- what is left comes to what all comes to
abbrev pub invariant-loop-depth : goal.invariant-loop-depth
invariant-loop-depth l =
    let stands = may_stand l.self.schema.now.types l.self.number in
    stands (8 - l._depth) l.carries l.inner ≡ stands 8 l.is_named l.data_type
