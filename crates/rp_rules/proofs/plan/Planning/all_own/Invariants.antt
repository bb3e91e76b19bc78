use Rattle.std.proofs.Common.{◌≡◌, ◌++◌, drop, map}
use Rattle.rp_rules.specs.Plan.{own}
use Rattle.rp_rules.proofs.plan.Planning.all_own.Given as goal

abbrev pub invariant-loop-entity : goal.invariant-loop-entity
invariant-loop-entity l =
    let of = own l.self.schema.now.types l.self.number in
    l.found ++ map (λ e. of e.explicit) (drop l.entity-index l.entities) ≡ map (λ e. of e.explicit) l.entities
