use Rattle.std.proofs.Common.{◌≡◌, ◌++◌, drop, map}
use Rattle.rp_rules.specs.Plan.{by_declaration}
use Rattle.rp_rules.proofs.plan.Planning.own.Given as goal

abbrev pub invariant-loop-attribute : goal.invariant-loop-attribute
invariant-loop-attribute l =
    let of = by_declaration l.self.schema.now.types l.self.number in
    l.found ++ map of (drop l.attribute-index l.explicit) ≡ map of l.explicit
