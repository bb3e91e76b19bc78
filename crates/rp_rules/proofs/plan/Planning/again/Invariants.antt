use Rattle.std.proofs.Common.{◌≡◌, drop, length, replicate}
use Rattle.rp_rules.specs.Plan.{nothing, put_of}
use Rattle.rp_rules.proofs.plan.Planning.again.Given as goal

abbrev pub invariant-loop-entity : goal.invariant-loop-entity
invariant-loop-entity l =
    let all = put_of l.self.schema.now.types l.self.number in
    all l.found.items (drop l.entity-index l.entities) ≡ all (replicate (length l.entities) nothing) l.entities
