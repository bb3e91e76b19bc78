use Rattle.std.proofs.Common.{◌≡◌, drop}
use Rattle.rp_rules.specs.Plan.{put_all}
use Rattle.rp_rules.proofs.plan.Planning.put_all.Given as goal

abbrev pub invariant-loop-redeclaration : goal.invariant-loop-redeclaration
invariant-loop-redeclaration l =
    let all = put_all l.self.schema.now.types l.self.number in
    all l.found.items (drop l.redeclaration-index l.redeclarations) ≡ all l.fn.found.items l.redeclarations
