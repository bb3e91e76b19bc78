use Rattle.std.proofs.Common.{rules, ◌≡◌, length, map, replicate}
use Rattle.rp_rules.specs.Plan.{nothing, own, put_of}
use Rattle.rp_rules.proofs.Untried.{plan-tells}
use Rattle.rp_rules.proofs.plan.Planning.plan.Goals as goal

pub returns : goal.returns
returns c =
    let schema = c.args.self.now.schema.now in
    let number = c.args.self.now.number in
    let again : c.from_vec.result ≡ put_of schema.types number (replicate (length schema.entities) nothing) schema.entities = search rules in
    let rows : c.in_ok-all_own.field-0 ≡ map (λ e. own schema.types number e.explicit) schema.entities = search rules in
    plan-tells schema number c.from_vec.result c.in_ok-all_own.field-0 again rows
