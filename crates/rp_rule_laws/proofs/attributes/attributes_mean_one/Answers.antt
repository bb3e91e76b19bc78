use Rattle.std.proofs.Common.{subst}
use Rattle.ex_resolve.specs.Schemas.{IsResolved}
use Rattle.rp_rule_laws.proofs.AttributesElsewhere.{everywhere}
use Rattle.rp_rule_laws.proofs.AttributesEntities.{all_mean_one}
use Rattle.rp_rule_laws.proofs.attributes.attributes_mean_one.Goals as goal

pub returns : goal.returns
returns c = everywhere c.args.schema.now.named (subst IsResolved c.resolved.ensures c.proved-2.ensures.resolved) (all_mean_one c.args.schema.now.named c.args.schema.now c.proved.ensures)
