use Rattle.std.proofs.Common.{subst}
use Rattle.ex_resolve.specs.Proved.{held_types}
use Rattle.ex_schemas.specs.Schemas.{Resolved}
use Rattle.graphs.specs.Graphs.{IsAcyclic}
use Rattle.rp_rule_laws.proofs.KindsGiven.{given_has_kind}
use Rattle.rp_rule_laws.proofs.kinds.given_by_kinds.Goals as goal

pub returns : goal.returns
returns c = given_has_kind c.args.schema.now (subst (λ (r : Resolved). IsAcyclic (held_types r.schema.types)) c.resolved.ensures c.proved.ensures.held)
