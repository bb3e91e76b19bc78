use Rattle.std.proofs.Common.{subst}
use Rattle.ex_resolve.proofs.Cycles.{acyclic, listed}
use Rattle.ex_resolve.proofs.Laws.{once, held, in_range}
use Rattle.ex_resolve.specs.Proved.{HasIdentifiers}
use Rattle.ex_resolve.specs.Schemas.{IsResolved}
use Rattle.ex_resolve.proofs.named.Named.proved.Goals as goal

pub returns : goal.returns
returns c =
    let whole : IsResolved c.args.self.now = subst IsResolved c.self.view_is c.self.invariant.0 in
    record {
      resolved = whole;
      listed = listed c.args.self.now whole;
      acyclic = acyclic c.args.self.now whole;
      once = once c.args.self.now whole;
      identified = subst (λ r. HasIdentifiers r.schema) c.self.view_is c.self.invariant.1;
      held = held c.args.self.now whole;
      in_range = in_range c.args.self.now whole;
    }
