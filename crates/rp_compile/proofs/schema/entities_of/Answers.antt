use Rattle.std.proofs.Common.{◌≡◌, List, IfOk, ◌∙◌, subst}
use Rattle.rp_meaning.specs.declared.schema.Entity.{Entity}
use Rattle.rp_compile.proofs.Rederived.{entities-found}
use Rattle.rp_compile.proofs.schema.entities_of.Goals as goal

pub returns : goal.returns
returns c = subst (λ (all : List Entity). IfOk c.entities-3.result (λ found. found ≡ all))
    (entities-found c.args.schema.now.named.schema c.args.declared.now c.name.result.now c.entities-2.result.now c.entities.result.now c.deref.result.now c.args.order.now c.deref-2.result.now
    c.requires.declared c.name.ensures c.entities-2.ensures c.entities.ensures (c.deref.ensures.value ∙ c.in_ok-graph.ensures) c.requires.order
    (c.deref-2.ensures.value ∙ c.in_ok-rederived.ensures))
    c.entities-3.ensures
