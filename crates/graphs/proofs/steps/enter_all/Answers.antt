use Rattle.std.proofs.Common.{◌∙◌, ap, sym, ◌++◌, map}
use Rattle.std.proofs.lemmas.Iterator.Adapters.{YieldsList-from_rev_slice}
use Rattle.std.proofs.lemmas.Iterator.Consumers.{YieldsList-end}
use Rattle.std.proofs.lemmas.Simd.{map-map}
use Rattle.graphs.specs.declared.steps.Step.TheVariants.{Enter}
use Rattle.graphs.proofs.steps.enter_all.Goals as goal

pub returns : goal.returns
returns c =
    let all = YieldsList-end (YieldsList-from_rev_slice c.args.members.now cc) c.loop-member.yielded _ c.loop-member.yielded_by _ _ c.in-None.is c.next.ensures.steps in
    c.loop-member.invariant
    ∙ ap (λ l. c.args.steps.now.items ++ l) (sym (map-map (λ m. Enter m) (λ m. m.now) c.loop-member.yielded) ∙ ap (map (λ m. Enter m)) all.0)
