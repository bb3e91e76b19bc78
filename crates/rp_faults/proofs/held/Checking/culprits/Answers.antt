use Rattle.std.proofs.Common.{◌++◌, ◌+◌, List, append-nil, append_assoc, ap, drop, sym, ◌∙◌}
use Rattle.rp_meaning.specs.declared.report.Culprit.{Culprit}
use Rattle.rp_faults.specs.Held.{culprits_from, culprits_in}
use Rattle.rp_faults.proofs.Checked.{all-culprits, from-end, from-step}
use Rattle.rp_faults.proofs.held.Checking.culprits.Goals as goal

pub loop-place-init : goal.loop-place-init
loop-place-init g c =
    let schema = c.args.self.now.schema.now in
    let population = g.D.Domain.population c.args.self.now.domain.now in
    ap (λ (found : List Culprit). found ++ culprits_from schema population c.args.self.now.fault 0 population) c.new-found.ensures ∙ all-culprits schema population c.args.self.now.fault

pub returns-in_default : goal.returns-in_default
returns-in_default g c =
    let schema = c.args.self.now.schema.now in
    let population = g.D.Domain.population c.args.self.now.domain.now in
    sym (append-nil c.loop-place.found)
    ∙ ap (λ (cs : List Culprit). c.loop-place.found ++ cs) (sym (from-end schema population c.args.self.now.fault c.loop-place.place (sym c.instance.ensures ∙ c.in_default.is)))
    ∙ c.loop-place.invariant

pub loop-place-preserved : goal.loop-place-preserved
loop-place-preserved g c =
    let schema = c.args.self.now.schema.now in
    let population = g.D.Domain.population c.args.self.now.domain.now in
    let place = c.loop-place.place in
    let found = c.loop-place.found in
    let i = c.in-Some.instance in
    let here = culprits_in schema population c.args.self.now.fault place i i.values in
    let rest = culprits_from schema population c.args.self.now.fault (place + 1) (drop (place + 1) population) in
    ap (λ (cs : List Culprit). cs ++ rest) c.in_ok-push_culprits.ensures ∙ append_assoc found here rest
    ∙ ap (λ (cs : List Culprit). found ++ cs) (sym (from-step schema population c.args.self.now.fault place i (sym c.instance.ensures ∙ c.in-Some.is)))
    ∙ c.loop-place.invariant
