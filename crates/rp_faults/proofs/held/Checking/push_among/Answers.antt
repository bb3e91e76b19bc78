use Rattle.std.proofs.Common.{◌≤◌, ◌++◌, List, length, append-nil, ap, sym, ◌∙◌}
use Rattle.rp_meaning.specs.declared.report.Culprit.{Culprit}
use Rattle.rp_faults.proofs.Checked.{among-end}
use Rattle.rp_faults.proofs.held.Checking.push_among.Goals as goal

pub returns-in_default : goal.returns-in_default
returns-in_default g c =
    let past : length c.args.written.now ≤ c.loop-at.at = c.in_default.ensures.lookup.3 in
    sym (append-nil c.loop-at.found)
    ∙ ap (λ (cs : List Culprit). c.loop-at.found ++ cs)
    (sym (among-end c.args.self.now.schema.now (g.D.Domain.population c.args.self.now.domain.now) c.args.self.now.fault c.args.checked.now.place c.args.checked.now.instance.now c.args.checked.now.redeclaring.now c.args.attributes.now c.args.written.now c.loop-at.at past))
    ∙ c.loop-at.invariant
