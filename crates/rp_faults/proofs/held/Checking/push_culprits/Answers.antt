use Rattle.std.proofs.Common.{◌≡◌, ◌++◌, List, OnOk, ap, subst, ◌∙◌}
use Rattle.std.specs.List.{flat_map}
use Rattle.rp_meaning.specs.declared.report.Culprit.{Culprit}
use Rattle.rp_meaning.specs.Faults.{redeclared_by}
use Rattle.rp_meaning.specs.Populations.{Instance}
use Rattle.rp_faults.specs.Held.{culprits_in}
use Rattle.rp_faults.proofs.Checked.{among-all}
use Rattle.rp_faults.proofs.held.Checking.push_culprits.Goals as goal

pub returns : goal.returns
returns g c =
    let schema = c.args.self.now.schema.now in
    let population = g.D.Domain.population c.args.self.now.domain.now in
    let i = c.args.instance.now in
    let s = c.instance.inside in
    subst (λ (cs : List Culprit). OnOk c.push_among.result (c.push_among.new.found ≡ c.args.found.now ++ cs))
    (among-all schema population c.args.self.now.fault c.args.place i c.redeclaring.result.now
    (λ a. c.redeclaring.ensures a ∙ ap (λ (j : Instance). flat_map (redeclared_by schema a) j.entities) c.instance.view_is)
    s.attributes.now s.written.now s.differing.now
    ∙ ap (λ (j : Instance). culprits_in schema population c.args.self.now.fault c.args.place i j.values) c.instance.view_is)
    c.push_among.ensures
