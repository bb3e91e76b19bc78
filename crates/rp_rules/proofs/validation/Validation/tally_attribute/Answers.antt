use Rattle.std.proofs.Common.{◌≡◌, true, List, OnOk, rules, sym, ap, ◌∙◌, subst}
use Rattle.rp_meaning.specs.Populations.{Instance}
use Rattle.rp_meaning.specs.Report.{world}
use Rattle.rp_meaning.specs.Sequence.{Candidate}
use Rattle.rp_rules.specs.declared.culprits.Culprits.{Culprits}
use Rattle.rp_rules.specs.Tallies.{tallied}
use Rattle.rp_rules.specs.TypeTallies.{candidates_by}
use Rattle.rp_rules.proofs.TypeTallies.{by-checked}
use Rattle.rp_rules.proofs.validation.Validation.tally_attribute.Goals as goal

pub returns-clause-found : goal.returns-clause-found
returns-clause-found g c =
    let schema = c.args.self.now.schema.now in
    let population = g.D.Domain.population c.args.self.now.domain.now in
    let checked : c.is_checked.result ≡ true = search rules in
    let by = by-checked schema population c.args.number c.args.place c.args.at c.args.instance.now c.args.attribute c.args.written.now c.read_at-read.result.now (sym c.is_checked.ensures ∙ checked) in
    let read = ap (candidates_by schema population c.args.number c.args.place c.args.at c.args.instance.now c.args.attribute c.args.written.now) c.read_at-read.ensures in
    let all = ap (λ (cs : List Candidate). (tallied (world schema population) c.args.found.now cs c.args.used.now.steps).0) (sym by ∙ read) in
    let entities = ap (λ (i : Instance). i.entities) c.instance.view_is in
    let found = rw (c.in_ok-verdicts.ensures.verdicts, entities) at c.add.ensures in
    subst (λ (cs : Culprits). OnOk c.add.result (c.add.new.self ≡ cs)) all found
