use Rattle.std.proofs.Common.{◌≡◌, Bool, true, false, ◌&&◌, ◌||◌, ◌==◌, refl, sym, ◌∙◌}
use Rattle.plain_data.specs.Numbers.{is_among}
use Rattle.graphs.proofs.Sets.{inserted}
use Rattle.rp_population.specs.Populations.{same_place, target_of}
use Rattle.rp_population.proofs.names.insert_leading.Goals as goal

leads : (a old s : Bool) → s ≡ true → (a || old) ≡ (old || (a && s))
leads true true true is = refl
leads true false true is = refl
leads false true true is = refl
leads false false true is = refl
leads a old false is = cc

pub returns-in_ok-insert : goal.returns-in_ok-insert
returns-in_ok-insert c = λ name.
    let link = c.args.link.now in
    let keys = c.args.names.now.keys in
    inserted keys c.insert.new.self.keys link.name c.in_ok-insert.ensures.keys name
    ∙ leads (link.name == name) (is_among keys name) (same_place c.args.of.now (target_of link)) (sym c.leads_to.ensures ∙ c.if-leads_to.true)
