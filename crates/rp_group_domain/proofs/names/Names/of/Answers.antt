use Rattle.std.proofs.Common.{◌≡◌, ◌∙◌, IfSome, length, Option, Some, slice_get, refl, sym, ap, subst}
use Rattle.std.proofs.lemmas.Option.{slice_get_read}
use Rattle.rp_population.specs.Populations.{Counted}
use Rattle.rp_group_domain.specs.Models.{AreNamesOf, CanName, Names}
use Rattle.rp_group_domain.proofs.Naming.{all_named, can_name, made_are, made_of}
use Rattle.rp_group_domain.proofs.PlaceOrder.{population_ascends}
use Rattle.rp_group_domain.proofs.names.Names.of.Goals as goal

pub targets-requires : goal.targets-requires
targets-requires c = rw c.requires.population.all (population_ascends c.args.models.now c.requires.population.order)

pub invariant_of-result : goal.invariant_of-result
invariant_of-result c =
    let ms = c.args.models.now in
    let xs = c.args.population.now in
    let m = c.index-models-at.result in
    let is : slice_get ms c.args.at ≡ Some m = slice_get_read ms (length ms) c.args.at m refl c.requires.at c.index-models-at.is in
    let all : c.model.inside.content.now.instances ≡ m.content.instances = ap (λ (n : Counted). n.content.instances) c.model.view_is in
    let linked : c.as_slice-links.result.now ≡ m.content.links = c.as_slice-links.ensures ∙ ap (λ (n : Counted). n.content.links) c.model.view_is in
    let same = made_are ms xs c.args.at m c.model.inside.content.now.instances c.args.start c.as_slice-links.result.now c.in_ok-targets.targets all c.requires.start linked c.in_ok-targets.ensures in
    subst CanName (sym same) (can_name ms xs c.requires.population c.args.at m is)

pub returns : goal.returns
returns c =
    let ms = c.args.models.now in
    let xs = c.args.population.now in
    let m = c.index-models-at.result in
    let is : slice_get ms c.args.at ≡ Some m = slice_get_read ms (length ms) c.args.at m refl c.requires.at c.index-models-at.is in
    let all : c.model.inside.content.now.instances ≡ m.content.instances = ap (λ (n : Counted). n.content.instances) c.model.view_is in
    let linked : c.as_slice-links.result.now ≡ m.content.links = c.as_slice-links.ensures ∙ ap (λ (n : Counted). n.content.links) c.model.view_is in
    let same = made_are ms xs c.args.at m c.model.inside.content.now.instances c.args.start c.as_slice-links.result.now c.in_ok-targets.targets all c.requires.start linked c.in_ok-targets.ensures in
    let named = subst (λ (n : Names). AreNamesOf xs m n) (sym same) (all_named ms xs c.requires.population c.args.at m is) in
    subst (λ (o : Option Counted). IfSome o (λ n. AreNamesOf xs n (made_of xs c.model.inside.content.now.instances c.args.start c.as_slice-links.result.now c.in_ok-targets.targets))) (sym is) named
