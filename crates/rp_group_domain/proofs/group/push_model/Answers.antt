use Rattle.std.proofs.Common.{◌≡◌, ◌∙◌, ◌++◌, List, map, IfSome, length, Option, Some, slice_get, refl, ap, subst}
use Rattle.std.proofs.lemmas.Option.{slice_get_read}
use Rattle.std.proofs.lemmas.Result.{on_ok_weaker}
use Rattle.rp_domain.specs.declared.instance.WrittenInstance.{WrittenInstance}
use Rattle.rp_population.specs.Populations.{Counted}
use Rattle.rp_group_domain.specs.Models.{AreNamesOf, written, written_before}
use Rattle.rp_group_domain.proofs.Writing.{model_written, one_model_more}
use Rattle.rp_group_domain.proofs.group.push_model.Goals as goal

pub returns-clause-written : goal.returns-clause-written
returns-clause-written c =
    let checked = c.args.lines.now in
    let ms = c.args.models.now in
    let xs = c.args.population.now in
    let m = c.index-models-at.result in
    let n = c.in_ok-names.names in
    let is : slice_get ms c.args.at ≡ Some m = slice_get_read ms (length ms) c.args.at m refl c.requires.at c.index-models-at.is in
    let all : c.as_slice.result.now ≡ m.content.instances = c.as_slice.ensures ∙ ap (λ (n : Counted). n.content.instances) c.model.view_is in
    let named = subst (λ (o : Option Counted). IfSome o (λ k. AreNamesOf xs k n)) is c.in_ok-names.ensures in
    on_ok_weaker c.push_written.result (λ added.
    added
    ∙ ap (λ (ys : List WrittenInstance). ys ++ map (written checked n) c.as_slice.result.now) c.requires.before
    ∙ ap (λ ys. written_before checked xs ms c.args.at ++ ys) (ap (map (written checked n)) all ∙ model_written checked xs m n named m.content.instances)
    ∙ one_model_more checked xs ms c.args.at m is)
    c.push_written.ensures.written
