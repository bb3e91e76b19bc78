use Rattle.std.proofs.Common.{rules, ◌∙◌, refl}
use Rattle.std.specs.Prelude.{codes}
use Rattle.std.proofs.lemmas.Iterator.{YieldsList-from_map_by, YieldsList-from_slice}
use Rattle.itertools.proofs.AdaptorLemmas.{items_from_whole_run}
use Rattle.p21_canonical.proofs.JoinedNames.{joined_names}
use Rattle.p21_canonical.specs.Trees.{entity_name}
use Rattle.p21_canonical.proofs.type_names.joined.Goals as goal

pub returns : goal.returns
returns c =
    let run = c.in_ok-join.ensures.text in
    let name = entity_name c.args.entities.now in
    let road = YieldsList-from_map_by _ (λ t. t.now) name (YieldsList-from_slice c.args.all.now cc) c.map-names.ensures.closure (λ x r q k. search rules) in
    c.new.ensures
    ∙ run.3 (λ t. t.now) (λ t. refl)
    ∙ joined_names (λ t. t.now) name (codes "+") run.0.items c.args.all.now (items_from_whole_run road run.0 run.1 run.2)
