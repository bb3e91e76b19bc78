use Rattle.std.proofs.Common.{rules, ◌∙◌, ap}
use Rattle.std.specs.Vec.Iter.{into_iter_items}
use Rattle.p21_instances.specs.Instances.{in_order}
use Rattle.rp_plain.specs.Lists.{is_below}
use Rattle.rp_readers.proofs.ListRuns.{all_items}
use Rattle.rp_readers.proofs.SchemaNames.{texts_sorted}
use Rattle.rp_readers.proofs.schemas.sorted_names.Goals as goal

pub returns : goal.returns
returns c =
    let runs = c.into_iter-names.ensures.runs in
    let sort = c.in_ok-sorted.ensures.sorted in
    let given = all_items runs c.into_iter-names.result sort.0 sort.1 sort.2 in
    let kept = c.in_ok-collect_vec.ensures.runs in
    c.from_vec.ensures
    ∙ kept.3
    ∙ all_items runs c.in_ok-sorted.sorted kept.0 kept.1 kept.2
    ∙ texts_sorted sort.0.items (into_iter_items c.in_ok-sorted.sorted) sort.3.0 sort.3.1 (λ a r f called. search rules)
    ∙ ap (in_order is_below) (given ∙ c.into_iter-names.ensures.rest ∙ c.in_ok-names_of.ensures)
