use Rattle.std.proofs.Common.{rules, sym, ◌∙◌, ap, subst}
use Rattle.std.proofs.lemmas.Fn.{always_returns_same}
use Rattle.std.specs.Vec.Iter.{into_iter_items}
use Rattle.p21_instances.proofs.SortedBy.{sorted_by}
use Rattle.rp_rows.specs.Contents.{link_name}
use Rattle.rp_plain.specs.Links.{links_in_order}
use Rattle.rp_readers.proofs.ListRuns.{all_items}
use Rattle.rp_file_plans.specs.Links.{AreInOrder}
use Rattle.rp_file_plans.proofs.LinkOrder.{ordered}
use Rattle.rp_file_plans.proofs.links.in_order.Goals as goal

pub returns-clause-same : goal.returns-clause-same
returns-clause-same c =
    let runs = c.into_iter-links.ensures.runs in
    let sort = c.in_ok-sorted.ensures.sorted in
    let given = all_items runs c.into_iter-links.result sort.0 sort.1 sort.2 in
    let kept = c.in_ok-collect_vec.ensures.runs in
    c.from_vec.ensures
    ∙ kept.3
    ∙ all_items runs c.in_ok-sorted.sorted kept.0 kept.1 kept.2
    ∙ sorted_by link_name sort.0.items (into_iter_items c.in_ok-sorted.sorted)
    (sort.3.1 link_name (always_returns_same _ _ _ (λ a r q k. search rules)))
    (sort.3.2 link_name (always_returns_same _ _ _ (λ a r q k. search rules)))
    ∙ ap links_in_order (given ∙ c.into_iter-links.ensures.rest ∙ c.into_vec.ensures)

pub returns-clause-order : goal.returns-clause-order
returns-clause-order c = subst AreInOrder (sym (returns-clause-same c)) (ordered c.args.links)
