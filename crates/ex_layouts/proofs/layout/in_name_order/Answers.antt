use Rattle.std.proofs.Common.{rules, ◌∙◌, ap}
use Rattle.std.proofs.lemmas.Fn.{always_returns_same}
use Rattle.ex_layouts.specs.Entities.{name_rank}
use Rattle.ex_layouts.specs.Layouts as spec
use Rattle.p21_instances.proofs.SortedBy.{sorted_by}
use Rattle.ex_layouts.proofs.layout.in_name_order.Goals as goal

pub returns : goal.returns
unfolding spec.in_name_order
returns c =
    let key = name_rank c.args.schema.now in
    let sort = c.in_ok-sort_by_key.ensures in
    c.from_vec.ensures
    ∙ sorted_by key c.in_ok-order.order.items c.sort_by_key.new.self.items
    (sort.sorted key (always_returns_same _ _ _ (λ a r q k. search rules)))
    (sort.stable key (always_returns_same _ _ _ (λ a r q k. search rules)))
    ∙ ap (spec.in_name_order c.args.schema.now) c.in_ok-order.ensures.items
