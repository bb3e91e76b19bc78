use Rattle.std.proofs.Common.{◌≡◌, rules, ◌∙◌, sym, subst}
use Rattle.std.specs.Prelude.{nat_lt}
use Rattle.std.specs.Ordering.{nat_cmp}
use Rattle.std.proofs.lemmas.Fn.{always_returns_same}
use Rattle.sorted_tables.specs.Table.{IsAscending}
use Rattle.p21_instances.specs.Instances.{in_order}
use Rattle.p21_instances.proofs.SortedBy.{sorted_by}
use Rattle.rp_content.specs.Names.{instance_name}
use Rattle.p21_mappings.proofs.Ordered.{ordered_once}
use Rattle.p21_mappings.proofs.content.in_name_order.Goals as goal

pub of-requires : goal.of-requires
of-requires c =
    let sort = c.in_ok-sort_by_key.ensures in
    let sorted : c.sort_by_key.new.self.items ≡ in_order (λ x y. nat_lt x.name y.name) c.args.instances.items =
    sorted_by instance_name c.args.instances.items c.sort_by_key.new.self.items
    (sort.sorted instance_name (always_returns_same _ _ _ (λ a r q k. search rules)))
    (sort.stable instance_name (always_returns_same _ _ _ (λ a r q k. search rules))) in
    subst (IsAscending nat_cmp instance_name) (sym sorted) (ordered_once instance_name c.args.instances.items c.requires)

pub returns : goal.returns
returns c =
    let sort = c.in_ok-sort_by_key.ensures in
    c.of.ensures
    ∙ sorted_by instance_name c.args.instances.items c.sort_by_key.new.self.items
    (sort.sorted instance_name (always_returns_same _ _ _ (λ a r q k. search rules)))
    (sort.stable instance_name (always_returns_same _ _ _ (λ a r q k. search rules)))
