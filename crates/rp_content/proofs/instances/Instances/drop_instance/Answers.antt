use Rattle.std.proofs.Common.{◌≡◌, None, sym, ◌∙◌, ap, subst}
use Rattle.std.specs.Ordering.{nat_cmp}
use Rattle.std.proofs.lemmas.Cmp.{nat_cmp_total}
use Rattle.sorted_tables.specs.Table.{with_row, IsAscending}
use Rattle.sorted_tables.proofs.Finding.{taken_there, taken_absent}
use Rattle.rp_content.specs.Names.{instance_name}
use Rattle.rp_content.proofs.instances.Instances.drop_instance.Goals as goal

pub invariant_of-self : goal.invariant_of-self
invariant_of-self c =
    let taken = taken_there nat_cmp instance_name nat_cmp_total c.args.name c.self.inside.list.0 c.as_slice.result.now c.in-Ok.place (sym c.as_slice.ensures) c.in-Ok.ensures in
    subst (IsAscending nat_cmp instance_name) (sym c.remove.ensures) taken.ascends

pub returns-in-Ok : goal.returns-in-Ok
returns-in-Ok c =
    let taken = taken_there nat_cmp instance_name nat_cmp_total c.args.name c.self.inside.list.0 c.as_slice.result.now c.in-Ok.place (sym c.as_slice.ensures) c.in-Ok.ensures in
    c.remove.ensures ∙ taken.are ∙ ap (with_row nat_cmp instance_name c.args.name None) (c.as_slice.ensures ∙ c.self.view_is)

pub returns-in_default : goal.returns-in_default
returns-in_default c =
    subst (λ xs. xs ≡ with_row nat_cmp instance_name c.args.name None xs) (c.as_slice.ensures ∙ c.self.view_is)
    (taken_absent nat_cmp instance_name nat_cmp_total c.args.name c.as_slice.result.now c.in_default.field-0 c.in_default.ensures)
