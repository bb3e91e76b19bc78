use Rattle.std.proofs.Common.{Some, sym, ◌∙◌, ap, subst}
use Rattle.std.specs.Ordering.{nat_cmp}
use Rattle.std.proofs.lemmas.Cmp.{nat_cmp_total}
use Rattle.sorted_tables.specs.Table.{with_row, IsAscending}
use Rattle.sorted_tables.proofs.Finding.{put_there, put_absent}
use Rattle.rp_content.specs.Names.{instance_name}
use Rattle.rp_content.proofs.instances.Instances.put.Goals as goal

pub invariant_of-self : goal.invariant_of-self
invariant_of-self c =
    let made = put_there nat_cmp instance_name nat_cmp_total c.args.instance c.self.inside.list.0 c.as_slice.result.now c.in-Ok.place (sym c.as_slice.ensures) c.in-Ok.ensures in
    subst (IsAscending nat_cmp instance_name) (sym c.set.ensures) made.ascends

pub invariant_of-self-in-Err : goal.invariant_of-self-in-Err
invariant_of-self-in-Err c =
    let made = put_absent nat_cmp instance_name nat_cmp_total c.args.instance c.make_room.new.list.0 c.as_slice.result.now c.in-Err.place (c.make_room.ensures.same ∙ sym c.as_slice.ensures) c.in-Err.ensures in
    subst (IsAscending nat_cmp instance_name) (sym c.insert.ensures) made.ascends

pub returns-in-Ok : goal.returns-in-Ok
returns-in-Ok c =
    let made = put_there nat_cmp instance_name nat_cmp_total c.args.instance c.self.inside.list.0 c.as_slice.result.now c.in-Ok.place (sym c.as_slice.ensures) c.in-Ok.ensures in
    c.set.ensures ∙ made.are ∙ ap (with_row nat_cmp instance_name c.args.instance.name (Some c.args.instance)) (c.as_slice.ensures ∙ c.self.view_is)

pub returns-in-Err : goal.returns-in-Err
returns-in-Err c =
    let made = put_absent nat_cmp instance_name nat_cmp_total c.args.instance c.make_room.new.list.0 c.as_slice.result.now c.in-Err.place (c.make_room.ensures.same ∙ sym c.as_slice.ensures) c.in-Err.ensures in
    c.insert.ensures ∙ made.are ∙ ap (with_row nat_cmp instance_name c.args.instance.name (Some c.args.instance)) (c.as_slice.ensures ∙ c.self.view_is)
