use Rattle.std.proofs.Common.{◌≡◌, length, sym, ◌∙◌, ap, subst}
use Rattle.std.specs.Ordering.{nat_cmp}
use Rattle.std.proofs.lemmas.Cmp.{nat_cmp_total}
use Rattle.sorted_tables.specs.Places.{IsThere, IsAbsent}
use Rattle.sorted_tables.proofs.Positions.{there_first, absent_last}
use Rattle.rp_rows.specs.Contents.{instance_name}
use Rattle.rp_group_domain.specs.Models.{place_of}
use Rattle.rp_group_domain.proofs.places.place_of.Goals as goal

pub returns-in-Ok : goal.returns-in-Ok
unfolding place_of
returns-in-Ok c =
    sym (there_first nat_cmp instance_name nat_cmp_total c.args.name c.args.instances.now c.in-Ok.place
    (subst (λ xs. IsThere nat_cmp instance_name c.args.name xs c.in-Ok.place) c.ordered.ensures.are c.in-Ok.ensures))

pub returns-in-Err : goal.returns-in-Err
unfolding place_of
returns-in-Err c =
    c.len.ensures
    ∙ sym (absent_last nat_cmp instance_name nat_cmp_total c.args.name c.args.instances.now c.in-Err.field-0
    (subst (λ xs. IsAbsent nat_cmp instance_name c.args.name xs c.in-Err.field-0) c.ordered.ensures.are c.in-Err.ensures))
