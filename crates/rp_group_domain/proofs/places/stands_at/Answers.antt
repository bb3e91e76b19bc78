use Rattle.std.proofs.Common.{◌≡◌, ◌<◌, length, get_or, true, arith, ap, sym, ◌∙◌}
use Rattle.std.specs.Ordering.{nat_cmp}
use Rattle.std.proofs.lemmas.Cmp.{nat_cmp_total}
use Rattle.std.proofs.lemmas.Bool.Decides.{nat_tests}
use Rattle.sorted_tables.specs.Table.{is_at}
use Rattle.sorted_tables.proofs.Positions.{found}
use Rattle.rp_rows.specs.Contents.{instance_name}
use Rattle.rp_group_domain.specs.Models.{place_of}
use Rattle.rp_group_domain.proofs.places.stands_at.Goals as goal

pub returns-in-Some : goal.returns-in-Some
unfolding place_of
returns-in-Some c = λ same.
    let i = c.in-Some.instance.now in
    let xs = c.args.instances.now in
    let are = c.ordered.ensures.are in
    let read : i ≡ get_or xs c.args.place i = c.in-Some.ensures.lookup.1 ∙ ap (λ ys. get_or ys c.args.place i) are in
    let test : is_at nat_cmp instance_name c.args.name i ≡ true = grind (arith, nat_tests) in
    let within : c.args.place < length xs = omega (arith, c.in-Some.ensures.lookup.3.0, ap length are) in
    found nat_cmp instance_name nat_cmp_total c.args.name xs c.ordered.ensures.order c.args.place i within
    (ap (is_at nat_cmp instance_name c.args.name) (sym read) ∙ test)
