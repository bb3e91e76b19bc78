-- What a file holds is a model whose names can be searched.
use Rattle.std.proofs.Common.{◌≡◌, ℕ, ◌<◌, true, List, [], ◌∷◌, Ok, ap, subst, arith}
use Rattle.std.specs.List.{AllByRecursion}
use Rattle.std.specs.Ordering.{nat_cmp, is_gt}
use Rattle.std.proofs.lemmas.Bool.Decides.{nat_tests}
use Rattle.ex_schemas.specs.Schemas.{Checked}
use Rattle.p21_tree.specs.declared.raw.Raw.{Raw}
use Rattle.p21_bind.specs.Files.{AreAscending, bound_file}
use Rattle.p21_bind.proofs.Ascending.{of_file}
use Rattle.rp_content.specs.declared.content.Content.{Content}
use Rattle.rp_content.specs.declared.instance.Instance.{Instance}
use Rattle.sorted_tables.specs.Table.{is_after, IsAscending}
use Rattle.rp_rows.specs.Contents.{instance_name, link_name}
use Rattle.rp_rows.specs.Instances.{IsInOrder}
use Rattle.rp_population.specs.Populations.{Counted}
use Rattle.rp_positions.specs.Positions.{AreInOrder, IsSearchable}

is_above : (m n : ℕ) → m < n → is_gt (nat_cmp n m) ≡ true
is_above m n less = grind (arith, nat_tests)

all_above : (n : ℕ) (is : List Instance) → AllByRecursion (λ (j : Instance). n < j.name) is → AllByRecursion (λ (j : Instance). is_after nat_cmp instance_name n j ≡ true) is
all_above n [] all = tt
all_above n (i ∷ is) all = (is_above n i.name all.0, all_above n is all.1)

in_order : (is : List Instance) → AreAscending is → IsInOrder is
in_order [] order = tt
in_order (i ∷ is) order = (all_above i.name is order.0, in_order is order.1)

-- a file has no links
pub searchable : (schema : Checked) (linked : List ℕ) (raw : Raw) (c : Content) → bound_file schema linked raw ≡ Ok c → AreAscending c.instances → IsSearchable c
searchable schema linked raw c bound order =
    let file = of_file schema linked raw c bound in
    let none : [] ≡ c.links = ap (λ (d : Content). d.links) file.are in
    record { instances = in_order c.instances order; links = subst (IsAscending nat_cmp link_name) none tt }

pub alone : (m : Counted) → IsSearchable m.content → AreInOrder (m ∷ [])
alone m names = record { models = (tt, tt); contents = (names, tt) }
