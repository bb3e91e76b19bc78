-- The numbers of a valid model are of 64 bits.
use Rattle.std.proofs.Common.{◌≤◌, List, [], ◌∷◌, arith}
use Rattle.std.specs.List.{AllByRecursion}
use Rattle.ex_types.specs.Checked.{Checked}
use Rattle.rp_content.specs.declared.link.Link.{Link}
use Rattle.rp_rows.specs.Contents.{greatest_name, link_name}
use Rattle.rp_rows.specs.Instances.{max_name}
use Rattle.rp_rows.specs.Rows.{Text, row_key, Model}
use Rattle.rp_plain.specs.Valid.{IsValidLink, IsValidModel}
use Rattle.rp_laws.proofs.ByName.{all_within}
use Rattle.rp_snapshot_rows.specs.Again.{HasModelNumbers, HasNumbers}

abbrev IsLow : Link → Type 0
IsLow l = l.name ≤ max_name

link_numbers : (P : Link → Type 0) → ((l : Link) → P l → l.target ≤ max_name) → (ls : List Link) → AllByRecursion IsLow ls → AllByRecursion P ls → AllByRecursion HasNumbers ls
link_numbers P target [] low all = tt
link_numbers P target (l ∷ ls) low all = let most = target l all.0 in ((omega (arith, low.0), omega (arith, most)), link_numbers P target ls low.1 all.1)

pub model_numbers : (schemas : List Checked) (partners : List Text) (m : Model) → IsValidModel schemas partners m → HasModelNumbers m
model_numbers schemas partners m valid =
    let greatest = valid.content.greatest in
    let in_use = valid.content.in_use in
    let low = (all_within link_name max_name (greatest_name 0 m.holds.content.instances) m.holds.content.links (omega (arith, in_use, greatest))).1 in
    (omega (arith, greatest), link_numbers (IsValidLink partners (row_key m) m.holds.content) (λ l link. link.target) m.holds.content.links low valid.content.linked)
