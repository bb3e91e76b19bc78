-- The names of schemas, sorted.
use Rattle.std.proofs.Common.{◌≡◌, Bool, List, [], ◌∷◌, refl, Ordering, Bor, sym, ◌∙◌, ap, map}
use denote.Param.Members.{Mut}
use Rattle.std.proofs.lemmas.Cmp.{nat_list_cmp_total}
use Rattle.std.proofs.lemmas.Fn.{always_returns_same}
use Rattle.std.proofs.lemmas.List.Sorted.{ranks_by}
use Rattle.std.specs.Cmp.{IsStrictWeakOrder}
use Rattle.std.specs.Fn.{Called, ComparesAs}
use Rattle.std.specs.List.Sorted.{IsPermutation, IsSortedBy}
use Rattle.std.specs.Ordering.{is_lt}
use Rattle.p21_instances.specs.Instances.{in_order}
use Rattle.p21_instances.proofs.Keywords.{keywords-sorted}
use Rattle.rp_rows.specs.Rows.{Text, text_cmp}
use Rattle.rp_plain.specs.Lists.{is_below}

map_itself : (xs : List Text) → map (λ x. x) xs ≡ xs
map_itself [] = refl
map_itself (x ∷ xs) = ap (λ ys. x ∷ ys) (map_itself xs)

-- what a sort of texts by a closure gives, which compares them
pub texts_sorted : {F : Type 0} {g : Mut F (Bor Text × (Bor Text × Unit {0})) Ordering} {f : F} (xs ys : List Text) → IsPermutation xs ys
    → ((lt : Text → Text → Bool) → IsStrictWeakOrder lt → ComparesAs g lt f → IsSortedBy lt ys)
    → ((a : Bor Text × (Bor Text × Unit {0})) (r : Ordering) (f' : F) → Called g f a r f' → (r ≡ text_cmp a.0.now a.1.0.now) × (f' ≡ f))
    → ys ≡ in_order is_below xs
texts_sorted {g = g} {f = f} xs ys same up compares =
    let sorted = up is_below (ranks_by nat_list_cmp_total (λ t. t)) (always_returns_same g (λ a r. is_lt r ≡ is_below a.0.now a.1.0.now) f (λ a r f' k. (ap is_lt (compares a r f' k).0, (compares a r f' k).1))) in
    sym (map_itself ys) ∙ keywords-sorted (λ (t : Text). t) xs ys same sorted ∙ ap (in_order is_below) (map_itself xs)
