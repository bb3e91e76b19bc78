-- A SET of elements.
use Rattle.std.proofs.Common.{◌≡◌, ℤ, List, [], sym, ◌∙◌, ap}
use Rattle.rp_meaning.specs.Types.{of_kind}
use Rattle.rp_operations.specs.Operations.{union, union_seen, set_union, aggregate}
use Rattle.rp_operators.proofs.Sights.{sees-Agg}
use Rattle.rp_value.specs.declared.value.AggregateKind.TheVariants as k
use Rattle.rp_value.specs.declared.value.Value.{Value}

-- elements beside those of the empty SET
pub once : (x y : Value) (low from : ℤ) (none items : List Value) → x ≡ aggregate k.Set low none → none ≡ [] → y ≡ aggregate k.Initializer from items → union x y ≡ of_kind (k.Set, low) items
unfolding union
once x y low from none items is empty at =
    (λ i. union_seen x y (sym (sees-Agg x k.Set (record { low = low; items = none }) is) i) (sym (sees-Agg y k.Initializer (record { low = from; items = items }) at) i))
    ∙ ap (λ zs. aggregate k.Set low (set_union zs items)) empty
