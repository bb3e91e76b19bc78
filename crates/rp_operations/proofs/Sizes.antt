-- The elements that are seen of a value are smaller than the value.
use Rattle.std.proofs.Common.{◌≡◌, ℕ, suc, ◌+◌, ◌≤◌, ◌<◌, map, sym, ◌∙◌, ap, subst, arith}
use denote.Param.Weighed.{most}
use Rattle.rp_value.specs.Elements.{Elements}
use Rattle.rp_operations.specs.Seen.{Seen, Aggregate, with_seen, seen}
use Rattle.rp_value.specs.declared.value.AggregateKind.{AggregateKind}
use Rattle.rp_value.specs.declared.value.Value.{Value, size-Value, size_is-Value, out-roll-Value}
use Rattle.rp_value.specs.declared.value.Value.TheBlock.{weighs-Value, the_depth, the_members, the_sigs, the_carrier}
use Rattle.rp_value.specs.declared.value.Value.TheFolds.{ind-Value, map-Value}
use Rattle.rp_value.specs.declared.value.Value.TheOpen.{Value-F}
use Rattle.rp_value.specs.declared.value.Value.TheViews.{roll-Value}
use denote.Hole.Carrier.{Values}
use Rattle.rp_operations.proofs.Sights.{both, all_itself, seen-rolls}

abbrev size_seen : Seen → ℕ
size_seen (Aggregate kind xs) = suc (most size-Value xs.items)
size_seen s = 0

abbrev weight : Value-F Value → ℕ
weight z = weighs-Value.weight (Values the_members the_sigs the_carrier) the_depth z

abbrev IsSized : Value → Type 0
IsSized x = size_seen (seen x) ≤ size-Value x

abbrev Sized : Type 0
Sized = (x : Value) × IsSized x

abbrev opened : Value-F Sized → Value-F Value
opened = map-Value Sized Value (λ p. p.0)

layer_sized : (y : Value-F Sized) → size_seen (with_seen (map-Value Value (Value × Seen) both (opened y))).1 ≤ weight (opened y) + 1
unfolding seen
layer_sized (Value-F.Agg kind elements) = subst (λ xs. suc (most size-Value xs) ≤ weight (opened (Value-F.Agg kind elements)) + 1) (sym (all_itself (map (λ p. p.0) elements.items))) (omega arith)
layer_sized (Value-F.Named n p) = let h = p.1 in omega arith
layer_sized y = omega arith

pub sizes : (x : Value) → IsSized x
sizes = ind-Value IsSized (λ x y is. subst (λ z. IsSized (roll-Value z)) is (
    let z = opened y in
    let weighed : size-Value (roll-Value z) ≡ weight z + 1 = size_is-Value (roll-Value z) ∙ ap (λ o. weight o + 1) (out-roll-Value z) in
    subst (λ m. size_seen (seen (roll-Value z)) ≤ m) (sym weighed)
    (subst (λ m. m ≤ weight z + 1) (ap size_seen (seen-rolls z)) (layer_sized y))))

pub elements_smaller : (x : Value) (kind : AggregateKind) (xs : Elements Value) → Aggregate kind xs ≡ seen x → most size-Value xs.items < size-Value x
elements_smaller x kind xs is = let h = subst (λ s. size_seen s ≤ size-Value x) (sym is) (sizes x) in omega arith
