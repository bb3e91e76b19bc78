-- `+` of an aggregate and an element, which stands behind the others but in a SET.
use Rattle.std.proofs.Common.{◌≡◌, true, false, if◌then◌else◌, [], ◌∷◌, ◌++◌, sym, ◌∙◌, ap, subst}
use Rattle.rp_operations.proofs.Sights.{sees-Agg}
use Rattle.rp_operations.proofs.Taking.{Yes}
use Rattle.rp_operations.specs.Operations.{aggregate, is_element, is_set, joined, set_union, union, union_seen}
use Rattle.rp_operations.specs.Seen.{Seen, Indeterminate, Number, Text, Bits, Truth, Item, Instance, Aggregate, seen}
use Rattle.rp_value.specs.Elements.{Elements}
use Rattle.rp_value.specs.declared.value.AggregateKind.{AggregateKind}
use Rattle.rp_value.specs.declared.value.Value.{Value}
use Rattle.rp_value.specs.declared.value.Value.TheVariants as v

module _ (x y : Value) (kind : AggregateKind) (xs : Elements Value) where
  joins : is_set kind ≡ false → aggregate kind xs.low (xs.items ++ y ∷ []) ≡ aggregate kind xs.low (joined kind xs.items (y ∷ []))
  joins h = ap (λ b. aggregate kind xs.low (if b then set_union xs.items (y ∷ []) else xs.items ++ y ∷ [])) (sym h)

  stands : (s : Seen) → is_element s ≡ true → is_set kind ≡ false → aggregate kind xs.low (xs.items ++ y ∷ []) ≡ union_seen x y (Aggregate kind xs) s
  stands Indeterminate e h = absurd (subst Yes (sym e) tt)
  stands (Aggregate other ys) e h = absurd (subst Yes (sym e) tt)
  stands (Number n) e h = joins h
  stands (Text t) e h = joins h
  stands (Bits b) e h = joins h
  stands (Truth l) e h = joins h
  stands (Item n place) e h = joins h
  stands (Instance name) e h = joins h

  pub stands_behind : v.Agg kind xs ≡ x → is_element (seen y) ≡ true → is_set kind ≡ false → aggregate kind xs.low (xs.items ++ y ∷ []) ≡ union x y
  unfolding union
  stands_behind is e h = stands (seen y) e h ∙ ap (λ s. union_seen x y s (seen y)) (sees-Agg x kind xs (sym is))
