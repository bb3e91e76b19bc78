-- Aggregates of the same parts.
use Rattle.std.proofs.Common.{◌≡◌, ℤ, List, ◌∙◌, ap}
use Rattle.rp_value.specs.Elements.{Elements}
use Rattle.rp_value.specs.declared.value.AggregateKind.{AggregateKind}
use Rattle.rp_value.specs.declared.value.Value.{Value}
use Rattle.rp_value.specs.declared.value.Value.TheVariants as v

elements_same : (xs ys : Elements Value) → xs.low ≡ ys.low → xs.items ≡ ys.items → xs ≡ ys
elements_same xs ys low items =
    ap (λ (n : ℤ). let e : Elements Value = record { low = n; items = xs.items } in e) low ∙ ap (λ (is : List Value). let e : Elements Value = record { low = ys.low; items = is } in e) items

-- aggregates of the same parts
pub agg_same : (kind other : AggregateKind) (xs ys : Elements Value) → kind ≡ other → xs.low ≡ ys.low → xs.items ≡ ys.items → v.Agg kind xs ≡ v.Agg other ys
agg_same kind other xs ys k low items =
    ap (λ e. v.Agg kind e) (elements_same xs ys low items) ∙ ap (λ k. v.Agg k ys) k
