-- Values in which references are positions, part by part.
use Rattle.std.proofs.Common.{◌≡◌, ℕ, List, map, sym, ◌∙◌, ap}
use Rattle.rp_value.specs.Elements.{Elements}
use Rattle.rp_value.specs.declared.value.AggregateKind.{AggregateKind}
use Rattle.rp_value.specs.declared.value.Value.{Value}
use Rattle.rp_value.specs.declared.value.Value.TheFolds.{fold-roll-Value}
use Rattle.rp_value.specs.declared.value.Value.TheOpen.{Value-F}
use Rattle.rp_value.specs.declared.value.Value.TheVariants as v
use Rattle.rp_positions.specs.Positions.{positioned, positioned_in}

module _ (position : ℕ → ℕ) where
  pub positioned-aggregate : (x : Value) (kind : AggregateKind) (elements : Elements Value) → x ≡ v.Agg kind elements
      → positioned position x ≡ v.Agg kind (record { low = elements.low; items = map (positioned position) elements.items })
  unfolding positioned
  positioned-aggregate x kind elements same =
      ap (positioned position) same ∙ ap (positioned position) (sym (v.rolls-Agg kind elements)) ∙ fold-roll-Value Value (positioned_in position) (Value-F.Agg kind elements)
      ∙ v.rolls-Agg kind (record { low = elements.low; items = map (positioned position) elements.items })

  positioned-named : (defined_type : ℕ) (x : Value) → positioned position (v.Named defined_type x) ≡ v.Named defined_type (positioned position x)
  unfolding positioned
  positioned-named defined_type x =
      ap (positioned position) (sym (v.rolls-Named defined_type x)) ∙ fold-roll-Value Value (positioned_in position) (Value-F.Named defined_type x)
      ∙ v.rolls-Named defined_type (positioned position x)

  -- where nothing in it changes, a value is as it was
  pub itself-aggregate : (x : Value) (kind : AggregateKind) (elements : Elements Value) → x ≡ v.Agg kind elements
      → map (positioned position) elements.items ≡ elements.items → positioned position x ≡ x
  itself-aggregate x kind elements same all =
      positioned-aggregate x kind elements same ∙ ap (λ (xs : List Value). v.Agg kind (record { low = elements.low; items = xs })) all ∙ sym same

  pub itself-named : (x : Value) (defined_type : ℕ) (y : Value) → x ≡ v.Named defined_type y → positioned position y ≡ y → positioned position x ≡ x
  itself-named x defined_type y same inner = ap (positioned position) same ∙ positioned-named defined_type y ∙ ap (v.Named defined_type) inner ∙ sym same
