-- The keys of aggregates, variant by variant of a value.
use Rattle.std.proofs.Common.{◌≡◌, ℕ, sym, ap, ◌∙◌}
use Rattle.rp_operations.specs.Seen.{seen}
use Rattle.rp_operators.proofs.Sights.{sees-Agg, sees-Bin, sees-Dec, sees-Indet, sees-Inst, sees-Int, sees-Item, sees-Log, sees-Named, sees-Str}
use Rattle.rp_faults.specs.Keys.{aggregate_key, elements_key}
use Rattle.rp_value.specs.Elements.{Elements}
use Rattle.rp_value.specs.declared.value.AggregateKind.{AggregateKind}
use Rattle.rp_value.specs.declared.value.Value.{Value, out-Value}
use Rattle.rp_value.specs.declared.value.Value.TheOpen.{Value-F}
use Rattle.rp_value.specs.declared.value.Value.TheVariants as v
use Rattle.rp_value.specs.declared.value.Value.TheViews.{roll-Value, roll-out-Value}

pub of-elements : (x : Value) (kind : AggregateKind) (elements : Elements Value) → x ≡ v.Agg kind elements → elements_key elements.items ≡ aggregate_key (seen x)
of-elements x kind elements is = ap aggregate_key (sees-Agg x kind elements is)

pub of-named : (x : Value) (n : ℕ) (y : Value) → x ≡ v.Named n y → aggregate_key (seen y) ≡ aggregate_key (seen x)
of-named x n y is = ap aggregate_key (sees-Named x n y is)

pub ruleset keys = (of-elements, of-named)

elementless : (y : Value-F Value) → ((kind : AggregateKind) (xs : Elements Value) → roll-Value y ≡ v.Agg kind xs → ⊥) → ((n : ℕ) (z : Value) → roll-Value y ≡ v.Named n z → ⊥) → 0 ≡ aggregate_key (seen (roll-Value y))
elementless Value-F.Indet never other = ap aggregate_key (sees-Indet (roll-Value Value-F.Indet) v.rolls-Indet)
elementless (Value-F.Int n) never other = ap aggregate_key (sees-Int (roll-Value (Value-F.Int n)) n (v.rolls-Int n))
elementless (Value-F.Dec d) never other = ap aggregate_key (sees-Dec (roll-Value (Value-F.Dec d)) d (v.rolls-Dec d))
elementless (Value-F.Str text) never other = ap aggregate_key (sees-Str (roll-Value (Value-F.Str text)) text (v.rolls-Str text))
elementless (Value-F.Bin bits) never other = ap aggregate_key (sees-Bin (roll-Value (Value-F.Bin bits)) bits (v.rolls-Bin bits))
elementless (Value-F.Log x) never other = ap aggregate_key (sees-Log (roll-Value (Value-F.Log x)) x (v.rolls-Log x))
elementless (Value-F.Item n place) never other = ap aggregate_key (sees-Item (roll-Value (Value-F.Item n place)) n place (v.rolls-Item n place))
elementless (Value-F.Inst name) never other = ap aggregate_key (sees-Inst (roll-Value (Value-F.Inst name)) name (v.rolls-Inst name))
elementless (Value-F.Agg kind xs) never other = absurd (never kind xs (v.rolls-Agg kind xs))
elementless (Value-F.Named n z) never other = absurd (other n z (v.rolls-Named n z))

-- what is neither an aggregate nor named
pub no-elements : (x : Value) → ((kind : AggregateKind) (xs : Elements Value) → x ≡ v.Agg kind xs → ⊥) → ((n : ℕ) (y : Value) → x ≡ v.Named n y → ⊥) → 0 ≡ aggregate_key (seen x)
no-elements x never other =
    elementless (out-Value x) (λ kind xs is. never kind xs (sym (roll-out-Value x) ∙ is)) (λ n y is. other n y (sym (roll-out-Value x) ∙ is))
    ∙ ap (λ (z : Value). aggregate_key (seen z)) (roll-out-Value x)
