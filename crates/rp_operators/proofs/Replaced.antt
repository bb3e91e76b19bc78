-- Values of which references that leave a population are `?`, variant by variant.
use Rattle.std.proofs.Common.{◌≡◌, ℕ, map, ◌∙◌, ap, sym}
use Rattle.rp_value.specs.Elements.{Elements}
use Rattle.rp_value.specs.declared.value.AggregateKind.{AggregateKind}
use Rattle.rp_value.specs.declared.value.Value.{Value}
use Rattle.rp_value.specs.declared.value.Value.TheFolds.{fold-roll-Value}
use Rattle.rp_value.specs.declared.value.Value.TheOpen.{Value-F}
use Rattle.rp_value.specs.declared.value.Value.TheVariants as v
use Rattle.rp_meaning.specs.Reading.{present, present_in}

pub present-aggregate : (count : ℕ) (x : Value) (kind : AggregateKind) (elements : Elements Value) → x ≡ v.Agg kind elements
    → present count x ≡ v.Agg kind (record { low = elements.low; items = map (present count) elements.items })
unfolding present
present-aggregate count x kind elements is =
    ap (present count) is ∙ ap (present count) (sym (v.rolls-Agg kind elements)) ∙ fold-roll-Value Value (present_in count) (Value-F.Agg kind elements)
    ∙ v.rolls-Agg kind (record { low = elements.low; items = map (present count) elements.items })
