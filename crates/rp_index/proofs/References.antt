-- What aggregates refer to.
use Rattle.std.proofs.Common.{◌≡◌, ℕ, List, sym, ◌∙◌, ap}
use Rattle.std.proofs.lemmas.List.Folds.{flat_map-map}
use Rattle.std.specs.List.{flat_map}
use Rattle.rp_value.specs.Elements.{Elements}
use Rattle.rp_value.specs.declared.value.AggregateKind.{AggregateKind}
use Rattle.rp_value.specs.declared.value.Value.{Value}
use Rattle.rp_value.specs.declared.value.Value.TheFolds.{fold-roll-Value}
use Rattle.rp_value.specs.declared.value.Value.TheOpen.{Value-F}
use Rattle.rp_value.specs.declared.value.Value.TheVariants as v
use Rattle.rp_rows.specs.Contents.{referred, references}

pub references-elements : (x : Value) (kind : AggregateKind) (elements : Elements Value) → x ≡ v.Agg kind elements → references x ≡ flat_map references elements.items
references-elements x kind elements is =
    ap references is ∙ ap references (sym (v.rolls-Agg kind elements)) ∙ fold-roll-Value (List ℕ) referred (Value-F.Agg kind elements)
    ∙ flat_map-map (λ found. found) references elements.items
