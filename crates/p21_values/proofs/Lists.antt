-- What a list means.
use Rattle.std.proofs.Common.{◌≡◌, List, map, sym, ◌∙◌, ap}
use Rattle.ex_named.specs.declared.declaration.NamedType.{NamedType}
use Rattle.p21_tree.specs.declared.value.Value.{Value}
use Rattle.p21_tree.specs.declared.value.Value.TheFolds.{fold-roll-Value}
use Rattle.p21_tree.specs.declared.value.Value.TheOpen.{Value-F}
use Rattle.p21_tree.specs.declared.value.Value.TheVariants as v
use Rattle.p21_values.specs.Taking.{Meaning, layer, meaning}

pub list_meaning : (types : List NamedType) (x : Value) (values : List Value) → x ≡ v.List values
    → meaning types x ≡ layer types (Value-F.List (map (meaning types) values))
unfolding meaning
list_meaning types x values is =
    ap (meaning types) is ∙ ap (meaning types) (sym (v.rolls-List values)) ∙ fold-roll-Value Meaning (layer types) (Value-F.List values)
