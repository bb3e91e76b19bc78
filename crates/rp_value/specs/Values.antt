-- Parts of values.
use Rattle.std.specs.Prelude.{List, Option, Some, None}
use Rattle.rp_value.specs.declared.value.Value.{Value, out-Value}
use Rattle.rp_value.specs.declared.value.Value.TheOpen.{Value-F}

abbrev pub elements_in : Value-F Value → Option (List Value)
elements_in (Value-F.Agg kind elements) = Some elements.items
elements_in _ = None

-- of an aggregate
abbrev pub elements_of : Value → Option (List Value)
elements_of x = elements_in (out-Value x)
