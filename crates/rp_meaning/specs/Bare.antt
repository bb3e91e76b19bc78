-- Values without the defined types that they carry.
use Rattle.std.specs.Prelude.{ℕ, ℤ, Bool, true, false, Option, Some, None, List}
use Rattle.rp_numbers.specs.declared.Logical.TheVariants as l
use Rattle.rp_value.specs.Elements.{Elements}
use Rattle.rp_value.specs.declared.value.AggregateKind.{AggregateKind}
use Rattle.rp_value.specs.declared.value.Value.{Value, out-Value}
use Rattle.rp_value.specs.declared.value.Value.TheFolds.{fold-Value, map-Value}
use Rattle.rp_value.specs.declared.value.Value.TheOpen.{Value-F}
use Rattle.rp_value.specs.declared.value.Value.TheViews.{roll-Value}

-- of values, each beside what it is without names
abbrev pub itself_and_bare : Value-F (Value × Value) → Value × Value
itself_and_bare (Value-F.Named n x) = (roll-Value (Value-F.Named n x.0), x.1)
itself_and_bare x = (roll-Value (map-Value (Value × Value) Value (λ y. y.0) x), roll-Value (map-Value (Value × Value) Value (λ y. y.0) x))

-- without the names of defined types that stand around it
unfoldable pub bare : Value → Value
bare x = (fold-Value (Value × Value) itself_and_bare x).1

abbrev pub carried_by : Value-F Value → Option ℕ
carried_by (Value-F.Named n x) = Some n
carried_by _ = None

-- the defined type that a value carries
abbrev pub carried : Value → Option ℕ
carried x = carried_by (out-Value x)

-- ---- what a bare value is

abbrev pub is_indeterminate_in : Value-F Value → Bool
is_indeterminate_in Value-F.Indet = true
is_indeterminate_in _ = false

-- `?`
abbrev pub is_indeterminate : Value → Bool
is_indeterminate x = is_indeterminate_in (out-Value (bare x))

abbrev pub integer_in : Value-F Value → Option ℤ
integer_in (Value-F.Int n) = Some n
integer_in _ = None

-- of a value of INTEGER
abbrev pub integer_of : Value → Option ℤ
integer_of x = integer_in (out-Value (bare x))

abbrev pub text_in : Value-F Value → Option (List ℕ)
text_in (Value-F.Str text) = Some text
text_in _ = None

-- of a value of STRING, as UTF-8
abbrev pub text_of : Value → Option (List ℕ)
text_of x = text_in (out-Value (bare x))

abbrev pub bits_in : Value-F Value → Option (List Bool)
bits_in (Value-F.Bin bits) = Some bits
bits_in _ = None

-- of a value of BINARY
abbrev pub bits_of : Value → Option (List Bool)
bits_of x = bits_in (out-Value (bare x))

abbrev pub place_in : Value-F Value → Option ℕ
place_in (Value-F.Inst place) = Some place
place_in _ = None

-- of an instance
abbrev pub place_of : Value → Option ℕ
place_of x = place_in (out-Value (bare x))

abbrev pub aggregate_in : Value-F Value → Option (AggregateKind × Elements Value)
aggregate_in (Value-F.Agg kind elements) = Some (kind, elements)
aggregate_in _ = None

-- of an aggregate: its kind, and its elements
abbrev pub aggregate_of : Value → Option (AggregateKind × Elements Value)
aggregate_of x = aggregate_in (out-Value (bare x))

abbrev pub is_true_in : Value-F Value → Bool
is_true_in (Value-F.Log l.True) = true
is_true_in _ = false

-- Whether a condition holds: for TRUE alone.
abbrev pub is_true : Value → Bool
is_true x = is_true_in (out-Value (bare x))
