-- What is beneath the names of a value, as the code has it.
use Rattle.std.specs.Borrow.{Bor}
use Rattle.rp_numbers.specs.Decimals.{scaled, scaled_whole}
use Rattle.rp_operations.specs.Seen.{Seen, Indeterminate, Number, Text, Bits, Truth, Item, Instance, Aggregate}
use Rattle.rp_operators.specs.declared.bare.Bare.{Bare}
use Rattle.rp_operators.specs.declared.bare.Bare.TheVariants as b
use Rattle.rp_value.specs.Elements.{Elements}
use Rattle.rp_value.specs.declared.value.AggregateKind.{AggregateKind}
use Rattle.rp_value.specs.declared.value.Value.{Value}
use Rattle.rp_value.specs.declared.value.Value.TheOpen.{Value-F}

-- as a value
abbrev pub opened : Bare → Value-F Value
opened b.Indeterminate = Value-F.Indet
opened (b.Integer n) = Value-F.Int n
opened (b.Real d) = Value-F.Dec d.now
opened (b.Text text) = Value-F.Str text.now
opened (b.Bits bits) = Value-F.Bin bits.now
opened (b.Truth x) = Value-F.Log x
opened (b.Item enumeration place) = Value-F.Item enumeration place
opened (b.Instance place) = Value-F.Inst place
opened (b.Aggregate kind elements) = Value-F.Agg kind elements.now

-- as comparisons see it
abbrev pub seen_by : Bare → Seen
seen_by b.Indeterminate = Indeterminate
seen_by (b.Integer n) = Number (scaled_whole n)
seen_by (b.Real d) = Number (scaled d.now)
seen_by (b.Text text) = Text text.now
seen_by (b.Bits bits) = Bits bits.now
seen_by (b.Truth x) = Truth x
seen_by (b.Item enumeration place) = Item enumeration place
seen_by (b.Instance place) = Instance place
seen_by (b.Aggregate kind elements) = Aggregate kind elements.now

-- the aggregate behind a reference to its elements
abbrev pub aggregate_behind : AggregateKind × Bor (Elements Value) → AggregateKind × Elements Value
aggregate_behind a = (a.0, a.1.now)
