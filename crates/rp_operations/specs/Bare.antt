-- What is seen of a value, as the code has it.
use Rattle.rp_operations.specs.Seen.{Seen, Indeterminate, Number, Text, Bits, Truth, Item, Instance, Aggregate}
use Rattle.rp_numbers.specs.Decimals.{scaled, scaled_whole}
use Rattle.rp_operations.specs.declared.bare.Bare.{Bare}
use Rattle.rp_operations.specs.declared.bare.Bare.TheVariants as b

abbrev pub seen_by : Bare → Seen
seen_by b.Indeterminate = Indeterminate
seen_by (b.Integer n) = Number (scaled_whole n)
seen_by (b.Real d) = Number (scaled d.now)
seen_by (b.Text text) = Text text.now
seen_by (b.Bits bits) = Bits bits.now
seen_by (b.Truth x) = Truth x
seen_by (b.Item enumeration place) = Item enumeration place
seen_by (b.Instance name) = Instance name
seen_by (b.Aggregate kind elements) = Aggregate kind elements.now
