-- Values as comparisons see them: without the names of defined types, and INTEGER, REAL and NUMBER alike.
use Rattle.std.specs.Prelude.{ℕ, ℤ, suc, max, Bool, true, false, ◌==◌, List, [], ◌∷◌, map}
use Rattle.std.specs.List.{list_any}
use Rattle.rp_numbers.specs.Decimals.{scaled, scaled_whole}
use Rattle.rp_numbers.specs.declared.Logical.{Logical}
use Rattle.rp_value.specs.Elements.{Elements}
use Rattle.rp_value.specs.declared.value.AggregateKind.{AggregateKind}
use Rattle.rp_value.specs.declared.value.Value.{Value}
use Rattle.rp_value.specs.declared.value.Value.TheFolds.{fold-Value, map-Value}
use Rattle.rp_value.specs.declared.value.Value.TheOpen.{Value-F}
use Rattle.rp_value.specs.declared.value.Value.TheViews.{roll-Value}

pub data Seen : Type 0 where
  Indeterminate : Seen
  -- times 10^1000, which makes a whole number of each decimal
  Number : ℤ → Seen
  -- as UTF-8
  Text : List ℕ → Seen
  Bits : List Bool → Seen
  Truth : Logical → Seen
  Item : ℕ → ℕ → Seen
  Instance : ℕ → Seen
  Aggregate : AggregateKind → Elements Value → Seen

-- of values, each beside what is seen of it
abbrev pub seen_layer : Value-F (Value × Seen) → Seen
seen_layer Value-F.Indet = Indeterminate
seen_layer (Value-F.Int n) = Number (scaled_whole n)
seen_layer (Value-F.Dec d) = Number (scaled d)
seen_layer (Value-F.Str text) = Text text
seen_layer (Value-F.Bin bits) = Bits bits
seen_layer (Value-F.Log x) = Truth x
seen_layer (Value-F.Item enumeration place) = Item enumeration place
seen_layer (Value-F.Inst name) = Instance name
seen_layer (Value-F.Agg kind elements) = Aggregate kind (record { low = elements.low; items = map (λ x. x.0) elements.items })
seen_layer (Value-F.Named n x) = x.1

abbrev pub with_seen : Value-F (Value × Seen) → Value × Seen
with_seen x = (roll-Value (map-Value (Value × Seen) Value (λ y. y.0) x), seen_layer x)

unfoldable pub seen : Value → Seen
seen x = (fold-Value (Value × Seen) with_seen x).1

abbrev pub is_indeterminate : Seen → Bool
is_indeterminate Indeterminate = true
is_indeterminate s = false

-- INTEGER and REAL are of one kind, and so are all aggregates; each enumeration is a kind of its own, and `?` is of none
abbrev pub same_kind : Seen → Seen → Bool
same_kind (Number n) (Number m) = true
same_kind (Text s) (Text t) = true
same_kind (Bits s) (Bits t) = true
same_kind (Truth x) (Truth y) = true
same_kind (Item enumeration place) (Item other at) = enumeration == other
same_kind (Instance name) (Instance other) = true
same_kind (Aggregate kind xs) (Aggregate other ys) = true
same_kind s t = false

abbrev pub instance_layer : Value-F Bool → Bool
instance_layer (Value-F.Inst name) = true
instance_layer (Value-F.Agg kind found) = list_any (λ b. b) found.items
instance_layer (Value-F.Named n found) = found
instance_layer x = false

-- whether the value is an instance, or holds one at any depth
unfoldable pub holds_instance : Value → Bool
holds_instance = fold-Value Bool instance_layer

abbrev pub greatest : List ℕ → ℕ
greatest [] = 0
greatest (n ∷ numbers) = max n (greatest numbers)

abbrev pub depth_layer : Value-F ℕ → ℕ
depth_layer (Value-F.Agg kind depths) = suc (greatest depths.items)
depth_layer (Value-F.Named n depth) = depth
depth_layer x = 0

-- how many aggregates are one within the other
unfoldable pub depth : Value → ℕ
depth = fold-Value ℕ depth_layer
