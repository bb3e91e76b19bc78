-- The tree that canonical text spells for what a model holds (ISO 10303-21:2002, clauses 8 to 10): keywords and items in upper
-- case, as the schema has them; a keyword for each value under the name of a type; one record where the instance has one leaf,
-- else one for each entity.
use Rattle.std.specs.Prelude.{ℕ, Bool, false, if◌then◌else◌, List, [], ◌∷◌, length, map, take, drop, None, codes, slice_get, slice_index_or}
use Rattle.std.specs.Fmt.{signed_decimal}
use Rattle.std.specs.Option.{option_map_or}
use Rattle.plain_data.specs.Numbers.{numbered}
use Rattle.ex_named.specs.declared.declaration.NamedEntity.{NamedEntity}
use Rattle.ex_named.specs.declared.declaration.NamedType.{NamedType}
use Rattle.ex_named.specs.declared.declaration.NamedUnderlying.{NamedUnderlying}
use Rattle.ex_named.specs.declared.declaration.NamedUnderlying.TheVariants as u
use Rattle.ex_layouts.specs.Entities.{entities}
use Rattle.ex_layouts.specs.Layouts.{leaf_slots, slots_in}
use Rattle.ex_slots.specs.Slots.{Slot}
use Rattle.ex_tree.specs.declared.expression.Name.{Name}
use Rattle.ex_schemas.specs.Schemas.{Checked}
use Rattle.p21_escapes.specs.Encoding.{encoded}
use Rattle.p21_tree.specs.declared.header.Header as spelled_header
use Rattle.p21_tree.specs.declared.header.HeaderValue.{HeaderValue}
use Rattle.p21_tree.specs.declared.header.HeaderValue.TheVariants as h
use Rattle.p21_tree.specs.declared.instance.Instance as spelled
use Rattle.p21_tree.specs.declared.instance.Mapping.{Mapping}
use Rattle.p21_tree.specs.declared.instance.Mapping.TheVariants.{Internal, External}
use Rattle.p21_tree.specs.declared.instance.Record.{Record}
use Rattle.p21_tree.specs.declared.raw.Raw.{Raw}
use Rattle.p21_tree.specs.declared.value.Value as tree
use Rattle.p21_tree.specs.declared.value.Value.TheVariants as t
use Rattle.p21_spelling.specs.Files.{file_text}
use Rattle.p21_canonical.specs.Binaries.{binary}
use Rattle.rp_content.specs.declared.content.Content.{Content}
use Rattle.rp_content.specs.declared.header.Header.{Header}
use Rattle.rp_content.specs.declared.instance.Instance.{Instance}
use Rattle.rp_content.specs.declared.instance.Entities.{Entities}
use Rattle.rp_content.specs.declared.instance.Entities.TheVariants.{Leaf, Several}
use Rattle.rp_numbers.specs.Written.{written}
use Rattle.rp_numbers.specs.declared.Logical.{Logical}
use Rattle.rp_numbers.specs.declared.Logical.TheVariants as l
use Rattle.rp_value.specs.declared.value.Value.{Value}
use Rattle.rp_value.specs.declared.value.Value.TheFolds.{fold-Value}
use Rattle.rp_value.specs.declared.value.Value.TheOpen.{Value-F}

-- ---- names; none for a number that names nothing

abbrev pub entity_name : List NamedEntity → ℕ → List ℕ
entity_name entities n = option_map_or (λ e. e.name.text) (slice_get entities n) []

abbrev pub type_name : List NamedType → ℕ → List ℕ
type_name types n = option_map_or (λ x. x.name.text) (slice_get types n) []

abbrev pub items_of : NamedUnderlying → List Name
items_of (u.Enumeration items) = items
items_of (u.Select members) = []
items_of (u.Data data_type) = []

abbrev pub item_name : List NamedType → ℕ → ℕ → List ℕ
item_name types n place = option_map_or (λ i. i.text) (slice_get (option_map_or (λ x. items_of x.underlying) (slice_get types n) []) place) []

abbrev pub logical_name : Logical → List ℕ
logical_name l.False = codes "F"
logical_name l.Unknown = codes "U"
logical_name l.True = codes "T"

-- ---- values

abbrev pub layer : List NamedType → Value-F tree.Value → tree.Value
layer types Value-F.Indet = t.Unset
layer types (Value-F.Int n) = t.Integer (signed_decimal n)
layer types (Value-F.Dec d) = t.Real (written d)
layer types (Value-F.Str text) = t.Text (encoded text)
layer types (Value-F.Bin bits) = t.Binary (binary bits)
layer types (Value-F.Log x) = t.Item (logical_name x)
layer types (Value-F.Item n place) = t.Item (item_name types n place)
layer types (Value-F.Inst name) = t.Reference name
layer types (Value-F.Agg kind elements) = t.List elements.items
layer types (Value-F.Named n value) = t.Typed (type_name types n) value

unfoldable pub value_tree : List NamedType → Value → tree.Value
value_tree types = fold-Value tree.Value (layer types)

-- values of the header: texts, `$`, and lists of these
abbrev pub header_layer : Value-F HeaderValue → HeaderValue
header_layer (Value-F.Str text) = h.Text (encoded text)
header_layer (Value-F.Agg kind elements) = h.List elements.items
header_layer _ = h.Unset

unfoldable pub header_value_tree : Value → HeaderValue
header_value_tree = fold-Value HeaderValue header_layer

abbrev pub header_tree : Header → spelled_header.Header
header_tree header = record { description = map header_value_tree header.description; name = map header_value_tree header.name }

-- ---- attributes: `*` where one is derived

abbrev pub attribute_tree : List NamedType → Bool → Value → tree.Value
attribute_tree types is_derived value = if is_derived then t.Derived else value_tree types value

-- by their places
abbrev pub attribute_at : List NamedType → List Bool → ℕ → Value → tree.Value
attribute_at types marks place value = attribute_tree types (slice_index_or marks place false) value

abbrev pub attributes : List NamedType → List Bool → List Value → List tree.Value
attributes types marks values = numbered (attribute_at types marks) values

-- ---- the parts of an instance

-- an entity, and which of the attributes that it writes are derived
pub record Part : Type 0 where
  pub entity : ℕ
  pub marks : List Bool

abbrev pub marks_of : List Slot → List Bool
marks_of slots = map (λ s. s.is_derived) slots

abbrev pub part : ℕ → List Slot → Part
part entity slots = record { entity = entity; marks = marks_of slots }

-- an entity with what its place has of these lists
abbrev pub own_part : List (List Slot) → ℕ → ℕ → Part
own_part each place entity = part entity (slice_index_or each place [])

-- ---- what a schema says

module _ (schema : Checked) where
  abbrev pub types : List NamedType
  types = schema.named.schema.types

  -- a leaf with its attributes and those of the entities above it
  abbrev pub leaf_part : ℕ → Part
  leaf_part leaf = part leaf (leaf_slots schema leaf)

  -- of each entity its own attributes, in an instance of these entities
  abbrev pub own_parts : List ℕ → List Part
  own_parts all = numbered (own_part (slots_in schema all)) all

  -- ---- instances

  abbrev pub record_of : Part → List Value → Record
  record_of part values = record { keyword = entity_name (entities schema) part.entity; values = attributes types part.marks values }

  -- of each part with its own values
  abbrev pub records : List Part → List Value → List Record
  records [] values = []
  records (p ∷ ps) values = record_of p (take (length p.marks) values) ∷ records ps (drop (length p.marks) values)

  abbrev pub mapping : Entities → List Value → Mapping
  mapping (Leaf leaf) values = Internal (record_of (leaf_part leaf) values)
  mapping (Several all) values = External (records (own_parts all) values)

  abbrev pub instance_tree : Instance → spelled.Instance
  instance_tree i = record { name = i.name; mapping = mapping i.entities i.values }

  -- ---- what a model holds

  abbrev pub content_tree : Content → Raw
  content_tree content = record {
    header = header_tree content.header;
    schema = encoded schema.named.schema.name.text;
    section = None;
    instances = map instance_tree content.instances;
  }

  unfoldable pub canonical : Content → List ℕ
  canonical content = file_text (content_tree content)
