-- TYPEOF: the names of the types of a value (ISO 10303-11:1994, 15.25).
use Rattle.std.specs.Prelude.{ℕ, List, [], ◌∷◌, ◌++◌, map, filter, Option, Some, None, if◌then◌else◌, slice_get, codes}
use Rattle.std.specs.List.{filter_map}
use Rattle.std.specs.Option.{option_map, option_map_or}
use Rattle.plain_data.specs.Numbers.{is_among}
use Rattle.rp_numbers.specs.declared.Logical.{Logical}
use Rattle.rp_numbers.specs.declared.Logical.TheVariants as l
use Rattle.rp_value.specs.declared.value.AggregateKind.{AggregateKind}
use Rattle.rp_value.specs.declared.value.AggregateKind.TheVariants as k
use Rattle.rp_value.specs.declared.value.Value.{Value, out-Value}
use Rattle.rp_value.specs.declared.value.Value.TheOpen.{Value-F}
use Rattle.rp_value.specs.declared.value.Value.TheVariants as v
use Rattle.rp_meaning.specs.declared.schema.Schema.{Schema}
use Rattle.rp_meaning.specs.Bare.{bare, carried}
use Rattle.rp_meaning.specs.Populations.{Instance, is_of}

abbrev pub aggregate_name : AggregateKind → List ℕ
aggregate_name k.Array = codes "ARRAY"
aggregate_name k.List = codes "LIST"
aggregate_name k.Bag = codes "BAG"
aggregate_name k.Set = codes "SET"
aggregate_name k.Initializer = codes "LIST"

abbrev pub logical_names : Logical → List (List ℕ)
logical_names l.Unknown = codes "LOGICAL" ∷ []
logical_names _ = codes "BOOLEAN" ∷ codes "LOGICAL" ∷ []

module _ (schema : Schema) (population : List Instance) where
  abbrev pub type_name : ℕ → Option (List ℕ)
  type_name number = option_map (λ x. x.name) (slice_get schema.types number)

  abbrev pub entity_name : ℕ → Option (List ℕ)
  entity_name number = option_map (λ x. x.name) (slice_get schema.entities number)

  -- a defined type, and those beneath it
  abbrev pub defined_types : Option ℕ → List ℕ
  defined_types None = []
  defined_types (Some number) = number ∷ option_map_or (λ x. x.beneath) (slice_get schema.types number) []

  -- the enumeration's type, where it is not yet named
  abbrev pub with_enumeration : List ℕ → Value-F Value → List ℕ
  with_enumeration numbers (Value-F.Item enumeration place) = if is_among numbers enumeration then numbers else numbers ++ enumeration ∷ []
  with_enumeration numbers _ = numbers

  -- the entities of an instance, in the order of their names
  abbrev pub entity_names : Option Instance → List (List ℕ)
  entity_names None = []
  entity_names (Some i) = filter_map entity_name (filter (is_of i) schema.entity_order)

  abbrev pub simple_names : Value-F Value → List (List ℕ)
  simple_names Value-F.Indet = []
  simple_names (Value-F.Int n) = codes "INTEGER" ∷ []
  simple_names (Value-F.Dec x) = codes "REAL" ∷ []
  simple_names (Value-F.Str text) = codes "STRING" ∷ []
  simple_names (Value-F.Bin bits) = codes "BINARY" ∷ []
  simple_names (Value-F.Log x) = logical_names x
  simple_names (Value-F.Item enumeration place) = []
  simple_names (Value-F.Inst place) = entity_names (slice_get population place)
  simple_names (Value-F.Agg kind elements) = aggregate_name kind ∷ []
  simple_names (Value-F.Named n x) = []

  abbrev pub type_names : Value → List (List ℕ)
  type_names x = filter_map type_name (with_enumeration (defined_types (carried x)) (out-Value (bare x))) ++ simple_names (out-Value (bare x))

  abbrev pub texts : List (List ℕ) → List Value
  texts = map (λ text. v.Str text)
