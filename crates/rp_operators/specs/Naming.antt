-- Names of types as texts. They hang on the schema alone, but for those of instances.
use Rattle.std.specs.Prelude.{ℕ, List, [], ◌∷◌, filter, map, Option, slice_get, codes, if◌then◌else◌, IfSome, ◌≡◌}
use Rattle.std.specs.List.{filter_map}
use Rattle.std.specs.Option.{option_map_or}
use Rattle.plain_data.specs.Numbers.{is_among}
use Rattle.rp_meaning.specs.Attributes.{aggregate}
use Rattle.rp_meaning.specs.TypeNames as names
use Rattle.rp_meaning.specs.declared.schema.Schema.{Schema}
use Rattle.rp_operators.specs.declared.naming.AggregateNames.{AggregateNames}
use Rattle.rp_operators.specs.declared.naming.Names.{Names}
use Rattle.rp_operators.specs.declared.naming.SimpleNames.{SimpleNames}
use Rattle.rp_operators.specs.declared.type_names.Row.{Row}
use Rattle.rp_value.specs.declared.value.AggregateKind.TheVariants as k
use Rattle.rp_value.specs.declared.value.Value.{Value}
use Rattle.rp_value.specs.declared.value.Value.TheOpen.{Value-F}
use Rattle.rp_value.specs.declared.value.Value.TheVariants as v

abbrev pub simple_names : SimpleNames
simple_names = record {
  integer = v.Str (codes "INTEGER");
  real = v.Str (codes "REAL");
  string = v.Str (codes "STRING");
  binary = v.Str (codes "BINARY");
  boolean = v.Str (codes "BOOLEAN");
  logical = v.Str (codes "LOGICAL");
}

abbrev pub aggregate_names : AggregateNames
aggregate_names = record {
  array = v.Str (names.aggregate_name k.Array);
  bag = v.Str (names.aggregate_name k.Bag);
  set = v.Str (names.aggregate_name k.Set);
  list = v.Str (names.aggregate_name k.List);
}

-- the texts of these numbers
abbrev pub texts_at : List Value → List ℕ → List Value
texts_at texts = filter_map (slice_get texts)

-- the type of an enumeration, unless it is among these
abbrev pub unless_named : List ℕ → ℕ → List ℕ
unless_named numbers enumeration = if is_among numbers enumeration then [] else enumeration ∷ []

abbrev pub unnamed : List ℕ → Value-F Value → List ℕ
unnamed numbers (Value-F.Item enumeration place) = unless_named numbers enumeration
unnamed numbers _ = []

module _ (schema : Schema) where
  abbrev pub names_of : Names
  names_of = record {
    types = map (λ x. v.Str x.name) schema.types;
    entities = map (λ x. v.Str x.name) schema.entities;
    simple = simple_names;
    aggregates = aggregate_names;
  }

  abbrev pub texts : List (List ℕ) → List Value
  texts = names.texts schema []

  -- what TYPEOF gives of an instance of these entities
  abbrev pub entity_names : List ℕ → Value
  entity_names entities = aggregate k.Set (texts (filter_map (names.entity_name schema []) (filter (is_among entities) schema.entity_order)))

  abbrev pub AreKept : List Row → Type 0
  AreKept rows = (place : ℕ) → IfSome (slice_get rows place) (λ row. row.names ≡ entity_names row.entities)

  abbrev pub beneath : ℕ → List ℕ
  beneath number = option_map_or (λ x. x.beneath) (slice_get schema.types number) []

  abbrev pub defined_types : Option ℕ → List ℕ
  defined_types = names.defined_types schema []

  abbrev pub with_enumeration : List ℕ → Value-F Value → List ℕ
  with_enumeration = names.with_enumeration schema []
