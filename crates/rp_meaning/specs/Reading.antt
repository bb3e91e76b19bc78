-- How the values of instances are written and read in a population.
use Rattle.std.specs.Prelude.{ℕ, Bool, nat_lt, List, [], map, length, slice_get, if◌then◌else◌}
use Rattle.std.specs.List.{flat_map, list_any, range_with_len, zip}
use Rattle.std.specs.Option.{option_and_then, option_map_or}
use Rattle.ex_named.specs.declared.reference.AttributePlace.{AttributePlace}
use Rattle.ex_named.specs.declared.reference.AttributeSort.TheVariants as sort
use Rattle.plain_data.specs.Numbers.{is_among}
use Rattle.rp_value.specs.declared.value.Value.{Value}
use Rattle.rp_value.specs.declared.value.Value.TheFolds.{fold-Value}
use Rattle.rp_value.specs.declared.value.Value.TheOpen.{Value-F}
use Rattle.rp_value.specs.declared.value.Value.TheVariants as v
use Rattle.rp_value.specs.declared.value.Value.TheViews.{roll-Value}
use Rattle.rp_meaning.specs.declared.schema.Schema.{Schema}
use Rattle.rp_meaning.specs.Attributes.{entity_at, explicit_derivations}
use Rattle.rp_meaning.specs.Populations.{Stored, Instance}
use Rattle.rp_meaning.specs.Types.{given}

abbrev pub present_in : ℕ → Value-F Value → Value
present_in count (Value-F.Inst place) = if nat_lt place count then v.Inst place else v.Indet
present_in count x = roll-Value x

-- a value of a population of so many instances, in which a reference that leaves the population is `?`
unfoldable pub present : ℕ → Value → Value
present count = fold-Value Value (present_in count)

module _ (schema : Schema) where
  -- of an explicit attribute, by its declaration
  abbrev pub read_as : ℕ → AttributePlace → Value → Value
  read_as count a x =
      option_map_or (λ e. given schema.types e.declaration.data_type (present count x)) (option_and_then (λ e. slice_get e.explicit a.place) (entity_at schema a.entity)) v.Indet

  -- whether one of these entities redeclares an explicit attribute in DERIVE
  abbrev pub is_derived : List ℕ → AttributePlace → Bool
  is_derived entities a = list_any (λ d. is_among entities d.entity) (explicit_derivations schema a)

  -- in an instance of these entities: what it derives has no value that is written, and so uses nothing
  abbrev pub written_as : List ℕ → AttributePlace → Value → Value
  written_as entities a x = if is_derived entities a then v.Indet else x

  abbrev pub explicit_place : ℕ → ℕ → AttributePlace
  explicit_place entity place = record { entity = entity; sort = sort.Explicit; place = place }

  -- the explicit attributes that an entity declares
  abbrev pub explicit_places : ℕ → List AttributePlace
  explicit_places entity = option_map_or (λ e. map (explicit_place entity) (range_with_len 0 (length e.explicit))) (entity_at schema entity) []

  -- the attributes of an instance of these entities, in their order
  abbrev pub attributes : List ℕ → List AttributePlace
  attributes entities = flat_map explicit_places entities

  abbrev pub stored_as : ℕ → List ℕ → AttributePlace → Value → Stored
  stored_as count entities a x = record { attribute = a; written = written_as entities a x; read = read_as count a (written_as entities a x) }

  -- an instance of a population of so many, of these entities, with these values
  abbrev pub instance_of : ℕ → List ℕ → List Value → Instance
  instance_of count entities values = record {
    entities = entities;
    values = map (λ p. stored_as count entities p.0 p.1) (zip (attributes entities) values);
  }
