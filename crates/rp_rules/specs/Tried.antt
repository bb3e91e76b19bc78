-- The values on which the rules of a defined type are tried, part by part.
use Rattle.std.specs.Prelude.{ℕ, pos, ◌++◌, ◌&&◌, Bool, List, [], ◌∷◌, Some, if◌then◌else◌}
use Rattle.std.specs.Option.{option_map_or}
use Rattle.ex_named.specs.declared.expression.NamedDataType.{NamedDataType}
use Rattle.ex_named.specs.declared.reference.AttributePlace.{AttributePlace}
use Rattle.plain_data.specs.Numbers.{is_among}
use Rattle.rp_meaning.specs.declared.schema.DefinedType.{DefinedType}
use Rattle.rp_meaning.specs.declared.schema.Redeclaration.{Redeclaration}
use Rattle.rp_meaning.specs.declared.schema.Schema.{Schema}
use Rattle.rp_meaning.specs.Attributes.{entity_at}
use Rattle.rp_meaning.specs.Populations.{Instance}
use Rattle.rp_meaning.specs.TypeRules.{Trying, is_tried, trying_by, types_tried, values_tried}
use Rattle.rp_meaning.specs.Uses.{same_attribute}
use Rattle.rp_value.specs.declared.value.AggregateKind.TheVariants as k
use Rattle.rp_value.specs.declared.value.Value.{Value}
use Rattle.rp_value.specs.declared.value.Value.TheFolds.{fold-Value}

-- what an entity redeclares
abbrev pub redeclarations_of : Schema → ℕ → List Redeclaration
redeclarations_of schema entity = option_map_or (λ e. e.redeclarations) (entity_at schema entity) []

module _ (types : List DefinedType) (population : List Instance) (number : ℕ) where
  abbrev pub values_at : List NamedDataType → Value → Value → List Value
  values_at declared written read = values_tried types population number declared written read

  -- a value, if the rules are tried on it
  abbrev pub itself_at : List NamedDataType → Value → Value → List Value
  itself_at declared written read = if is_tried types population number declared written read then read ∷ [] else []

  -- those among the elements of a value, by declarations of the elements
  unfoldable pub inside_at : List NamedDataType → Value → List Value → List Value
  inside_at declared written read =
      (fold-Value (Trying types population number) (trying_by types population number) written).inside declared (Some (k.List, record { low = pos 1; items = read }))

  abbrev pub elements_at : List NamedDataType → List Value → List Value → List Value
  elements_at declared (x ∷ written) (y ∷ read) = values_at declared x y ++ elements_at declared written read
  elements_at declared _ _ = []

  -- ---- whether they are tried on a value itself

  -- by a declaration
  abbrev pub by : Value → Value → NamedDataType → Bool
  by written read data_type = is_among (types_tried types population data_type written read) number

  -- by a redeclaration, if it is one of this attribute
  abbrev pub again : Value → Value → AttributePlace → Redeclaration → Bool
  again written read a r = same_attribute r.attribute a && by written read r.declaration.data_type
