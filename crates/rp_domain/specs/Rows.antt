-- Things put into rows by a number, who uses whom by attributes with their values, and these as they are read.
use Rattle.std.specs.Prelude.{◌≡◌, ℕ, ◌==◌, List, [], ◌∷◌, ◌++◌, map, filter, Option, slice_get, slice_set, slice_index_or}
use Rattle.std.specs.List.{flat_map}
use Rattle.std.specs.Option.{option_map, unwrap_or}
use Rattle.ex_named.specs.declared.reference.AttributePlace.{AttributePlace}
use Rattle.rp_value.specs.declared.value.Value.{Value}
use Rattle.rp_meaning.specs.declared.schema.Schema.{Schema}
use Rattle.rp_meaning.specs.Reading.{read_as}
use Rattle.rp_meaning.specs.Uses.{User, Use, references}
use Rattle.rp_domain.specs.declared.combination.AttributeOf.{AttributeOf}

abbrev pub row : {A : Type 0} → List (List A) → ℕ → List A
row rows number = slice_index_or rows number []

-- one more behind those of a number, if that has a row
abbrev pub put : {A : Type 0} → List (List A) → ℕ → A → List (List A)
put rows number x = slice_set rows number (row rows number ++ x ∷ [])

-- one after the other
abbrev pub put_all : {A : Type 0} → List (List A) → List (ℕ × A) → List (List A)
put_all rows [] = rows
put_all rows (p ∷ others) = put_all (put rows p.0 p.1) others

-- those of a number
abbrev pub of_number : {A : Type 0} → ℕ → List (ℕ × A) → List A
of_number number pairs = map (λ p. p.1) (filter (λ p. p.0 == number) pairs)

-- ---- uses

-- what this user uses, of these places
abbrev pub used_by : User → List ℕ → List Use
used_by user places = map (λ place. (place, user)) places

-- an instance at a place, by an attribute
abbrev pub user_by : ℕ → AttributeOf → User
user_by place a = record { place = place; entities = a.entities; attribute = a.attribute }

-- what it uses by this attribute with its value
abbrev pub uses_by : ℕ → AttributeOf → Value → List Use
uses_by place a x = used_by (user_by place a) (references x)

-- by its attributes and their values
abbrev pub uses_in : ℕ → List (AttributeOf × Value) → List Use
uses_in place attributes = flat_map (λ a. uses_by place a.0 a.1) attributes

-- ---- values

-- an attribute's value as it is read
unfoldable pub read_value : Schema → ℕ → AttributePlace → Value → Value
read_value schema count attribute x = read_as schema count attribute x

-- attributes' values as they are read
abbrev pub read_all : Schema → ℕ → List (AttributePlace × Value) → List Value
read_all schema count attributes = map (λ a. read_value schema count a.0 a.1) attributes

-- what is read in place of the value at a place, which is an attribute's; none where it is read as it is written
abbrev pub IsReadAt : Schema → ℕ → AttributePlace → List Value → ℕ → Option Value → Type 0
IsReadAt schema count attribute written at other = option_map (read_value schema count attribute) (slice_get written at) ≡ option_map (unwrap_or other) (slice_get written at)
