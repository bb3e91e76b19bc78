-- Tables of where rows stand in a list: at each key the places of the rows that have it. A key is a list of numbers.
use Rattle.std.specs.Prelude.{◌≡◌, ℕ, suc, Bool, IsTrue, List, [], ◌∷◌, map, filter, slice_get, if◌then◌else◌}
use Rattle.std.specs.List.{filter_map}
use Rattle.std.specs.List.Sorted.{IsNonDecreasingBy, IsSortedByKey}
use Rattle.std.specs.Option.{option_map_or}
use Rattle.std.specs.Global.{Vec}
use Rattle.std.specs.Str.{bytes_eq}
use Rattle.std.specs.Ordering.{nat_cmp, is_lt}
use Rattle.std.specs.Cmp.Lexicographic.{slice_cmp}
use Rattle.std.specs.BTreeMap.{BTreeMap, get_by}
use Rattle.ex_named.specs.declared.reference.AttributePlace.{AttributePlace}
use Rattle.ex_attributes.specs.declared.attribute.Attribute.{Attribute}
use Rattle.ex_attributes.specs.declared.attribute.Redeclared.{Redeclared}
use Rattle.ex_attributes.specs.Attributes.{place_key}

-- the rows in these places
abbrev pub rows_at : {A : Type 0} → List A → List ℕ → List A
rows_at rows places = filter_map (λ place. slice_get rows place) places

-- the places that a table has at a key
abbrev pub places_at : List ℕ → BTreeMap (Vec ℕ) (Vec ℕ) → List ℕ
places_at key table = option_map_or (λ places. places.items) (get_by (λ k. slice_cmp nat_cmp key k.items) table) []

-- the places of a key among keys, of which the first stands in this place
abbrev pub places_from : List ℕ → ℕ → List (List ℕ) → List ℕ
places_from key place [] = []
places_from key place (k ∷ others) = if bytes_eq k key then place ∷ places_from key (suc place) others else places_from key (suc place) others

-- the table has at each key the places of the rows of this key
abbrev pub HasPlaces : {A : Type 0} → (A → List ℕ) → List A → BTreeMap (Vec ℕ) (Vec ℕ) → Type 0
HasPlaces key_of rows table = (key : List ℕ) → rows_at rows (places_at key table) ≡ filter (λ r. bytes_eq (key_of r) key) rows

-- the table has of each name the places of the attributes of that name
abbrev pub HasNames : List Attribute → BTreeMap (Vec ℕ) (Vec ℕ) → Type 0
HasNames rows table = (name : List ℕ) → places_at name table ≡ places_from name 0 (map (λ a. a.name) rows)

-- which entity declares the attribute in this place
abbrev pub declarer_at : List Attribute → ℕ → ℕ
declarer_at rows place = option_map_or (λ a. a.place.entity) (slice_get rows place) 0

-- whether an attribute is declared before this place
abbrev pub is_before : AttributePlace → Attribute → Bool
is_before place a = is_lt (slice_cmp nat_cmp (place_key a.place) (place_key place))

-- attributes stand in the order of where they are declared
abbrev pub IsInOrder : List Attribute → Type 0
IsInOrder rows = IsSortedByKey (λ a. place_key a.place) (slice_cmp nat_cmp) rows

-- if rows are said to ascend, their numbers do
abbrev pub AscendIf : {A : Type 0} → (A → ℕ) → Bool → List A → Type 0
AscendIf number is_said rows = IsTrue is_said → IsNonDecreasingBy number rows

-- ---- the keys of rows

-- a key behind the number of an entity
abbrev pub behind : ℕ → List ℕ → List ℕ
behind entity key = entity ∷ key

abbrev pub redeclared_key : Redeclared → List ℕ
redeclared_key r = place_key r.place

abbrev pub redeclarer_key : Redeclared → List ℕ
redeclarer_key r = behind r.entity (place_key r.place)
