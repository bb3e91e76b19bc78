-- Who uses whom in a population (ISO 10303-11:1994, 15.26).
use Rattle.std.specs.Prelude.{ℕ, ◌+◌, ◌==◌, ◌&&◌, Bool, true, false, List, [], ◌∷◌, ◌++◌, map, filter, length, nat_lt, if◌then◌else◌}
use Rattle.std.specs.List.{flat_map, list_any}
use Rattle.plain_data.specs.Numbers.{is_among}
use Rattle.ex_named.specs.declared.reference.AttributePlace.{AttributePlace}
use Rattle.ex_named.specs.declared.reference.AttributeSort.{AttributeSort}
use Rattle.ex_named.specs.declared.reference.AttributeSort.TheVariants as sort
use Rattle.rp_value.specs.declared.value.Value.{Value}
use Rattle.rp_value.specs.declared.value.Value.TheFolds.{fold-Value}
use Rattle.rp_value.specs.declared.value.Value.TheOpen.{Value-F}
use Rattle.rp_code.specs.declared.role.Role.{Role}
use Rattle.rp_code.specs.declared.role.Role.TheVariants.{Every, Of}
use Rattle.rp_meaning.specs.Populations.{Stored, Instance, instances}

abbrev pub same_sort : AttributeSort → AttributeSort → Bool
same_sort sort.Explicit sort.Explicit = true
same_sort sort.Derived sort.Derived = true
same_sort sort.Inverse sort.Inverse = true
same_sort _ _ = false

abbrev pub same_attribute : AttributePlace → AttributePlace → Bool
same_attribute a b = (a.entity == b.entity) && same_sort a.sort b.sort && (a.place == b.place)

abbrev pub referred : Value-F (List ℕ) → List ℕ
referred (Value-F.Inst place) = place ∷ []
referred (Value-F.Agg kind elements) = flat_map (λ found. found) elements.items
referred (Value-F.Named name found) = found
referred _ = []

-- the places that a value refers to, at any depth, from the left
abbrev pub references : Value → List ℕ
references = fold-Value (List ℕ) referred

-- who uses an instance: its place, its entities, and the attribute
pub record User : Type 0 where
  pub place : ℕ
  pub entities : List ℕ
  pub attribute : AttributePlace

-- a place that is used, and who uses it
abbrev pub Use : Type 0
Use = ℕ × User

abbrev pub user : ℕ → Instance → Stored → User
user place i x = record { place = place; entities = i.entities; attribute = x.attribute }

-- those of a value of the instance at a place
abbrev pub uses_of : ℕ → Instance → Stored → List Use
uses_of place i x = map (λ used. (used, user place i x)) (references x.written)

-- those of instances, the first of which stands at this place: in the order of the instances, of their attributes, and of the places
-- in a value
unfoldable pub uses_from : ℕ → List Instance → List Use
uses_from place [] = []
uses_from place (i ∷ others) = flat_map (uses_of place i) i.values ++ uses_from (place + 1) others

abbrev pub is_in : Role → User → Bool
is_in Every u = true
is_in (Of entity attributes) u = is_among u.entities entity && list_any (same_attribute u.attribute) attributes

abbrev pub uses_at : ℕ → List Use → List User
uses_at place uses = map (λ u. u.1) (filter (λ u. u.0 == place) uses)

abbrev pub places_among : Role → List User → List ℕ
places_among role all = map (λ u. u.place) (filter (is_in role) all)

-- the places of the users of what stands at a place, in the order of the population, each as often as it uses it in the role
abbrev pub user_places : List Instance → Role → ℕ → List ℕ
user_places population role place = if nat_lt place (length population) then places_among role (uses_at place (uses_from 0 population)) else []

abbrev pub users : List Instance → Role → ℕ → List Value
users population role place = instances (user_places population role place)

-- each once: the uses of one instance stand together
abbrev pub once_after : ℕ → List ℕ → List ℕ
once_after last [] = []
once_after last (x ∷ xs) = if x == last then once_after last xs else x ∷ once_after x xs

abbrev pub each_once : List ℕ → List ℕ
each_once [] = []
each_once (x ∷ xs) = x ∷ once_after x xs
