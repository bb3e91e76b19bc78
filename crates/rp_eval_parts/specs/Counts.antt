-- What is found in lists, as the code has it.
use Rattle.std.specs.Prelude.{ℕ, ℤ, ◌+ℤ◌, Bool, true, false, ◌==◌, List, [], ◌∷◌, Option, Some, None, if◌then◌else◌, slice_get}
use Rattle.std.specs.List.{find}
use Rattle.std.specs.Option.{option_map, option_map_or}
use Rattle.std.specs.Str.{bytes_eq}
use Rattle.rp_value.specs.declared.value.Value.TheVariants as v
use Rattle.rp_value.specs.declared.value.AggregateKind.TheVariants as k
use Rattle.ex_tree.specs.declared.declaration.InverseAggregate.{InverseAggregate}
use Rattle.ex_tree.specs.declared.declaration.SetOrBag.TheVariants as a
use Rattle.rp_meaning.specs.Attributes.{aggregate}
use Rattle.rp_meaning.specs.declared.domain.ReadValue.{ReadValue}
use Rattle.rp_code.specs.declared.role.NamedRole.{NamedRole}
use Rattle.rp_code.specs.declared.role.Role.{Role}
use Rattle.rp_value.specs.declared.value.Value.{Value, out-Value}
use Rattle.rp_meaning.specs.Bare.{place_in}
use Rattle.rp_meaning.specs.Operators.{integer}
use Rattle.rp_meaning.specs.Populations.{Stored, stored}
use Rattle.rp_meaning.specs.Uses.{same_attribute}
use Rattle.ex_named.specs.declared.reference.AttributePlace.{AttributePlace}

-- whether a value that carries no type is the instance at this place
abbrev pub is_at : Option ℕ → Option ℕ → Bool
is_at (Some last) (Some place) = place == last
is_at _ _ = false

-- each instance once, of those that stand together
abbrev pub once_after : Option ℕ → List Value → List Value
once_after last [] = []
once_after last (x ∷ xs) = if is_at last (place_in (out-Value x)) then once_after last xs else x ∷ once_after (place_in (out-Value x)) xs

-- whether one stands right behind itself
abbrev pub again_after : Option ℕ → List Value → Bool
again_after last [] = false
again_after last (x ∷ xs) = if is_at last (place_in (out-Value x)) then true else again_after (place_in (out-Value x)) xs

abbrev pub read_in : Option Value → Option Value → Value
read_in (Some written) (Some read) = read
read_in _ _ = v.Indet

-- the value that is read at a place, where one is written
abbrev pub read_at : List Value → List Value → ℕ → Value
read_at written read place = read_in (slice_get written place) (slice_get read place)

-- the value that is read at a place where this one is written: the last of those that are read there
abbrev pub last_read : Value → List ReadValue → ℕ → Value
last_read x [] place = x
last_read x (r ∷ others) place = last_read (if r.place == place then r.value else x) others place

abbrev pub is_stored : AttributePlace → Stored → Bool
is_stored a x = same_attribute x.attribute a

-- of attributes with their values, what is read of one
abbrev pub value_in : AttributePlace → List AttributePlace → List Value → List Value → Value
value_in a xs written read = option_map_or (λ x. x.read) (find (is_stored a) (stored xs written read)) v.Indet

-- the first role of a name
abbrev pub named_role : List NamedRole → List ℕ → Option Role
named_role roles name = option_map (λ x. x.role) (find (λ x. bytes_eq x.name name) roles)

abbrev pub only_one : List Value → Value
only_one (x ∷ []) = x
only_one _ = v.Indet

-- the value of an inverse attribute with these users
abbrev pub of_users : Option InverseAggregate → List Value → Value
of_users None users = only_one users
of_users (Some x) users = elim (x.kind) [ a.Bag ↦ aggregate k.Bag users | a.Set ↦ aggregate k.Set users ]

-- a value of INTEGER, or `?`
abbrev pub integer_or : Option ℤ → Value
integer_or (Some n) = v.Int n
integer_or None = v.Indet

abbrev pub sum_or : Option ℤ → ℤ → Value
sum_or (Some at) step = integer (at +ℤ step)
sum_or None step = v.Indet
