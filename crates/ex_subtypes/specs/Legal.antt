-- Which sets of entities an instance may have (ISO 10303-11:1994, 9.2.4 and annex B).
use Rattle.std.specs.Prelude.{◌≡◌, ℕ, zero, Bool, true, false, not, ◌&&◌, ◌||◌, ◌==◌, if◌then◌else◌, List, [], ◌∷◌, map, filter, fold, length, nat_lt, Option, Some, None, slice_get, slice_index_or}
use Rattle.std.specs.Cmp.Lexicographic.{slice_cmp}
use Rattle.std.specs.List.{list_all, list_any}
use Rattle.std.specs.Option.{option_map, option_map_or}
use Rattle.std.specs.Ordering.{is_lt, nat_cmp}
use Rattle.plain_data.specs.Numbers.{is_among}
use Rattle.ex_named.specs.declared.declaration.NamedEntity.{NamedEntity}
use Rattle.ex_named.specs.declared.declaration.NamedSupertype.{NamedSupertype}
use Rattle.graphs.specs.Graphs.{supertypes, numbers_from, is_ancestor}
use Rattle.ex_subtypes.specs.declared.choices.Choice.{Choice}
use Rattle.ex_subtypes.specs.declared.choices.Choice.TheVariants.{Neither}
use Rattle.ex_subtypes.specs.declared.legal.Illegal.{Illegal}
use Rattle.ex_subtypes.specs.declared.legal.Illegal.TheVariants.{NotClosed, NotConnected, Violates, Abstract}
use Rattle.ex_subtypes.specs.Combinations.{saying, taken, names, is_distinct}

-- ---- what entities declare; a number beyond the schema is that of an entity that declares nothing

-- of each entity its direct supertypes
abbrev pub graph : List NamedEntity → List (List ℕ)
graph entities = map (λ e. e.supertypes) entities

abbrev pub listed : Option NamedSupertype → List NamedSupertype
listed None = []
listed (Some x) = x ∷ []

-- the expressions that constrain the subtypes of an entity: what SUPERTYPE OF says, where it says one
abbrev pub constraints_of : NamedEntity → List NamedSupertype
constraints_of e = listed e.constraint

abbrev pub constraints : List NamedEntity → ℕ → List NamedSupertype
constraints entities e = option_map_or constraints_of (slice_get entities e) []

abbrev pub is_abstract : List NamedEntity → ℕ → Bool
is_abstract entities e = option_map_or (λ x. x.is_abstract) (slice_get entities e) false

abbrev pub name : List NamedEntity → ℕ → List ℕ
name entities e = option_map_or (λ x. x.name.text) (slice_get entities e) []

-- ---- what expressions say

abbrev pub is_neither : Choice → Bool
is_neither Neither = true
is_neither _ = false

-- the set has some of the entities that the expression names, and they are none of its combinations
abbrev pub breaks_expression : List ℕ → NamedSupertype → Bool
breaks_expression set x = is_neither (taken set (saying x))

-- the set breaks an expression of this entity
abbrev pub breaks : List NamedEntity → List ℕ → ℕ → Bool
breaks entities set e = list_any (breaks_expression set) (constraints entities e)

-- ---- abstract entities

-- an abstract entity of which no direct subtype is there
abbrev pub is_bare : List NamedEntity → List ℕ → ℕ → Bool
is_bare entities set e = is_abstract entities e && not (list_any (λ s. is_among (supertypes (graph entities) s) e) set)

-- ---- the graph of a set

-- all supertypes of the members are there
abbrev pub is_closed : List (List ℕ) → List ℕ → Bool
is_closed above set = list_all (λ e. list_all (is_among set) (supertypes above e)) set

-- two entities, of which one is a direct supertype of the other
abbrev pub is_beside : List (List ℕ) → ℕ → ℕ → Bool
is_beside above a b = is_among (supertypes above a) b || is_among (supertypes above b) a

abbrev pub member : List ℕ → ℕ → ℕ
member set place = slice_index_or set place zero

-- the places of the members of which a test holds
abbrev pub places : (ℕ → Bool) → List ℕ → List ℕ
places test set = filter (λ place. test (member set place)) (numbers_from zero (length set))

-- for each member the places of those beside it
unfoldable pub steps : List (List ℕ) → List ℕ → List (List ℕ)
steps above set = map (λ a. places (is_beside above a) set) set

-- every member is the first or is reached from it by such steps; no set without members is connected
abbrev pub is_connected : List (List ℕ) → List ℕ → Bool
is_connected above set =
    nat_lt zero (length set) && list_all (λ place. place == zero || is_ancestor (steps above set) zero place) (numbers_from zero (length set))

-- ---- the answer

-- the one whose name comes first in byte order
abbrev pub earlier : List NamedEntity → Option ℕ → ℕ → Option ℕ
earlier entities None e = Some e
earlier entities (Some best) e = if is_lt (slice_cmp nat_cmp (name entities e) (name entities best)) then Some e else Some best

abbrev pub first_by_name : List NamedEntity → List ℕ → Option ℕ
first_by_name entities es = fold (earlier entities) None es

-- of the members of which a test holds
abbrev pub first_of : List NamedEntity → (ℕ → Bool) → List ℕ → Option ℕ
first_of entities test set = first_by_name entities (filter test set)

abbrev pub or_else : Option Illegal → Option Illegal → Option Illegal
or_else (Some refusal) other = Some refusal
or_else None other = other

-- why a set is not legal, the first that holds; nothing where it is legal
unfoldable pub refusal : List NamedEntity → List ℕ → Option Illegal
refusal entities set =
    if not (is_closed (graph entities) set) then Some NotClosed
    else if not (is_connected (graph entities) set) then Some NotConnected
    else or_else (option_map Violates (first_of entities (breaks entities set) set)) (option_map Abstract (first_of entities (is_bare entities set) set))

-- ---- schemas whose expressions can be read

abbrev pub is_direct_subtype : List NamedEntity → ℕ → ℕ → Bool
is_direct_subtype entities e s = is_among (supertypes (graph entities) s) e

-- an expression of this entity that names no entity twice, and direct subtypes alone
abbrev pub is_readable : List NamedEntity → ℕ → NamedSupertype → Bool
is_readable entities e x = is_distinct (names x) && list_all (is_direct_subtype entities e) (names x)

-- the expressions of all entities
abbrev pub AreReadable : List NamedEntity → Type 0
AreReadable entities = (e : ℕ) → list_all (is_readable entities e) (constraints entities e) ≡ true
