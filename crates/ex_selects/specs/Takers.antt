-- Which of several types take an item, by its name.
use Rattle.std.specs.Prelude.{◌≡◌, ⊤, ℕ, Bool, false, not, ◌||◌, ◌==◌, if◌then◌else◌, List, filter, Option, Some, None, slice_get, MatchOption}
use Rattle.std.specs.Borrow.{Bor}
use Rattle.std.specs.BTreeMap.{BTreeMap}
use Rattle.std.specs.Option.{option_and_then}
use Rattle.ex_named.specs.declared.declaration.NamedType.{NamedType}
use Rattle.name_tables.specs.Names.{first_in, first_of}
use Rattle.name_tables.specs.declared.firsts.First.{First}
use Rattle.ex_selects.specs.declared.sorts.Class.TheVariants as class
use Rattle.ex_selects.specs.Ends.{base_of}
use Rattle.ex_selects.specs.Kept.{StandForClass, kept_in}
use Rattle.ex_selects.specs.Items.{has_item}

-- the same with one more
abbrev pub and_taker : Option (ℕ × Bool) → ℕ → ℕ × Bool
and_taker None number = (number, false)
and_taker (Some first) number = (first.0, first.1 || not (first.0 == number))

abbrev pub with_taker : Bool → Option (ℕ × Bool) → ℕ → Option (ℕ × Bool)
with_taker takes first number = if takes then Some (and_taker first number) else first

-- the first of several, where there is no other
abbrev pub lone_of : Option (ℕ × Bool) → Option ℕ
lone_of None = None
lone_of (Some first) = if first.1 then None else Some first.0

abbrev pub lone : Option (First ℕ) → Option ℕ
lone None = None
lone (Some first) = if first.is_repeated then None else Some first.value

abbrev pub ByName : Type 0
ByName = BTreeMap (Bor (List ℕ)) (First ℕ)

-- the only one that takes an item
abbrev pub only_taker : List ℕ → ByName → Option ℕ
only_taker name takers = lone_of (first_in name takers)

-- what stands in a table at a number, where something does
abbrev pub takers_in : List (Option ByName) → ℕ → Option ByName
takers_in table number = option_and_then (λ t. t) (slice_get table number)

module _ (types : List NamedType) where
  -- whether a type has an item
  abbrev pub takes_item : List ℕ → ℕ → Bool
  takes_item name number = has_item types name (base_of types number)

  -- the map has, at any name, the first of these types that takes the item, and whether another does
  abbrev pub AreTakers : List ℕ → ByName → Type 0
  AreTakers numbers takers = (name : List ℕ) → first_in name takers ≡ first_of (filter (takes_item name) numbers)

  -- the map is of all items that a SELECT chooses from
  pub record AreTakersOf (number : ℕ) (takers : ByName) : Type 0 where
    pub kept : List ℕ
    pub stand : StandForClass types class.Items number kept
    pub tell : AreTakers kept takers

  abbrev pub AreTakersAt : Option (List ℕ) → Option ByName → Type 0
  AreTakersAt kept takers = MatchOption takers ⊤ (λ t. MatchOption kept ⊥ (λ numbers. AreTakers numbers t))

  abbrev pub AreAllTakers : List (Option (List ℕ)) → List (Option ByName) → Type 0
  AreAllTakers kept table = (number : ℕ) → AreTakersAt (kept_in kept number) (takers_in table number)
