-- What is kept of the types that SELECTs choose from, by their sorts.
use Rattle.std.specs.Prelude.{◌≡◌, ℕ, Bool, true, false, not, ◌&&◌, ◌==◌, ◌⊎◌, ⊤, MatchOption, List, [], ◌∷◌, length, filter, is_some, Option, Some, None, slice_get}
use Rattle.std.specs.List.{list_any}
use Rattle.std.specs.List.Sorted.{IsStrictlySortedBy}
use Rattle.std.specs.Option.{option_and_then, option_map_or}
use Rattle.std.specs.Ordering.{nat_cmp}
use Rattle.plain_data.specs.Numbers.{is_among}
use Rattle.graphs.specs.Graphs.{family}
use Rattle.ex_selects.specs.declared.kept.Kept.{Kept}
use Rattle.ex_selects.specs.declared.sorts.Class.{Class}
use Rattle.ex_selects.specs.declared.sorts.Sort.{Sort}
use Rattle.ex_selects.specs.declared.sorts.Sort.TheVariants as sort
use Rattle.ex_named.specs.declared.declaration.NamedType.{NamedType}
use Rattle.ex_selects.specs.declared.sorts.Class.TheVariants as class
use Rattle.ex_selects.specs.Shared.{shared, unrenamed}
use Rattle.ex_selects.specs.Sorts.{all_sorts, sort_at, is_of}

-- the one of them, where there is just one
abbrev pub single : {A : Type 0} → List A → Option A
single (x ∷ []) = Some x
single _ = None

-- whether two of a sort stand for all others of it
abbrev pub suffices : Sort → Bool
suffices sort.Nothing = false
suffices sort.Item = false
suffices sort.List = false
suffices _ = true

abbrev pub rank : Sort → ℕ
rank sort.Nothing = 0
rank sort.Integer = 1
rank sort.Number = 2
rank sort.Real = 3
rank sort.Text = 4
rank sort.Binary = 5
rank sort.Item = 6
rank sort.List = 7

abbrev pub is_same : Sort → Sort → Bool
is_same a b = rank a == rank b

module _ (sorts : List Sort) where
  -- whether another one is of the sort
  abbrev pub has_other : List ℕ → Sort → ℕ → Bool
  has_other kept sort number = list_any (λ k. not (k == number) && is_same (sort_at sorts k) sort) kept

  abbrev pub has_pair : List ℕ → Sort → Bool
  has_pair kept sort = list_any (λ k. is_same (sort_at sorts k) sort && has_other kept sort k) kept

  -- whether two suffice of the sort, and are there
  abbrev pub has_two : List ℕ → Sort → Bool
  has_two kept sort = suffices sort && has_pair kept sort

  -- a number is kept, or two of its sort are
  abbrev pub IsCovered : List ℕ → ℕ → Type 0
  IsCovered kept number = (is_among kept number ≡ true) ⊎ (has_two kept (sort_at sorts number) ≡ true)

  -- these stand for all of them
  pub record StandFor (all kept : List ℕ) : Type 0 where
    pub ascend : IsStrictlySortedBy nat_cmp kept
    pub within : (k : ℕ) → is_among kept k ≡ true → is_among all k ≡ true
    pub whole : (k : ℕ) → is_among all k ≡ true → IsCovered kept k

-- what stands in a table at a number, where something does
abbrev pub kept_in : List (Option (List ℕ)) → ℕ → Option (List ℕ)
kept_in table number = option_and_then (λ kept. kept) (slice_get table number)

-- the numbers are all that a table has of these, and it has something of each
pub record IsUnited (table : List (Option (List ℕ))) (members numbers : List ℕ) : Type 0 where
  pub there : (m : ℕ) → is_among members m ≡ true → is_some (kept_in table m) ≡ true
  pub all : (k : ℕ) → is_among numbers k ≡ list_any (λ m. option_map_or (λ kept. is_among kept k) (kept_in table m) false) members

-- those of a class in the family of a member
abbrev pub of_class : List (List ℕ) → List Sort → Class → ℕ → List ℕ
of_class graph sorts class number = filter (λ k. is_of class (sort_at sorts k)) (family graph number)

-- what a table keeps stands for all of a class
pub record IsTable (graph : List (List ℕ)) (sorts : List Sort) (class : Class) (table : List (Option (List ℕ))) : Type 0 where
  pub as_many : length table ≡ length graph
  pub stand : (number : ℕ) → MatchOption (kept_in table number) ⊤ (λ kept. StandFor sorts (of_class graph sorts class number) kept)

abbrev pub table_of : Kept → Class → List (Option (List ℕ))
table_of kept class.Plain = kept.plain.items
table_of kept class.Items = kept.items.items
table_of kept class.Lists = kept.lists.items

abbrev pub IsKept : List (List ℕ) → List Sort → Kept → Type 0
IsKept graph sorts kept = (class : Class) → IsTable graph sorts class (table_of kept class)

module _ (types : List NamedType) where
  -- these stand for all of a class that a type chooses from
  abbrev pub StandForClass : Class → ℕ → List ℕ → Type 0
  StandForClass class number kept = StandFor (all_sorts types) (of_class (shared types) (all_sorts types) class (unrenamed types number)) kept
