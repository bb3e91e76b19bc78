-- Names in their order.
use Rattle.std.specs.Prelude.{◌≡◌, Bool, true, false, ℕ, zero, suc, List, [], ◌∷◌, map, if◌then◌else◌, Option, None, Some, filter}
use Rattle.std.specs.Option.{option_map, option_map_or}
use Rattle.std.specs.Global.{Vec}
use Rattle.std.specs.Str.{bytes_eq}
use Rattle.std.specs.declared.cmp.Ordering.{Ordering}
use Rattle.std.specs.Ordering.{nat_cmp, is_eq}
use Rattle.std.specs.List.Sorted.{IsStrictlySortedBy}
use Rattle.std.specs.Map.{lookup, keys_of}
use Rattle.std.specs.Cmp.Lexicographic.{slice_cmp}
use Rattle.std.specs.BTreeMap.{BTreeMap, get_by}
use Rattle.std.specs.Borrow.{Bor}
use Rattle.name_tables.specs.declared.firsts.First.{First}

-- where the first of these names stands that is this one
abbrev pub place_of : List ℕ → List (List ℕ) → Option ℕ
place_of name [] = None
place_of name (n ∷ ns) = if bytes_eq n name then Some zero else option_map suc (place_of name ns)

-- the bytes of names that are lent
abbrev pub bytes_of : List (Bor (List ℕ)) → List (List ℕ)
bytes_of names = map (λ n. n.now) names

-- the map has, at any bytes, the place of the first name that is these bytes
abbrev pub HasFirstPlaces : BTreeMap (Bor (List ℕ)) ℕ → List (List ℕ) → Type 0
HasFirstPlaces places names = (name : List ℕ) → get_by (λ n. slice_cmp nat_cmp name n.now) places ≡ place_of name names

-- the order of names that are lent
abbrev pub by_lent_bytes : Bor (List ℕ) → Bor (List ℕ) → Ordering
by_lent_bytes x y = slice_cmp nat_cmp x.now y.now

-- whether a name that is lent is these bytes
abbrev pub is_name : List ℕ → Bor (List ℕ) → Bool
is_name name n = is_eq (slice_cmp nat_cmp name n.now)

-- the list has, in the order of the names, the place of the first name that is the same
pub record HasSortedPlaces (places : List (Bor (List ℕ) × ℕ)) (names : List (List ℕ)) : Type 0 where
  pub ordered : IsStrictlySortedBy by_lent_bytes (keys_of places)
  pub first : (name : List ℕ) → lookup (is_name name) places ≡ place_of name names

-- what stands beside a name, row after row
abbrev pub named : {A : Type 0} → List ℕ → List (List ℕ × A) → List A
named name rows = map (λ r. r.1) (filter (λ r. bytes_eq r.0 name) rows)

-- rows whose names are lent, with the bytes of the names
abbrev pub rows_of : {A : Type 0} → List (Bor (List ℕ) × A) → List (List ℕ × A)
rows_of rows = map (λ r. (r.0.now, r.1)) rows

-- what the map has at these bytes
abbrev pub values_of : {A : Type 0} → List ℕ → BTreeMap (Bor (List ℕ)) (Vec A) → List A
values_of name by_name = option_map_or (λ v. v.items) (get_by (λ n. slice_cmp nat_cmp name n.now) by_name) []

-- the first of what stands beside a name, and whether more does
abbrev pub first_of : {A : Type 0} → List A → Option (A × Bool)
first_of [] = None
first_of (x ∷ []) = Some (x, false)
first_of (x ∷ y ∷ others) = Some (x, true)

abbrev pub pair_of : {A : Type 0} → First A → A × Bool
pair_of first = (first.value, first.is_repeated)

-- what the map has at these bytes
abbrev pub first_in : {A : Type 0} → List ℕ → BTreeMap (Bor (List ℕ)) (First A) → Option (A × Bool)
first_in name by_name = option_map pair_of (get_by (λ n. slice_cmp nat_cmp name n.now) by_name)

-- the same with one more behind
abbrev pub first_and : {A : Type 0} → Option (A × Bool) → A → A × Bool
first_and None value = (value, false)
first_and (Some first) value = (first.0, true)

-- the map has, at any bytes, what stands beside the name of these bytes first, and whether more does
abbrev pub HasFirsts : {A : Type 0} → BTreeMap (Bor (List ℕ)) (First A) → List (List ℕ × A) → Type 0
HasFirsts by_name rows = (name : List ℕ) → first_in name by_name ≡ first_of (named name rows)
