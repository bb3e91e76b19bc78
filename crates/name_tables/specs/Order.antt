-- Names in the order of their bytes, each beside its number.
use Rattle.std.specs.Prelude.{◌≡◌, ℕ, Bool, List, filter, length, Option}
use Rattle.std.specs.Option.{option_map}
use Rattle.std.specs.List.{find}
use Rattle.std.specs.List.Sorted.{IsPermutation, IsSortedByKey}
use Rattle.std.specs.Cmp.Lexicographic.{slice_cmp}
use Rattle.std.specs.Ordering.{nat_cmp, is_lt}
use Rattle.std.specs.Str.{bytes_eq}
use Rattle.std.specs.declared.cmp.Ordering.{Ordering}
use Rattle.plain_data.specs.Numbers.{numbered}
use Rattle.name_tables.specs.Names.{place_of}

abbrev pub by_bytes : List ℕ → List ℕ → Ordering
by_bytes = slice_cmp nat_cmp

abbrev pub Rows : Type 0
Rows = List (List ℕ × ℕ)

abbrev pub IsAscending : Rows → Type 0
IsAscending rows = IsSortedByKey (λ r. r.0) by_bytes rows

-- whether the name of a row comes before this one
abbrev pub is_before : List ℕ → List ℕ × ℕ → Bool
is_before name r = is_lt (by_bytes r.0 name)

-- in how many rows a name comes before this one
abbrev pub rows_before : Rows → List ℕ → ℕ
rows_before rows name = length (filter (is_before name) rows)

-- how many of the names come before this one
abbrev pub rank : List (List ℕ) → List ℕ → ℕ
rank names name = length (filter (λ n. is_lt (by_bytes n name)) names)

-- the number beside this name, at its first place
abbrev pub number_of : List ℕ → Rows → Option ℕ
number_of name rows = option_map (λ r. r.1) (find (λ r. bytes_eq r.0 name) rows)

abbrev pub numbered_names : List (List ℕ) → Rows
numbered_names = numbered (λ number n. (n, number))

-- the rows have these names, in their order, and beside each where it stands first among them
pub record IsOrderOf (names : List (List ℕ)) (rows : Rows) : Type 0 where
  pub ascending : IsAscending rows
  pub same : IsPermutation (numbered_names names) rows
  pub first : (name : List ℕ) → number_of name rows ≡ place_of name names
  pub ranked : (name : List ℕ) → rows_before rows name ≡ rank names name
