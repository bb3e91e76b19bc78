-- Which types of a schema rename others, and which are SELECTs (ISO 10303-11:1994, clauses 8.4.2 and 9.1).
use Rattle.std.specs.Prelude.{ℕ, zero, suc, Bool, true, false, List, length, map, slice_index_or}
use Rattle.ex_named.specs.declared.declaration.NamedType.{NamedType}
use Rattle.ex_named.specs.declared.declaration.NamedUnderlying.{NamedUnderlying}
use Rattle.ex_named.specs.declared.declaration.NamedUnderlying.TheVariants as u
use Rattle.ex_named.specs.declared.expression.NamedDataType.{NamedDataType-F, out-NamedDataType}
use Rattle.ex_named.specs.declared.reference.TypeName.TheVariants as t

-- what a type of this number renames, by what it is declared as
abbrev pub renamed_by_data : {A : Type 0} → ℕ → NamedDataType-F A → ℕ
renamed_by_data k (NamedDataType-F.Named (t.Defined j)) = j
renamed_by_data k _ = k

abbrev pub renamed_by : ℕ → NamedUnderlying → ℕ
renamed_by k (u.Data declared) = renamed_by_data k (out-NamedDataType declared)
renamed_by k _ = k

-- the type that a type renames; itself, where it renames none
abbrev pub renamed : List NamedType → ℕ → ℕ
renamed types k = slice_index_or (map (λ x. renamed_by k x.underlying) types) k k

-- so many renamings further
abbrev pub renamed_times : ℕ → List NamedType → ℕ → ℕ
renamed_times zero types k = k
renamed_times (suc n) types k = renamed types (renamed_times n types k)

abbrev pub is_listed : NamedUnderlying → Bool
is_listed (u.Select members) = true
is_listed _ = false

-- whether a type is declared by its members
abbrev pub lists_members : List NamedType → ℕ → Bool
lists_members types k = slice_index_or (map (λ x. is_listed x.underlying) types) k false

-- The type that a defined type is behind all names, through any number of renamings. Where they form no cycle, fewer follow each
-- other than there are types, and beyond the last one a type stays as it is.
unfoldable pub end : List NamedType → ℕ → ℕ
end types k = renamed_times (length types) types k

-- whether a type is a SELECT: it lists members, or a type does that it renames
abbrev pub is_select : List NamedType → ℕ → Bool
is_select types k = lists_members types (end types k)
