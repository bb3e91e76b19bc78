-- A table of what is held, and beside it one of the grants under the same keys: the rows that the two make.
use Rattle.std.specs.Prelude.{◌≡◌, List, [], ◌∷◌, map, Some, option_map}
use Rattle.std.specs.List.{find}
use Rattle.sorted_tables.specs.Table.{with_row, IsAscending}
use Rattle.rp_rows.specs.declared.rows.Grant.{Grant}
use Rattle.rp_rows.specs.declared.rows.Key.{Key}
use Rattle.rp_rows.specs.Rows.{key_cmp, Row, row_key, is_row}
use Rattle.rp_store.specs.declared.keyed.Entry.{Entry}
use Rattle.rp_sight.specs.declared.rows.RowRef.{RowRef}
use Rattle.rp_store.specs.Entries.{entry_key}

abbrev pub joined_row : {A : Type 0} → Entry A → Entry (List Grant) → Row A
joined_row x y = record { owner = x.key.owner; name = x.key.name; holds = x.value; grants = y.value }

abbrev pub joined : {A : Type 0} → List (Entry A) → List (Entry (List Grant)) → List (Row A)
joined [] rights = []
joined (x ∷ xs) [] = []
joined (x ∷ xs) (y ∷ rights) = joined_row x y ∷ joined xs rights

-- the rows
pub record Stored (A : Type 0) : Type 0 where
  pub rows : List (Row A)

-- both halves have the same keys, in order
pub record IsTable {A : Type 0} (held : List (Entry A)) (rights : List (Entry (List Grant))) : Type 0 where
  pub same : map entry_key held ≡ map entry_key rights
  pub order : IsAscending key_cmp entry_key held
  pub right_order : IsAscending key_cmp entry_key rights

-- the row of a key that holds this and has these grants
abbrev pub granted_row : {A : Type 0} → Key → A → List Grant → Row A
granted_row k a grants = record { owner = k.owner; name = k.name; holds = a; grants = grants }

-- the row at a key, changed so
abbrev pub rewritten : {A : Type 0} → Key → (Row A → Row A) → List (Row A) → List (Row A)
rewritten k f rows = with_row key_cmp row_key k (option_map f (find (is_row k) rows)) rows

-- the row with what it holds changed so
abbrev pub reheld : {A : Type 0} → (A → A) → Row A → Row A
reheld f x = record x { holds = f x.holds }

-- what is held at a key, if anything is, is such
abbrev pub HasRowAt : {A : Type 0} → (A → Type 0) → Key → List (Row A) → Type 0
HasRowAt {A = A} P k rows = (x : Row A) → find (is_row k) rows ≡ Some x → P x.holds

-- a row as it is looked at
abbrev pub row_of : {A : Type 0} → RowRef A → Row A
row_of r = record { owner = r.key.now.owner; name = r.key.now.name; holds = r.holds.now; grants = r.grants.now }
