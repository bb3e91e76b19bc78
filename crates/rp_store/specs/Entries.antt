-- What stands under keys, in order.
use Rattle.std.specs.Prelude.{◌≡◌, ℕ, Bool, not, List, [], ◌∷◌, ◌++◌, filter, Option, Some, None}
use Rattle.std.specs.Str.{bytes_eq}
use Rattle.std.specs.List.{find}
use Rattle.sorted_tables.specs.Table.{is_at}
use Rattle.rp_rows.specs.declared.rows.Key.{Key}
use Rattle.rp_rows.specs.Rows.{Text, key_cmp}
use Rattle.rp_store.specs.declared.keyed.Entry.{Entry}

abbrev pub entry_key : {B : Type 0} → Entry B → Key
entry_key x = x.key

abbrev pub is_entry : {B : Type 0} → Key → Entry B → Bool
is_entry = is_at key_cmp entry_key

-- the entries, and for how many more there is room
pub record Entries (B : Type 0) : Type 0 where
  pub entries : List (Entry B)
  pub room : ℕ

-- the entry with another value
abbrev pub with_value : {B : Type 0} → B → Entry B → Entry B
with_value b x = record x { value = b }

-- the entry with its value changed so
abbrev pub revalued : {B : Type 0} → (B → B) → Entry B → Entry B
revalued f x = record x { value = f x.value }

-- the value at a key, if there is one, is such
abbrev pub HasAt : {B : Type 0} → (B → Type 0) → Key → List (Entry B) → Type 0
HasAt {B = B} P k xs = (x : Entry B) → find (is_entry k) xs ≡ Some x → P x.value

-- what stands at a key, or this where nothing does
abbrev pub standing : {B : Type 0} → Key → B → Option (Entry B) → Entry B
standing k b None = record { key = k; value = b }
standing k b (Some x) = x

abbrev pub without_name : Text → List Text → List Text
without_name n names = filter (λ m. not (bytes_eq m n)) names

abbrev pub with_name : Text → List Text → List Text
with_name n names = names ++ n ∷ []
