-- Rows of names found by a hash of the name.
use Rattle.std.specs.Prelude.{◌≡◌, ℕ, ◌+◌, ◌*◌, ◌%◌, ◌^◌, List, [], ◌∷◌, if◌then◌else◌, Option, None, Some}
use Rattle.std.specs.Global.{Vec}
use Rattle.std.specs.Str.{bytes_eq}
use Rattle.std.specs.Ordering.{nat_cmp}
use Rattle.std.specs.BTreeMap.{BTreeMap, get_by}
use Rattle.std.specs.Borrow.{Bor}
use Rattle.name_tables.specs.declared.rows.Hashed.{Hashed}
use Rattle.name_tables.specs.Names.{named, values_of}

-- a hash with one byte more
unfoldable pub mixed : ℕ → ℕ → ℕ
mixed hash byte = ((hash * 1099511628211) % 2 ^ 64 + byte) % 2 ^ 64

abbrev pub hash_after : ℕ → List ℕ → ℕ
hash_after hash [] = hash
hash_after hash (byte ∷ bytes) = hash_after (mixed hash byte) bytes

abbrev pub hash_of : List ℕ → ℕ
hash_of = hash_after 0

-- what stands beside the first name of the hash that this name has
abbrev pub first_at : {A : Type 0} → List ℕ → BTreeMap ℕ (Hashed A) → Option (Hashed A)
first_at name by_hash = get_by (nat_cmp (hash_of name)) by_hash

-- what stands beside a name, given that of the first name of its hash, and what the other names have
abbrev pub beside : {A : Type 0} → List ℕ → Option (Hashed A) → List A → List A
beside name None others = []
beside name (Some first) others = if bytes_eq first.name.now name then first.values.items else others

abbrev pub values_in : {A : Type 0} → List ℕ → BTreeMap ℕ (Hashed A) → BTreeMap (Bor (List ℕ)) (Vec A) → List A
values_in name by_hash others = beside name (first_at name by_hash) (values_of name others)

-- the maps have, at any bytes, all that stands beside the name of these bytes
pub record HasRows {A : Type 0} (by_hash : BTreeMap ℕ (Hashed A)) (others : BTreeMap (Bor (List ℕ)) (Vec A)) (rows : List (List ℕ × A)) : Type 0 where
  pub has : (name : List ℕ) → values_in name by_hash others ≡ named name rows
  -- a name whose hash nothing has is none of the others
  pub alone : (name : List ℕ) → first_at name by_hash ≡ None → values_of name others ≡ []
