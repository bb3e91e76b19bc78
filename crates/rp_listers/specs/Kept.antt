-- Which groups may list a model: their keys, under a number of the model's key.
use Rattle.std.specs.Prelude.{ℕ, Bool, false, ◌||◌, List, [], ◌∷◌, ◌++◌, take, Option, Some, None}
use Rattle.std.specs.List.{list_any}
use Rattle.std.specs.Map.{lookup}
use Rattle.std.specs.BTreeMap.{is_at}
use Rattle.std.specs.Ordering.{nat_cmp}
use Rattle.std.specs.Int.{w64, from_be_bytes}
use Rattle.sha2.specs.Sha256.{sha256}
use Rattle.sorted_tables.specs.Table.{with_row}
use Rattle.rp_rows.specs.declared.rows.Key.{Key}
use Rattle.rp_rows.specs.Rows.{key_cmp, same_key}
use Rattle.rp_rows.specs.Listings.{itself}

-- owner and name in one, with a byte between them that no name has
abbrev pub joined_text : Key → List ℕ
joined_text k = k.owner ++ 47 ∷ k.name

-- the first eight bytes of the digest of a key
unfoldable pub number_of : Key → ℕ
number_of k = from_be_bytes w64 (take 8 (sha256 (joined_text k)))

-- under the number of a model one group that may list it, and the others in their order
pub record KeptListers : Type 0 where
  pub firsts : List (ℕ × Key)
  pub others : List (ℕ × List Key)

abbrev pub first_at : ℕ → List (ℕ × Key) → Option Key
first_at n firsts = lookup (is_at (nat_cmp n)) firsts

abbrev pub all_of : Option (List Key) → List Key
all_of None = []
all_of (Some ks) = ks

abbrev pub others_at : ℕ → List (ℕ × List Key) → List Key
others_at n others = all_of (lookup (is_at (nat_cmp n)) others)

abbrev pub is_first : Key → Option Key → Bool
is_first k None = false
is_first k (Some j) = same_key k j

abbrev pub has_key : Key → List Key → Bool
has_key k ks = list_any (same_key k) ks

-- the group stands under the number
abbrev pub tells_at : Key → ℕ → KeptListers → Bool
tells_at k n l = is_first k (first_at n l.firsts) || has_key k (others_at n l.others)

-- the group k is told of to who asks for the model m
abbrev pub tells : Key → Key → KeptListers → Bool
tells k m l = tells_at k (number_of m) l

abbrev pub without_key : Key → List Key → List Key
without_key k ks = with_row key_cmp itself k None ks

abbrev pub with_key : Key → List Key → List Key
with_key k ks = with_row key_cmp itself k (Some k) ks
