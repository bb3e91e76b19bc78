-- What is done to one row of a table.
use Rattle.std.specs.Prelude.{ℕ, Bool, false, List, [], Option, Some, None, option_map}
use Rattle.std.specs.List.{find}
use Rattle.std.specs.Str.{bytes_eq}
use Rattle.sorted_tables.specs.Table.{with_row}
use Rattle.rp_rows.specs.declared.rows.Level.{Level}
use Rattle.rp_rows.specs.declared.rows.Grant.{Grant}
use Rattle.rp_rows.specs.declared.rows.Key.{Key}
use Rattle.rp_rows.specs.Rows.{Text, text_cmp, key_cmp, grant_key, Row, row_key, is_row}

-- what the row of a name holds from now on (none: it is gone, with its grants), or one partner's grant on it
pub data Alteration (A : Type 0) : Type 0 where
  Holds : Option A → Alteration A
  Grants : List ℕ → Option Level → Alteration A

abbrev pub grants_of : {A : Type 0} → Option (Row A) → List Grant
grants_of None = []
grants_of (Some x) = x.grants

abbrev pub grant_for : Text → Option Level → Option Grant
grant_for to None = None
grant_for to (Some l) = Some (record { partner = to; level = l })

abbrev pub granting : {A : Type 0} → Text → Option Level → Row A → Row A
granting to l x = record x { grants = with_row text_cmp grant_key to (grant_for to l) x.grants }

-- the row that stands at a key afterwards
abbrev pub alter : {A : Type 0} → Key → Alteration A → Option (Row A) → Option (Row A)
alter k (Holds None) old = None
alter k (Holds (Some a)) old = Some (record { owner = k.owner; name = k.name; holds = a; grants = grants_of old })
alter k (Grants to l) old = option_map (granting to l) old

abbrev pub altered : {A : Type 0} → Key → Alteration A → List (Row A) → List (Row A)
altered k a xs = with_row key_cmp row_key k (alter k a (find (is_row k) xs)) xs

-- whether it gives c a level
abbrev pub gives_to : {A : Type 0} → Text → Alteration A → Bool
gives_to c (Holds a) = false
gives_to c (Grants to None) = false
gives_to c (Grants to (Some l)) = bytes_eq to c
