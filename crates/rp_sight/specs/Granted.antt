-- For each partner and each owner the names of the owner's groups that the partner is granted.
use Rattle.std.specs.Prelude.{◌≡◌, Bool, true, false, ◌&&◌, ◌++◌, List, [], ◌∷◌, filter, Option, Some, None}
use Rattle.std.specs.List.{find, list_any}
use Rattle.std.specs.Str.{bytes_eq}
use Rattle.rp_rows.specs.declared.rows.Level.{Level}
use Rattle.rp_rows.specs.declared.rows.Key.{Key}
use Rattle.rp_rows.specs.Rows.{Text, is_row, Model, GroupRow, key_of}
use Rattle.rp_rows.specs.Sight.{is_granted, counts}
use Rattle.rp_store.specs.declared.keyed.Entry.{Entry}
use Rattle.rp_store.specs.Entries.{is_entry, without_name}

-- names, under a key whose owner is the partner, and whose name is that of the groups' owner
abbrev pub Names : Type 0
Names = Entry (List Text)

abbrev pub has_name : Text → List Text → Bool
has_name n names = list_any (λ m. bytes_eq m n) names

abbrev pub value_of : Option Names → List Text
value_of None = []
value_of (Some e) = e.value

abbrev pub names_at : Key → List Names → List Text
names_at j es = value_of (find (is_entry j) es)

-- the name is among them from now on, or no longer
abbrev pub relisted : Text → Option Level → List Text → List Text
relisted n None names = without_name n names
relisted n (Some l) names = without_name n names ++ n ∷ []

-- a group that was looked up is granted to the partner
abbrev pub is_granted_at : Text → Option GroupRow → Bool
is_granted_at p None = false
is_granted_at p (Some g) = is_granted p g

-- the names under a partner and an owner are those of the owner's groups that the partner is granted, and no others
abbrev pub KeepsGranted : List Names → List GroupRow → Type 0
KeepsGranted es gs = (p : Text) (k : Key) → has_name k.name (names_at (key_of p k.owner) es) ≡ is_granted_at p (find (is_row k) gs)

-- ---- one partner's part

abbrev pub granted_of : Text → List Names → List Names
granted_of c es = filter (λ e. bytes_eq e.key.owner c) es

-- the key stands among the names under its owner
abbrev pub tells : Key → Names → Bool
tells k e = bytes_eq e.key.name k.owner && has_name k.name e.value

-- each group that c is granted stands among these
abbrev pub TellsGranted : Text → List Names → List GroupRow → Type 0
TellsGranted c es gs = (k : Key) (g : GroupRow) → find (is_row k) gs ≡ Some g → is_granted c g ≡ true → list_any (tells k) es ≡ true

-- a group that was looked up is granted to c, and the model counts there
abbrev pub shows : Text → Model → Option GroupRow → Bool
shows c m None = false
shows c m (Some g) = is_granted c g && counts m g

-- the model counts in a group of one of these names that c is granted
abbrev pub counts_under : Text → List GroupRow → Names → Model → Bool
counts_under c gs e m = list_any (λ n. shows c m (find (is_row (key_of e.key.name n)) gs)) e.value

abbrev pub counts_in_any : Text → List GroupRow → List Names → Model → Bool
counts_in_any c gs es m = list_any (λ e. counts_under c gs e m) es
