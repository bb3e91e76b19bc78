-- The groups that a model's listers tell of, and whether the model counts in one of them for a partner.
use Rattle.std.specs.Prelude.{◌≡◌, true, Bool, false, ◌||◌, List, Option, Some, None}
use Rattle.std.specs.List.{find, list_any, AllByRecursion}
use Rattle.rp_rows.specs.declared.rows.Key.{Key}
use Rattle.rp_rows.specs.Rows.{Text, row_key, is_row, Model, GroupRow}
use Rattle.rp_listers.specs.Kept.{KeptListers, number_of, first_at, others_at, tells}
use Rattle.rp_sight.specs.Granted.{shows}

-- who asks for one of these models is told of the group k
abbrev pub AreTold : Key → List Key → KeptListers → Type 0
AreTold k models listers = AllByRecursion (λ m. tells k m listers ≡ true) models

-- who asks for a model is told of each group that lists it
abbrev pub KeepsListed : KeptListers → List GroupRow → Type 0
KeepsListed listers gs = (k : Key) (g : GroupRow) → find (is_row k) gs ≡ Some g → AreTold k g.holds.members listers

-- the group of the key is granted to c, and the model counts there
abbrev pub shows_at : Text → List GroupRow → Model → Key → Bool
shows_at c gs m k = shows c m (find (is_row k) gs)

abbrev pub shows_first : Text → List GroupRow → Model → Option Key → Bool
shows_first c gs m None = false
shows_first c gs m (Some k) = shows_at c gs m k

-- one of the groups that are told of does
abbrev pub counts_told : Text → List GroupRow → KeptListers → Model → Bool
counts_told c gs listers m = shows_first c gs m (first_at (number_of (row_key m)) listers.firsts) || list_any (shows_at c gs m) (others_at (number_of (row_key m)) listers.others)
