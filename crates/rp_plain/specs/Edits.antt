-- What a request changes: rows of models and of groups.
use Rattle.std.specs.Prelude.{◌≡◌, ℕ, Bool, false, List, [], ◌∷◌, map}
use Rattle.std.specs.List.{AllByRecursion}
use Rattle.rp_rows.specs.declared.rows.ModelContent.{ModelContent}
use Rattle.rp_rows.specs.declared.rows.Listing.{Listing}
use Rattle.rp_rows.specs.declared.rows.Key.{Key}
use Rattle.rp_rows.specs.Rows.{Text}
use Rattle.rp_rows.specs.Alterations.{Alteration, altered, gives_to}
use Rattle.rp_plain.specs.Plain.{Plain, Kind, OfModel, OfGroup, reaches}

-- a kind, a name and what is done there
pub data Edit : Type 0 where
  EditModel : Key → Alteration ModelContent → Edit
  EditGroup : Key → Alteration Listing → Edit

abbrev pub edited_by : Edit → Plain → Plain
edited_by (EditModel k a) r = record r { models = altered k a r.models }
edited_by (EditGroup k a) r = record r { groups = altered k a r.groups }

abbrev pub changed : List Edit → Plain → Plain
changed [] r = r
changed (e ∷ es) r = changed es (edited_by e r)

-- the name whose row an edit changes
abbrev pub name_of : Edit → Kind × Key
name_of (EditModel k a) = (OfModel, k)
name_of (EditGroup k a) = (OfGroup, k)

abbrev pub names_of : List Edit → List (Kind × Key)
names_of es = map name_of es

abbrev pub is_grant_for : Text → Edit → Bool
is_grant_for c (EditModel k a) = gives_to c a
is_grant_for c (EditGroup k a) = gives_to c a

-- these edits change no name that c reaches, and none is a grant to him
pub record Avoids (r : Plain) (c : Text) (es : List Edit) : Type 0 where
  pub names : AllByRecursion (λ (n : Kind × Key). reaches r c n.0 n.1 ≡ false) (names_of es)
  pub grants : AllByRecursion (λ (e : Edit). is_grant_for c e ≡ false) es
