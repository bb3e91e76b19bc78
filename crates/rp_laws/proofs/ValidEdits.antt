-- A repository is valid if its two tables are; edits that are fit keep it so.
use Rattle.std.proofs.Common.{◌≡◌, ◌≤◌, true, List, [], ◌∷◌, length, None}
use Rattle.std.specs.List.{AllByRecursion}
use Rattle.ex_types.specs.Checked.{Checked}
use Rattle.rp_rows.specs.declared.rows.Grant.{Grant}
use Rattle.rp_rows.specs.declared.rows.Listing.{Listing}
use Rattle.rp_rows.specs.declared.rows.Key.{Key}
use Rattle.rp_rows.specs.Rows.{Text}
use Rattle.rp_plain.specs.Plain.{Plain}
use Rattle.rp_plain.specs.Edits.{Edit, EditModel, EditGroup, edited_by, changed}
use Rattle.rp_plain.specs.Meaning.{has_schema}
use Rattle.rp_rows.specs.Listings.{max_models, max_groups, max_members, IsListed}
use Rattle.rp_plain.specs.Opening.{new_fault}
use Rattle.rp_plain.specs.Valid.{IsValidContent, IsValidModel, IsValidMember, IsValidGroup, IsRead, IsValid}
use Rattle.rp_laws.proofs.ValidTables.{all_each, IsGood, IsGoodTable, IsFit, altered_good}

-- ---- a valid repository is two good tables

pub record IsValidListing (schemas : List Checked) (partners : List Text) (h : Listing) : Type 0 where
  pub schema : has_schema schemas h.schema ≡ true
  pub members : AllByRecursion (IsValidMember partners) h.members
  pub order : IsListed h
  pub few : length h.members ≤ max_members

-- under any name
abbrev pub ListingAt : List Checked → List Text → Key → Listing → Type 0
ListingAt schemas partners k h = IsValidListing schemas partners h

abbrev pub Anything : Grant → Type 0
Anything g = Unit {0}

any_grants : (gs : List Grant) → AllByRecursion Anything gs
any_grants [] = tt
any_grants (g ∷ gs) = (tt, any_grants gs)

abbrev Models : Plain → Type 0
Models r = IsGoodTable r.partners (IsValidContent r.schemas r.partners) Anything max_models r.models

abbrev Groups : Plain → Type 0
Groups r = IsGoodTable r.partners (ListingAt r.schemas r.partners) IsRead max_groups r.groups

models_good : (r : Plain) → IsValid r → Models r
models_good r valid = record {
  order = valid.order.models;
  rows = all_each (IsValidModel r.schemas r.partners) (IsGood r.partners (IsValidContent r.schemas r.partners) Anything max_models)
      (λ m v. record { row = v.row; holds = v.content; grants = any_grants m.grants }) r.models valid.models;
  few = valid.few_models;
}

groups_good : (r : Plain) → IsValid r → Groups r
groups_good r valid = record {
  order = valid.order.groups;
  rows = all_each (IsValidGroup r.schemas r.partners) (IsGood r.partners (ListingAt r.schemas r.partners) IsRead max_groups)
      (λ g v. record { row = v.row; holds = record { schema = v.schema; members = v.members; order = v.order; few = v.few }; grants = v.levels }) r.groups valid.groups;
  few = valid.few_groups;
}

both_valid : (r : Plain) → new_fault r.schemas r.partners ≡ None → Models r → Groups r → IsValid r
both_valid r opens models groups = record {
  opens = opens;
  order = record { models = models.order; groups = groups.order };
  models = all_each (IsGood r.partners (IsValidContent r.schemas r.partners) Anything max_models) (IsValidModel r.schemas r.partners)
      (λ m good. record { row = good.row; content = good.holds }) r.models models.rows;
  groups = all_each (IsGood r.partners (ListingAt r.schemas r.partners) IsRead max_groups) (IsValidGroup r.schemas r.partners)
      (λ g good. record { row = good.row; levels = good.grants; schema = good.holds.schema; members = good.holds.members; order = good.holds.order; few = good.holds.few }) r.groups groups.rows;
  few_models = models.few;
  few_groups = groups.few;
}

-- ---- edits that keep it valid

abbrev pub IsFitEdit : Plain → Edit → Type 0
IsFitEdit r (EditModel k a) = IsFit r.partners (IsValidContent r.schemas r.partners) Anything max_models r.models k a
IsFitEdit r (EditGroup k a) = IsFit r.partners (ListingAt r.schemas r.partners) IsRead max_groups r.groups k a

abbrev pub AreFit : Plain → List Edit → Type 0
AreFit r [] = Unit {0}
AreFit r (e ∷ es) = IsFitEdit r e × AreFit (edited_by e r) es

edited_valid : (e : Edit) (r : Plain) → IsValid r → IsFitEdit r e → IsValid (edited_by e r)
edited_valid (EditModel k a) r valid fit =
    both_valid (edited_by (EditModel k a) r) valid.opens (altered_good r.partners (IsValidContent r.schemas r.partners) Anything max_models r.models k a (models_good r valid) fit) (groups_good r valid)
edited_valid (EditGroup k a) r valid fit =
    both_valid (edited_by (EditGroup k a) r) valid.opens (models_good r valid) (altered_good r.partners (ListingAt r.schemas r.partners) IsRead max_groups r.groups k a (groups_good r valid) fit)

pub changed_valid : (es : List Edit) (r : Plain) → IsValid r → AreFit r es → IsValid (changed es r)
changed_valid [] r valid fit = valid
changed_valid (e ∷ es) r valid fit = changed_valid es (edited_by e r) (edited_valid e r valid fit.0) fit.1
