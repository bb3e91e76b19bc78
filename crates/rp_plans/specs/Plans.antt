-- What a plan keeps, and what it is to give.
use Rattle.std.specs.Prelude.{◌≡◌, ◌≢◌, List, [], ◌∷◌, map, Some, Result, MatchResult, false}
use Rattle.std.specs.List.{flat_map, AllByRecursion}
use Rattle.rp_rows.specs.Rows.{Text, same_key}
use Rattle.rp_plain.specs.declared.messages.Request.{Request}
use Rattle.rp_plain.specs.declared.messages.Refusal.{Refusal}
use Rattle.rp_plain.specs.declared.messages.Refusal.TheVariants.{NoMemory}
use Rattle.rp_plain.specs.Readers.{Readers}
use Rattle.rp_plain.specs.Meaning.{first_some}
use Rattle.rp_plain.specs.Step.{meaning}
use Rattle.rp_store.specs.declared.changes.Change.{Change}
use Rattle.rp_store.specs.declared.changes.Change.TheVariants.{Create, Remove}
use Rattle.rp_store.specs.Changes.{key_of}
use Rattle.rp_plans.specs.declared.edits.Edit.{Edit}
use Rattle.rp_plans.specs.declared.edits.Edit.TheVariants.{OfModel}
use Rattle.rp_plans.specs.declared.edits.Plan.{Plan}
use Rattle.rp_plans.specs.Edits.{edits_of, fault_of, Sees}

-- the change is of what a model holds, and not of whether there is one
abbrev pub IsOfContent : Change → Type 0
IsOfContent (Create k schema) = ⊥
IsOfContent (Remove k) = ⊥
IsOfContent _ = Unit {0}

abbrev pub IsApartFrom : Edit → Edit → Type 0
IsApartFrom (OfModel change) (OfModel other) = IsOfContent change × IsOfContent other × (same_key (key_of change) (key_of other) ≡ false)
IsApartFrom _ _ = ⊥

-- each changes what a model of its own holds, or it is the only one
abbrev pub AreApart : List Edit → Type 0
AreApart [] = Unit {0}
AreApart (e ∷ es) = AllByRecursion (IsApartFrom e) es × AreApart es

-- c's request is refused as its edits are, and where nothing speaks against these, this is its reply and they are its edits
pub record IsAnswer (a : Readers) (c : Text) (q : Request) (plan : Plan) : Type 0 where
  pub decides : first_some (map (fault_of a) plan.edits) ≡ first_some (meaning a c q).tests
  pub replies : plan.reply ≡ (meaning a c q).reply
  pub edits : flat_map (edits_of a) plan.edits ≡ (meaning a c q).edits
  pub seen : AllByRecursion (Sees a c) plan.edits
  pub apart : AreApart plan.edits

-- c's request is refused so, or memory is wanting
abbrev pub IsRefusal : Readers → Text → Request → Refusal → Type 0
IsRefusal a c q refusal = refusal ≢ NoMemory → first_some (meaning a c q).tests ≡ Some refusal

abbrev pub Plans : Readers → Text → Request → Result Plan Refusal → Type 0
Plans a c q result = MatchResult result (IsAnswer a c q) (IsRefusal a c q)
