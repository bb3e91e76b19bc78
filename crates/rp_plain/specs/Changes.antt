-- What a request may change, by its own words: no repository is looked at.
use Rattle.std.specs.Prelude.{◌≡◌, ◌≢◌, ℕ, false, List, [], ◌∷◌, Option, Some, None}
use Rattle.std.specs.List.{AllByRecursion}
use Rattle.rp_rows.specs.declared.rows.Key.{Key}
use Rattle.rp_rows.specs.Rows.{Text, key_of}
use Rattle.rp_plain.specs.declared.messages.Request.{Request}
use Rattle.rp_plain.specs.declared.messages.Request.TheVariants.{CreateModel, DeleteModel, Put, Export, Names, Get, Add, Set, DropInstance, ListItems, GrantModel, RevokeModel, CreateGroup, DeleteGroup, GrantGroup, RevokeGroup, Include, Exclude, Members, Extent, Users, Validate, Schemas, CheckSchema}
use Rattle.rp_plain.specs.Plain.{Plain, Kind, OfModel, OfGroup, reaches}

-- the names whose rows c's request may change: to include and to exclude change the group's, all others that change anything their item's
abbrev pub names_changed : Text → Request → List (Kind × Key)
names_changed c (CreateModel name schema) = (OfModel, key_of c name) ∷ []
names_changed c (DeleteModel name) = (OfModel, key_of c name) ∷ []
names_changed c (Put model file links) = (OfModel, model) ∷ []
names_changed c (Export model links) = []
names_changed c (Names model) = []
names_changed c (Get model instance) = []
names_changed c (Add model text) = (OfModel, model) ∷ []
names_changed c (Set model instance text) = (OfModel, model) ∷ []
names_changed c (DropInstance model instance) = (OfModel, model) ∷ []
names_changed c ListItems = []
names_changed c (GrantModel name to level) = (OfModel, key_of c name) ∷ []
names_changed c (RevokeModel name to) = (OfModel, key_of c name) ∷ []
names_changed c (CreateGroup name schema) = (OfGroup, key_of c name) ∷ []
names_changed c (DeleteGroup name) = (OfGroup, key_of c name) ∷ []
names_changed c (GrantGroup name to) = (OfGroup, key_of c name) ∷ []
names_changed c (RevokeGroup name to) = (OfGroup, key_of c name) ∷ []
names_changed c (Include group model) = (OfGroup, key_of c group) ∷ []
names_changed c (Exclude group model) = (OfGroup, key_of c group) ∷ []
names_changed c (Members group) = []
names_changed c (Extent group entity) = []
names_changed c (Users group place role) = []
names_changed c (Validate group) = []
names_changed c Schemas = []
names_changed c (CheckSchema text) = []

-- whom a request grants to
abbrev pub grants_to : Request → Option Text
grants_to (GrantModel name to level) = Some to
grants_to (GrantGroup name to) = Some to
grants_to _ = None

-- c reaches none of the names that d's request may change, and it is no grant to him
pub record KeepsOff (r : Plain) (c d : List ℕ) (q : Request) : Type 0 where
  pub names : AllByRecursion (λ (n : Kind × Key). reaches r c n.0 n.1 ≡ false) (names_changed d q)
  pub grants : grants_to q ≢ Some c
