-- The tests of requests on the caller's own items that the store and the rights don't make.
use Rattle.std.specs.Prelude.{not, List, [], ◌∷◌, Option}
use Rattle.rp_rows.specs.declared.rows.Key.{Key}
use Rattle.rp_rows.specs.declared.rows.Right.{Right}
use Rattle.rp_rows.specs.declared.rows.Right.TheVariants.{Groups}
use Rattle.rp_rows.specs.Rows.{Text, key_of}
use Rattle.rp_plain.specs.declared.messages.Refusal.{Refusal}
use Rattle.rp_plain.specs.declared.messages.Refusal.TheVariants.{UnknownSchema}
use Rattle.rp_plain.specs.Readers.{Readers}
use Rattle.rp_plain.specs.Meaning.{has_schema, name_fault, names_fault, when, is_no_partner, unseen, lacks}
use Rattle.rp_plain.specs.Groups.{member_fault, is_of_other}

-- of a new item of a schema, whose name is in upper case
abbrev pub new_tests : Readers → Text → Text → List (Option Refusal)
new_tests a name schema = name_fault name ∷ when (not (has_schema a.schemas schema)) UnknownSchema ∷ []

-- of an item of this name, on which he has this right
abbrev pub own_tests : Text → Right → List (Option Refusal)
own_tests name right = name_fault name ∷ unseen right ∷ []

-- the same, where a partner's grant is changed
abbrev pub grant_tests : Readers → Text → Text → Right → List (Option Refusal)
grant_tests a name to right = names_fault name to ∷ is_no_partner a to ∷ unseen right ∷ []

-- of a group of this name and a model that it may list
abbrev pub member_tests : Readers → Text → Text → Key → List (Option Refusal)
member_tests a c group k = member_fault group k ∷ is_no_partner a k.owner ∷ unseen (a.group_right (key_of c group)) ∷ []

-- the same, of a model that it is to list
abbrev pub include_tests : Readers → Text → Text → Key → List (Option Refusal)
include_tests a c group k =
    member_fault group k ∷ is_no_partner a k.owner ∷ unseen (a.group_right (key_of c group)) ∷ lacks Groups (a.model_right k) ∷ is_of_other (a.content k) (a.listing (key_of c group)) ∷ []
