-- The requests that create and delete groups, and that change which models they list.
use Rattle.std.specs.Prelude.{Bool, not, ◌&&◌, nat_le, List, [], ◌∷◌, length, Option, Some, None}
use Rattle.std.specs.Str.{bytes_eq, str_to_ascii_uppercase}
use Rattle.rp_rows.specs.declared.rows.Listing.{Listing}
use Rattle.rp_rows.specs.declared.rows.ModelContent.{ModelContent}
use Rattle.rp_rows.specs.declared.rows.Right.TheVariants.{Reads, Groups}
use Rattle.rp_rows.specs.Names.{is_name}
use Rattle.rp_rows.specs.declared.rows.Key.{Key}
use Rattle.rp_rows.specs.Rows.{Text, key_of}
use Rattle.rp_rows.specs.Listings.{max_groups, max_members, lists_key, with_member, without_member}
use Rattle.rp_rows.specs.Sight.{at_least}
use Rattle.rp_rows.specs.Alterations.{Holds}
use Rattle.rp_plain.specs.declared.messages.Refusal.{Refusal}
use Rattle.rp_plain.specs.declared.messages.Refusal.TheVariants.{BadName, Exists, WrongSchema, Membership, TooMany}
use Rattle.rp_plain.specs.declared.messages.Reply.TheVariants.{Done}
use Rattle.rp_plain.specs.Readers.{Readers}
use Rattle.rp_plain.specs.Edits.{Edit, EditGroup}
use Rattle.rp_plain.specs.Meaning.{Meaning, when, name_fault, is_no_partner, is_no_schema, unseen, lacks}

-- a group as it is created
abbrev pub new_listing : Text → Listing
new_listing schema = record { schema = str_to_ascii_uppercase schema; members = [] }

abbrev pub create_group : Readers → Text → Text → Text → Meaning
create_group a c name schema = record {
  tests = name_fault name ∷ is_no_schema a schema ∷ when (at_least Reads (a.group_right (key_of c name))) Exists ∷ when (nat_le max_groups a.group_count) TooMany ∷ [];
  reply = Done;
  edits = EditGroup (key_of c name) (Holds (Some (new_listing schema))) ∷ [];
}

abbrev pub delete_group : Readers → Text → Text → Meaning
delete_group a c name = record {
  tests = name_fault name ∷ unseen (a.group_right (key_of c name)) ∷ [];
  reply = Done;
  edits = EditGroup (key_of c name) (Holds None) ∷ [];
}

-- ---- members

abbrev pub members_of : Option Listing → List Key
members_of None = []
members_of (Some g) = g.members

abbrev pub is_member : Key → Option Listing → Bool
is_member k g = lists_key k (members_of g)

-- the name of a group, and a model's
abbrev pub member_fault : Text → Key → Option Refusal
member_fault group k = when (not (is_name group && is_name k.owner && is_name k.name)) BadName

-- the model is of another schema than the group
abbrev pub is_of_other : Option ModelContent → Option Listing → Option Refusal
is_of_other (Some h) (Some g) = when (not (bytes_eq h.schema g.schema)) WrongSchema
is_of_other _ _ = None

abbrev pub relisted : Key → (Listing → Listing) → Option Listing → List Edit
relisted k change None = []
relisted k change (Some g) = EditGroup k (Holds (Some (change g))) ∷ []

-- the group is the caller's own; of the model he needs the level Group
abbrev pub include : Readers → Text → Text → Key → Meaning
include a c group k = let g = a.listing (key_of c group) in record {
  tests = member_fault group k ∷ is_no_partner a k.owner ∷ unseen (a.group_right (key_of c group)) ∷ lacks Groups (a.model_right k) ∷ is_of_other (a.content k) g
      ∷ when (is_member k g) Membership ∷ when (nat_le max_members (length (members_of g))) TooMany ∷ [];
  reply = Done;
  edits = relisted (key_of c group) (with_member k) g;
}

-- the model isn't looked at
abbrev pub exclude : Readers → Text → Text → Key → Meaning
exclude a c group k = let g = a.listing (key_of c group) in record {
  tests = member_fault group k ∷ is_no_partner a k.owner ∷ unseen (a.group_right (key_of c group)) ∷ when (not (is_member k g)) Membership ∷ [];
  reply = Done;
  edits = relisted (key_of c group) (without_member k) g;
}
