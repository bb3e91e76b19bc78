-- The requests that read what a group lists, and its population, and that validate it.
use Rattle.std.specs.Prelude.{Bool, not, List, [], ◌∷◌, map, Option, Some, None}
use Rattle.std.specs.List.{list_any}
use Rattle.ex_types.specs.Checked.{Checked}
use Rattle.rp_rows.specs.declared.rows.Listing.{Listing}
use Rattle.rp_rows.specs.declared.rows.Key.{Key}
use Rattle.rp_rows.specs.Rows.{Text, same_key}
use Rattle.rp_population.specs.declared.place.Place.{Place}
use Rattle.rp_population.specs.Populations.{Counted, Placed, population, has_place, places}
use Rattle.rp_population.specs.Entities as entities
use Rattle.rp_population.specs.Uses as uses
use Rattle.rp_plain.specs.declared.lists.Member.{Member}
use Rattle.rp_plain.specs.declared.messages.Refusal.TheVariants.{NoSuchInstance}
use Rattle.rp_plain.specs.declared.messages.Reply.TheVariants as reply
use Rattle.rp_plain.specs.declared.reports.ToldReport.{ToldReport}
use Rattle.rp_plain.specs.Readers.{Readers}
use Rattle.rp_plain.specs.Meaning.{Meaning, schema_named, when, key_fault, is_no_partner, unseen}
use Rattle.rp_plain.specs.Groups.{members_of}
use Rattle.rp_plain.specs.Reports.{validated}

-- ---- members

abbrev pub counts_among : List Counted → Key → Bool
counts_among counted k = list_any (λ m. same_key k m.model) counted

abbrev pub member : List Counted → Key → Member
member counted k = record { model = k; counts = counts_among counted k }

abbrev pub members : Readers → Key → Meaning
members a k = record {
  tests = key_fault k ∷ is_no_partner a k.owner ∷ unseen (a.group_right k) ∷ [];
  reply = reply.Members (map (member (a.counted k)) (members_of (a.listing k)));
  edits = [];
}

-- ---- the population

-- the schema of a group; it is among those that are loaded
abbrev pub group_schema : List Checked → Option Listing → Option Checked
group_schema schemas None = None
group_schema schemas (Some g) = schema_named schemas g.schema

abbrev pub extent_by : Option Checked → Text → List Placed → List Placed
extent_by None entity xs = []
extent_by (Some schema) entity xs = entities.extent schema entity xs

-- none of an entity that the schema lacks
abbrev pub extent : Readers → Key → Text → Meaning
extent a k entity = record {
  tests = key_fault k ∷ is_no_partner a k.owner ∷ unseen (a.group_right k) ∷ [];
  reply = reply.Extent (places (extent_by (group_schema a.schemas (a.listing k)) entity (population (a.counted k))));
  edits = [];
}

abbrev pub users_by : Option Checked → Text → Place → List Placed → List Placed
users_by None role p xs = []
users_by (Some schema) role p xs = uses.users schema role p xs

-- the names of the place aren't tested: the population has it or not
abbrev pub users : Readers → Key → Place → Text → Meaning
users a k p role = let xs = population (a.counted k) in record {
  tests = key_fault k ∷ is_no_partner a k.owner ∷ unseen (a.group_right k) ∷ when (not (has_place xs p)) NoSuchInstance ∷ [];
  reply = reply.Users (places (users_by (group_schema a.schemas (a.listing k)) role p xs));
  edits = [];
}

-- ---- validation

abbrev pub validated_by : Option Checked → List Placed → ToldReport
validated_by None xs = record { checks = []; steps = 0 }
validated_by (Some schema) xs = validated schema xs

abbrev pub validate : Readers → Key → Meaning
validate a k = record {
  tests = key_fault k ∷ is_no_partner a k.owner ∷ unseen (a.group_right k) ∷ [];
  reply = reply.Validated (validated_by (group_schema a.schemas (a.listing k)) (population (a.counted k)));
  edits = [];
}
