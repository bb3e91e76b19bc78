-- Links: names of a model that stand for instances of other models.
use Rattle.std.specs.Prelude.{ℕ, Bool, not, ◌&&◌, ◌||◌, nat_le, nat_lt, List, [], ◌∷◌, Option, Some, None, is_some, if◌then◌else◌}
use Rattle.std.specs.List.{list_all}
use Rattle.std.specs.Str.{bytes_eq}
use Rattle.plain_data.specs.Numbers.{is_among}
use Rattle.p21_instances.specs.Instances.{in_order}
use Rattle.rp_content.specs.declared.content.Content.{Content}
use Rattle.rp_content.specs.declared.link.Link.{Link}
use Rattle.rp_rows.specs.declared.rows.ModelContent.{ModelContent}
use Rattle.rp_rows.specs.declared.rows.Key.{Key}
use Rattle.rp_rows.specs.Rows.{Text, same_key, key_of}
use Rattle.rp_rows.specs.Contents.{names, link_names}
use Rattle.rp_rows.specs.Instances.{max_name, instance_of}
use Rattle.rp_plain.specs.declared.messages.LinkFault.{LinkFault}
use Rattle.rp_plain.specs.declared.messages.LinkFaultKind.{LinkFaultKind}
use Rattle.rp_plain.specs.declared.messages.LinkFaultKind.TheVariants.{Defined, Own, NotSeen, OtherSchema, NoInstance}
use Rattle.rp_plain.specs.declared.messages.Refusal.{Refusal}
use Rattle.rp_plain.specs.declared.messages.Refusal.TheVariants as refusal
use Rattle.rp_plain.specs.Readers.{Readers}
use Rattle.rp_plain.specs.Meaning.{when}

-- the links of a model
abbrev pub max_links : ℕ
max_links = 10000

-- the model that it leads to
abbrev pub target_model : Link → Key
target_model l = key_of l.owner l.model

-- in the order of their names; equals stay as they stand
abbrev pub links_in_order : List Link → List Link
links_in_order = in_order (λ l m. nat_lt l.name m.name)

-- what a model holds with these links
abbrev pub linking : List Link → Content → Content
linking links content = record content { links = links_in_order links }

-- ---- numbers that no name is

abbrev pub has_names : Link → Bool
has_names l = nat_le l.name max_name && nat_le l.target max_name

-- a number of a request has at most 18 digits
abbrev pub no_request : List Link → Option Refusal
no_request links = when (not (list_all has_names links)) refusal.BadRequest

-- ---- faults

-- what is wrong with an instance that is linked to, in a model that may be seen, where its schema is to be this one
abbrev pub target_fault : Text → ℕ → Option ModelContent → Option LinkFaultKind
target_fault schema target None = Some NotSeen
target_fault schema target (Some h) = if not (bytes_eq h.schema schema) then Some OtherSchema else (if is_some (instance_of target h.content.instances) then None else Some NoInstance)

module _ (a : Readers) (k : Key) (schema : Text) (instances : List ℕ) where
  -- the first that holds of what is wrong with a link of a model of this name and schema that has these instances; others stand behind it
  abbrev pub fault_of : List ℕ → Link → Option LinkFaultKind
  fault_of others l =
      if is_among instances l.name || is_among others l.name then Some Defined
      else (if same_key k (target_model l) then Some Own
      else target_fault schema l.target (a.content (target_model l)))

  abbrev pub told_first : ℕ → Option LinkFaultKind → Option LinkFault → Option LinkFault
  told_first name None others = others
  told_first name (Some kind) others = Some (record { link = name; kind = kind })

  -- the fault of the first that has one, of links in the order of their names
  abbrev pub first_fault : List Link → Option LinkFault
  first_fault [] = None
  first_fault (l ∷ ls) = told_first l.name (fault_of (link_names ls) l) (first_fault ls)

abbrev pub told : Option LinkFault → Option Refusal
told None = None
told (Some fault) = Some (refusal.LinkFault fault)

-- why these links can't be those of a model of this name that holds the content
abbrev pub link_refusal : Readers → Key → Text → List Link → Content → Option Refusal
link_refusal a k schema links content = told (first_fault a k schema (names content.instances) (links_in_order links))
