-- What replies and snapshots have in common as JSON.
use Rattle.std.specs.Prelude.{ℕ, List, map, codes}
use Rattle.serde_json.specs.Data.{Data, number, unsigned, string, array, object, Members, no_members, member}
use Rattle.serde_json.specs.View.{items_of}
use Rattle.rp_content.specs.declared.link.Link.{Link}

-- ---- members, whose keys are to be in byte order

abbrev pub with_number : List ℕ → ℕ → Members → Members
with_number key n ms = member key (number (unsigned n)) ms

abbrev pub with_string : List ℕ → List ℕ → Members → Members
with_string key text ms = member key (string text) ms

-- ---- lists

-- a list of what is made of these
abbrev pub list_of : {A : Type 0} → (A → Data) → List A → Data
list_of make xs = array (items_of (map make xs))

abbrev pub link_data : Link → Data
link_data l = object (with_number (codes "instance") l.target (with_string (codes "model") l.model (with_number (codes "name") l.name (with_string (codes "owner") l.owner no_members))))
