-- What is kept of a line as it is read: its links and its place, and beside them no list and no object.
use Rattle.std.specs.Prelude.{ℕ, List, Option, codes, length, if◌then◌else◌, option_and_then}
use Rattle.std.specs.Str.{bytes_eq}
use Rattle.json.specs.Json.{value, items}
use Rattle.json.specs.Token.{Token}
use Rattle.serde_json.specs.Data.{Data, Items, no_items, item, Members}
use Rattle.serde_json.specs.Find.{as_array}
use Rattle.serde_json.specs.Read.{of_items, converted}
use Rattle.shallow_json.specs.Shallow.{plain, shallow}
use Rattle.rp_requests.specs.declared.lines.Lists.{Lists}
use Rattle.rp_requests.specs.Asks.{links_of, place_of, lists_in}

-- of a value, with its items, if it is a list
abbrev pub seen : Data → Data × Option Items
seen d = (plain d, as_array d)

-- with what is made of its items
abbrev pub with_list : {A : Type 0} → (Items → Option A) → Data → Data × Option A
with_list make d = (plain d, option_and_then make (as_array d))

-- ---- items

-- those of a member's list, up to the bracket that closes it
abbrev pub items_read : List Token → Option (Items × List Token)
items_read ts = converted of_items (items (value 125) (length ts) ts)

abbrev pub plain_items : Items → Items
plain_items no_items = no_items
plain_items (item d ds) = item (plain d) (plain_items ds)

-- ---- members

-- the lists, once a member of this name stands behind members with these
abbrev pub lists_at : List ℕ → Data → Lists → Lists
lists_at name d lists =
    if bytes_eq name (codes "links") then record lists { links = option_and_then links_of (as_array d) }
    else (if bytes_eq name (codes "of") then record lists { place = option_and_then place_of (as_array d) } else lists)

-- of a value, as a member of this name, behind members with these lists
abbrev pub kept_at : List ℕ → Lists → Data → Data × Lists
kept_at name lists d = (plain d, lists_at name d lists)

-- of members
abbrev pub kept : Members → Members × Lists
kept ms = (shallow ms, lists_in ms)
