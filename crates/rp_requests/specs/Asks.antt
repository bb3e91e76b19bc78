-- Which bytes are which requests.
use Rattle.std.specs.Prelude.{ℕ, ◌&&◌, nat_le, List, [], ◌∷◌, Bool, true, false, codes, if◌then◌else◌, Option, Some, None, option_map, option_and_then}
use Rattle.std.specs.List.{list_any}
use Rattle.std.specs.Str.{bytes_eq, is_utf8}
use Rattle.serde_json.specs.Data.{Data, Items, no_items, item, Members, no_members, member}
use Rattle.serde_json.specs.Find.{get_member, as_bool, as_str, as_number, as_u64, as_array, as_object}
use Rattle.serde_json.specs.Read.{read}
use Rattle.shallow_json.specs.Keys.{has_only}
use Rattle.rp_content.specs.declared.link.Link.{Link}
use Rattle.rp_rows.specs.declared.rows.Level.{Level}
use Rattle.rp_rows.specs.declared.rows.Level.TheVariants.{Read, Group, Write}
use Rattle.rp_rows.specs.declared.rows.Key.{Key}
use Rattle.rp_rows.specs.Rows.{key_of}
use Rattle.rp_rows.specs.Instances.{max_name}
use Rattle.rp_population.specs.declared.place.Place.{Place}
use Rattle.rp_plain.specs.declared.messages.Request.{Request}
use Rattle.rp_plain.specs.declared.messages.Request.TheVariants.{CreateModel, DeleteModel, Put, Export, Names, Get, Add, Set, DropInstance, ListItems, GrantModel, RevokeModel, CreateGroup, DeleteGroup, GrantGroup, RevokeGroup, Include, Exclude, Members as ListMembers, Extent, Users, Validate, Schemas, CheckSchema}
use Rattle.rp_requests.specs.declared.asks.RequestLine.{RequestLine}
use Rattle.rp_requests.specs.declared.lines.Lists.{Lists}
use Rattle.rp_requests.specs.declared.grants.ItemKind.{ItemKind}
use Rattle.rp_requests.specs.declared.grants.ItemKind.TheVariants as kinds

-- ---- the members of an object

-- the members but for the one at this key
abbrev pub without : List ℕ → Members → Members
without key no_members = no_members
without key (member k d ms) = if bytes_eq key k then ms else member k d (without key ms)

-- the string at this key
abbrev pub text_in : List ℕ → Members → Option (List ℕ)
text_in key ms = option_and_then as_str (get_member key ms)

-- the string of a member, if there is one: of a member that is no string, nothing
abbrev pub text_if_any : Option Data → Option (Option (List ℕ))
text_if_any None = Some None
text_if_any (Some d) = option_map Some (as_str d)

-- the truth value of a member, if there is one: of a member that is none, nothing
abbrev pub flag_if_any : Option Data → Option Bool
flag_if_any None = Some false
flag_if_any (Some d) = as_bool d

-- a number up to the greatest name of an instance
abbrev pub unless_greater : ℕ → Option ℕ
unless_greater n = if nat_le n max_name then Some n else None

-- the number of a member, if it is a whole one and not too great
abbrev pub number_of : Data → Option ℕ
number_of d = option_and_then unless_greater (option_and_then as_u64 (as_number d))

-- the number at this key
abbrev pub number_in : List ℕ → Members → Option ℕ
number_in key ms = option_and_then number_of (get_member key ms)

-- what is made of the string at this key, and nothing where no string stands there
abbrev pub with_text : {A : Type 0} → List ℕ → Members → (List ℕ → Option A) → Option A
with_text key ms make = option_and_then make (text_in key ms)

-- the owner of an item, and its name, which stands at this key
abbrev pub item_in : List ℕ → Members → Option Key
item_in key ms = with_text (codes "owner") ms (λ owner. with_text key ms (λ name. Some (key_of owner name)))

abbrev pub model_in : Members → Option Key
model_in ms = item_in (codes "model") ms

abbrev pub group_in : Members → Option Key
group_in ms = item_in (codes "group") ms

-- ---- links: each has its four keys and no others

abbrev pub link_in : Members → Option Link
link_in ms = if has_only (codes "instance" ∷ codes "model" ∷ codes "name" ∷ codes "owner" ∷ []) ms then option_and_then (λ target. option_and_then (λ name. option_map (λ model. record { name = name; owner = model.owner; model = model.name; target = target }) (model_in ms)) (number_in (codes "name") ms)) (number_in (codes "instance") ms) else None

abbrev pub link_of : Data → Option Link
link_of d = option_and_then link_in (as_object d)

-- all of these, if each is a link
abbrev pub links_of : Items → Option (List Link)
links_of no_items = Some []
links_of (item d ds) = option_and_then (λ link. option_map (λ links. link ∷ links) (links_of ds)) (link_of d)

-- the links of a member, if there is one: of a member that is no list of links, nothing
abbrev pub links_if_any : Option Data → Option (List Link)
links_if_any None = Some []
links_if_any (Some d) = option_and_then links_of (as_array d)

-- the links at `links`
abbrev pub links_in : Members → Option (List Link)
links_in ms = links_if_any (get_member (codes "links") ms)

-- ---- places: a list of an owner, the name of a model, and that of an instance

abbrev pub place_of : Items → Option Place
place_of (item owner (item name (item instance no_items))) = option_and_then (λ n. option_and_then (λ o. option_map (λ m. record { model = key_of o m; instance = n }) (as_str name)) (as_str owner)) (number_of instance)
place_of _ = None

-- the place at `of`
abbrev pub place_in : Members → Option Place
place_in ms = option_and_then place_of (option_and_then as_array (get_member (codes "of") ms))

-- the lists that requests have
abbrev pub lists_in : Members → Lists
lists_in ms = record { links = links_in ms; place = place_in ms }

-- ---- the requests: each has its own keys and no others; `links` may be left out

abbrev pub create_model_of : Members → Option Request
create_model_of ms = if has_only (codes "name" ∷ codes "schema" ∷ []) ms then with_text (codes "name") ms (λ name. with_text (codes "schema") ms (λ schema. Some (CreateModel name schema))) else None

-- with these links, if they are any
abbrev pub put_of : Option (List Link) → Members → Option Request
put_of links ms = if has_only (codes "file" ∷ codes "links" ∷ codes "model" ∷ codes "owner" ∷ []) ms then option_and_then (λ links. option_and_then (λ model. with_text (codes "file") ms (λ file. Some (Put model file links))) (model_in ms)) links else None

abbrev pub export_of : Members → Option Request
export_of ms = if has_only (codes "links" ∷ codes "model" ∷ codes "owner" ∷ []) ms then option_and_then (λ links. option_map (λ model. Export model links) (model_in ms)) (flag_if_any (get_member (codes "links") ms)) else None

abbrev pub names_of : Members → Option Request
names_of ms = if has_only (codes "model" ∷ codes "owner" ∷ []) ms then option_map Names (model_in ms) else None

abbrev pub get_of : Members → Option Request
get_of ms = if has_only (codes "instance" ∷ codes "model" ∷ codes "owner" ∷ []) ms then option_and_then (λ instance. option_map (λ model. Get model instance) (model_in ms)) (number_in (codes "instance") ms) else None

abbrev pub add_of : Members → Option Request
add_of ms = if has_only (codes "model" ∷ codes "owner" ∷ codes "text" ∷ []) ms then option_and_then (λ model. with_text (codes "text") ms (λ text. Some (Add model text))) (model_in ms) else None

abbrev pub set_of : Members → Option Request
set_of ms = if has_only (codes "instance" ∷ codes "model" ∷ codes "owner" ∷ codes "text" ∷ []) ms then option_and_then (λ instance. option_and_then (λ model. with_text (codes "text") ms (λ text. Some (Set model instance text))) (model_in ms)) (number_in (codes "instance") ms) else None

abbrev pub drop_of : Members → Option Request
drop_of ms = if has_only (codes "instance" ∷ codes "model" ∷ codes "owner" ∷ []) ms then option_and_then (λ instance. option_map (λ model. DropInstance model instance) (model_in ms)) (number_in (codes "instance") ms) else None

abbrev pub delete_model_of : Members → Option Request
delete_model_of ms = if has_only (codes "name" ∷ []) ms then with_text (codes "name") ms (λ name. Some (DeleteModel name)) else None

abbrev pub list_of : Members → Option Request
list_of ms = if has_only [] ms then Some ListItems else None

abbrev pub level_of : List ℕ → Option Level
level_of word = if bytes_eq word (codes "read") then Some Read else (if bytes_eq word (codes "group") then Some Group else (if bytes_eq word (codes "write") then Some Write else None))

abbrev pub kind_of : List ℕ → Option ItemKind
kind_of word = if bytes_eq word (codes "model") then Some kinds.Model else (if bytes_eq word (codes "group") then Some kinds.Group else None)

-- a group is granted to be read alone
abbrev pub grant_for : ItemKind → List ℕ → List ℕ → Level → Option Request
grant_for kinds.Model name to level = Some (GrantModel name to level)
grant_for kinds.Group name to Read = Some (GrantGroup name to)
grant_for kinds.Group name to Group = None
grant_for kinds.Group name to Write = None

abbrev pub revoke_for : ItemKind → List ℕ → List ℕ → Request
revoke_for kinds.Model name to = RevokeModel name to
revoke_for kinds.Group name to = RevokeGroup name to

-- what the words at `kind` and at `level` say
abbrev pub kind_in : Members → Option ItemKind
kind_in ms = with_text (codes "kind") ms kind_of

abbrev pub level_in : Members → Option Level
level_in ms = with_text (codes "level") ms level_of

abbrev pub grant_of : Members → Option Request
grant_of ms = if has_only (codes "kind" ∷ codes "level" ∷ codes "name" ∷ codes "to" ∷ []) ms then option_and_then (λ kind. option_and_then (λ level. with_text (codes "name") ms (λ name. with_text (codes "to") ms (λ to. grant_for kind name to level))) (level_in ms)) (kind_in ms) else None

abbrev pub revoke_of : Members → Option Request
revoke_of ms = if has_only (codes "kind" ∷ codes "name" ∷ codes "to" ∷ []) ms then option_and_then (λ kind. with_text (codes "name") ms (λ name. with_text (codes "to") ms (λ to. Some (revoke_for kind name to)))) (kind_in ms) else None

-- ---- the requests on groups

abbrev pub create_group_of : Members → Option Request
create_group_of ms = if has_only (codes "name" ∷ codes "schema" ∷ []) ms then with_text (codes "name") ms (λ name. with_text (codes "schema") ms (λ schema. Some (CreateGroup name schema))) else None

abbrev pub delete_group_of : Members → Option Request
delete_group_of ms = if has_only (codes "name" ∷ []) ms then with_text (codes "name") ms (λ name. Some (DeleteGroup name)) else None

-- `group` is one of the caller's, and `owner` is the model's
abbrev pub include_of : Members → Option Request
include_of ms = if has_only (codes "group" ∷ codes "model" ∷ codes "owner" ∷ []) ms then option_and_then (λ model. with_text (codes "group") ms (λ group. Some (Include group model))) (model_in ms) else None

abbrev pub exclude_of : Members → Option Request
exclude_of ms = if has_only (codes "group" ∷ codes "model" ∷ codes "owner" ∷ []) ms then option_and_then (λ model. with_text (codes "group") ms (λ group. Some (Exclude group model))) (model_in ms) else None

abbrev pub members_of : Members → Option Request
members_of ms = if has_only (codes "group" ∷ codes "owner" ∷ []) ms then option_map ListMembers (group_in ms) else None

abbrev pub extent_of : Members → Option Request
extent_of ms = if has_only (codes "group" ∷ codes "owner" ∷ codes "type" ∷ []) ms then option_and_then (λ group. with_text (codes "type") ms (λ entity. Some (Extent group entity))) (group_in ms) else None

abbrev pub validate_of : Members → Option Request
validate_of ms = if has_only (codes "group" ∷ codes "owner" ∷ []) ms then option_map Validate (group_in ms) else None

-- of this place, if `of` is one
abbrev pub users_of : Option Place → Members → Option Request
users_of place ms = if has_only (codes "group" ∷ codes "of" ∷ codes "owner" ∷ codes "role" ∷ []) ms then option_and_then (λ place. option_and_then (λ group. with_text (codes "role") ms (λ role. Some (Users group place role))) (group_in ms)) place else None

-- ---- the requests on schemas

abbrev pub schemas_of : Members → Option Request
schemas_of ms = if has_only [] ms then Some Schemas else None

abbrev pub check_schema_of : Members → Option Request
check_schema_of ms = if has_only (codes "text" ∷ []) ms then with_text (codes "text") ms (λ text. Some (CheckSchema text)) else None

-- ---- all requests

-- the request that is called by this word, of its own keys: those on groups but `users`
abbrev pub group_request_for : List ℕ → Members → Option Request
group_request_for word ms =
    if bytes_eq word (codes "create_group") then create_group_of ms
    else (if bytes_eq word (codes "delete_group") then delete_group_of ms
    else (if bytes_eq word (codes "include") then include_of ms
    else (if bytes_eq word (codes "exclude") then exclude_of ms
    else (if bytes_eq word (codes "members") then members_of ms
    else (if bytes_eq word (codes "extent") then extent_of ms
    else (if bytes_eq word (codes "validate") then validate_of ms else None))))))

-- any that has no list
abbrev pub other_request_for : List ℕ → Members → Option Request
other_request_for word ms =
    if bytes_eq word (codes "create_model") then create_model_of ms
    else (if bytes_eq word (codes "export") then export_of ms
    else (if bytes_eq word (codes "names") then names_of ms
    else (if bytes_eq word (codes "get") then get_of ms
    else (if bytes_eq word (codes "add") then add_of ms
    else (if bytes_eq word (codes "set") then set_of ms
    else (if bytes_eq word (codes "drop") then drop_of ms
    else (if bytes_eq word (codes "delete_model") then delete_model_of ms
    else (if bytes_eq word (codes "list") then list_of ms
    else (if bytes_eq word (codes "grant") then grant_of ms
    else (if bytes_eq word (codes "revoke") then revoke_of ms
    else (if bytes_eq word (codes "schemas") then schemas_of ms
    else (if bytes_eq word (codes "check_schema") then check_schema_of ms else group_request_for word ms))))))))))))

-- with these lists
abbrev pub request_for : List ℕ → Lists → Members → Option Request
request_for word lists ms =
    if bytes_eq word (codes "put") then put_of lists.links ms
    else (if bytes_eq word (codes "users") then users_of lists.place ms else other_request_for word ms)

-- `do` has the word
abbrev pub request_in : Lists → Members → Option Request
request_in lists ms = with_text (codes "do") ms (λ word. request_for word lists (without (codes "do") ms))

-- `as` has the caller, if it stands there
abbrev pub asked_with : Lists → Members → Option RequestLine
asked_with lists ms = option_and_then (λ caller. option_map (λ request. record { caller = caller; request = request }) (request_in lists (without (codes "as") ms))) (text_if_any (get_member (codes "as") ms))

abbrev pub asked_in : Members → Option RequestLine
asked_in ms = asked_with (lists_in ms) ms

-- The request of a line: an object in UTF-8. Of equal keys the last one stands.
abbrev pub asked_of : List ℕ → Option RequestLine
asked_of line = if is_utf8 line then option_and_then asked_in (option_and_then as_object (read line)) else None
