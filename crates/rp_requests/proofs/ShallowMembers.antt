-- What lists and objects hold plays no part in a request, but for its links and its place.
use Rattle.std.proofs.Common.{◌≡◌, ℕ, List, [], ◌∷◌, Bool, true, false, ◌&&◌, cond, codes, bytes_eq, Ordering, Less, Equal, Greater, Option, Some, None, option_map, option_and_then, refl, sym, ap, ◌∙◌, nat_cmp}
use Rattle.std.specs.Cmp.Lexicographic.{slice_cmp}
use Rattle.std.specs.List.{list_any}
use Rattle.std.specs.Ordering.{match_ordering}
use Rattle.std.specs.Str.{is_utf8}
use Rattle.serde_json.specs.Data.{Data, null, boolean, number, string, array, object, Members, no_members, member}
use Rattle.serde_json.specs.Find.{get_member, as_str, as_object}
use Rattle.serde_json.specs.Read.{read}
use Rattle.rp_content.specs.declared.link.Link.{Link}
use Rattle.rp_population.specs.declared.place.Place.{Place}
use Rattle.shallow_json.proofs.Reading.{pick}
use Rattle.shallow_json.specs.Shallow.{plain, shallow, flat}
use Rattle.rp_requests.specs.declared.lines.Lists.{Lists}
use Rattle.rp_requests.specs.Kept.{kept}
use Rattle.shallow_json.specs.Keys.{has_only}
use Rattle.rp_requests.specs.Asks.{without, text_in, text_if_any, flag_if_any, number_of, number_in, link_in, link_of, lists_in, create_model_of, item_in, model_in, group_in, put_of, export_of, names_of, get_of, add_of, set_of, drop_of, delete_model_of, list_of, kind_in, level_in, grant_of, revoke_of, create_group_of, delete_group_of, include_of, exclude_of, members_of, extent_of, validate_of, users_of, schemas_of, check_schema_of, group_request_for, other_request_for, request_for, request_in, asked_with, asked_in, asked_of}

has_only-shallow : (keys : List (List ℕ)) (ms : Members) → has_only keys (shallow ms) ≡ has_only keys ms
has_only-shallow keys no_members = refl
has_only-shallow keys (member k d ms) = ap (λ b. list_any (λ key. bytes_eq key k) keys && b) (has_only-shallow keys ms)

chosen : {A B : Type 0} (f : A → B) (o : Ordering) (a b c : A) → match_ordering o (f a) (f b) (f c) ≡ f (match_ordering o a b c)
chosen f Less a b c = refl
chosen f Equal a b c = refl
chosen f Greater a b c = refl

get_member-shallow : (k : List ℕ) (ms : Members) → get_member k (shallow ms) ≡ option_map plain (get_member k ms)
get_member-shallow k no_members = refl
get_member-shallow k (member l d ms) =
    ap (λ r. match_ordering (slice_cmp nat_cmp k l) r (Some (plain d)) r) (get_member-shallow k ms) ∙ chosen (option_map plain) (slice_cmp nat_cmp k l) (get_member k ms) (Some d) (get_member k ms)

shallow-cond : (b : Bool) (xs ys : Members) → cond b (shallow xs) (shallow ys) ≡ shallow (cond b xs ys)
shallow-cond true xs ys = refl
shallow-cond false xs ys = refl

without-shallow : (k : List ℕ) (ms : Members) → without k (shallow ms) ≡ shallow (without k ms)
without-shallow k no_members = refl
without-shallow k (member l d ms) =
    ap (λ r. cond (bytes_eq k l) (shallow ms) (member l (plain d) r)) (without-shallow k ms) ∙ shallow-cond (bytes_eq k l) ms (member l d (without k ms))

pub as_str-plain : (d : Data) → as_str (plain d) ≡ as_str d
as_str-plain null = refl
as_str-plain (boolean b) = refl
as_str-plain (number n) = refl
as_str-plain (string s) = refl
as_str-plain (array ds) = refl
as_str-plain (object ms) = refl

pub number_of-plain : (d : Data) → number_of (plain d) ≡ number_of d
number_of-plain null = refl
number_of-plain (boolean b) = refl
number_of-plain (number n) = refl
number_of-plain (string s) = refl
number_of-plain (array ds) = refl
number_of-plain (object ms) = refl

as_str-member : (o : Option Data) → option_and_then as_str (option_map plain o) ≡ option_and_then as_str o
as_str-member None = refl
as_str-member (Some d) = as_str-plain d

number_of-member : (o : Option Data) → option_and_then number_of (option_map plain o) ≡ option_and_then number_of o
number_of-member None = refl
number_of-member (Some d) = number_of-plain d

text_if_any-member : (o : Option Data) → text_if_any (option_map plain o) ≡ text_if_any o
text_if_any-member None = refl
text_if_any-member (Some d) = ap (option_map Some) (as_str-plain d)

flag_if_any-plain : (d : Data) → flag_if_any (Some (plain d)) ≡ flag_if_any (Some d)
flag_if_any-plain null = refl
flag_if_any-plain (boolean b) = refl
flag_if_any-plain (number n) = refl
flag_if_any-plain (string s) = refl
flag_if_any-plain (array ds) = refl
flag_if_any-plain (object ms) = refl

flag_if_any-member : (o : Option Data) → flag_if_any (option_map plain o) ≡ flag_if_any o
flag_if_any-member None = refl
flag_if_any-member (Some d) = flag_if_any-plain d

text_in-shallow : (k : List ℕ) (ms : Members) → text_in k (shallow ms) ≡ text_in k ms
text_in-shallow k ms = ap (option_and_then as_str) (get_member-shallow k ms) ∙ as_str-member (get_member k ms)

number_in-shallow : (k : List ℕ) (ms : Members) → number_in k (shallow ms) ≡ number_in k ms
number_in-shallow k ms = ap (option_and_then number_of) (get_member-shallow k ms) ∙ number_of-member (get_member k ms)

text_if_any-shallow : (k : List ℕ) (ms : Members) → text_if_any (get_member k (shallow ms)) ≡ text_if_any (get_member k ms)
text_if_any-shallow k ms = ap text_if_any (get_member-shallow k ms) ∙ text_if_any-member (get_member k ms)

flag_if_any-shallow : (k : List ℕ) (ms : Members) → flag_if_any (get_member k (shallow ms)) ≡ flag_if_any (get_member k ms)
flag_if_any-shallow k ms = ap flag_if_any (get_member-shallow k ms) ∙ flag_if_any-member (get_member k ms)

create_model_of-shallow : (ms : Members) → create_model_of (shallow ms) ≡ create_model_of ms
create_model_of-shallow ms = rw (has_only-shallow (codes "name" ∷ codes "schema" ∷ []) ms, text_in-shallow (codes "name") ms, text_in-shallow (codes "schema") ms) refl

item_in-shallow : (key : List ℕ) (ms : Members) → item_in key (shallow ms) ≡ item_in key ms
item_in-shallow key ms = rw (text_in-shallow (codes "owner") ms, text_in-shallow key ms) refl

model_in-shallow : (ms : Members) → model_in (shallow ms) ≡ model_in ms
model_in-shallow ms = item_in-shallow (codes "model") ms

group_in-shallow : (ms : Members) → group_in (shallow ms) ≡ group_in ms
group_in-shallow ms = item_in-shallow (codes "group") ms

link_in-shallow : (ms : Members) → link_in (shallow ms) ≡ link_in ms
link_in-shallow ms = rw (has_only-shallow (codes "instance" ∷ codes "model" ∷ codes "name" ∷ codes "owner" ∷ []) ms, number_in-shallow (codes "instance") ms, number_in-shallow (codes "name") ms, model_in-shallow ms) refl

pub link_of-flat : (d : Data) → link_of (flat d) ≡ link_of d
link_of-flat null = refl
link_of-flat (boolean b) = refl
link_of-flat (number n) = refl
link_of-flat (string s) = refl
link_of-flat (array ds) = refl
link_of-flat (object ms) = link_in-shallow ms

put_of-shallow : (links : Option (List Link)) (ms : Members) → put_of links (shallow ms) ≡ put_of links ms
put_of-shallow links ms = rw (has_only-shallow (codes "file" ∷ codes "links" ∷ codes "model" ∷ codes "owner" ∷ []) ms, model_in-shallow ms, text_in-shallow (codes "file") ms) refl

export_of-shallow : (ms : Members) → export_of (shallow ms) ≡ export_of ms
export_of-shallow ms = rw (has_only-shallow (codes "links" ∷ codes "model" ∷ codes "owner" ∷ []) ms, flag_if_any-shallow (codes "links") ms, model_in-shallow ms) refl

names_of-shallow : (ms : Members) → names_of (shallow ms) ≡ names_of ms
names_of-shallow ms = rw (has_only-shallow (codes "model" ∷ codes "owner" ∷ []) ms, model_in-shallow ms) refl

get_of-shallow : (ms : Members) → get_of (shallow ms) ≡ get_of ms
get_of-shallow ms = rw (has_only-shallow (codes "instance" ∷ codes "model" ∷ codes "owner" ∷ []) ms, model_in-shallow ms, number_in-shallow (codes "instance") ms) refl

add_of-shallow : (ms : Members) → add_of (shallow ms) ≡ add_of ms
add_of-shallow ms = rw (has_only-shallow (codes "model" ∷ codes "owner" ∷ codes "text" ∷ []) ms, model_in-shallow ms, text_in-shallow (codes "text") ms) refl

set_of-shallow : (ms : Members) → set_of (shallow ms) ≡ set_of ms
set_of-shallow ms = rw (has_only-shallow (codes "instance" ∷ codes "model" ∷ codes "owner" ∷ codes "text" ∷ []) ms, model_in-shallow ms, number_in-shallow (codes "instance") ms, text_in-shallow (codes "text") ms) refl

drop_of-shallow : (ms : Members) → drop_of (shallow ms) ≡ drop_of ms
drop_of-shallow ms = rw (has_only-shallow (codes "instance" ∷ codes "model" ∷ codes "owner" ∷ []) ms, model_in-shallow ms, number_in-shallow (codes "instance") ms) refl

delete_model_of-shallow : (ms : Members) → delete_model_of (shallow ms) ≡ delete_model_of ms
delete_model_of-shallow ms = rw (has_only-shallow (codes "name" ∷ []) ms, text_in-shallow (codes "name") ms) refl

list_of-shallow : (ms : Members) → list_of (shallow ms) ≡ list_of ms
list_of-shallow ms = rw (has_only-shallow [] ms) refl

kind_in-shallow : (ms : Members) → kind_in (shallow ms) ≡ kind_in ms
kind_in-shallow ms = rw (text_in-shallow (codes "kind") ms) refl

level_in-shallow : (ms : Members) → level_in (shallow ms) ≡ level_in ms
level_in-shallow ms = rw (text_in-shallow (codes "level") ms) refl

grant_of-shallow : (ms : Members) → grant_of (shallow ms) ≡ grant_of ms
grant_of-shallow ms = rw (has_only-shallow (codes "kind" ∷ codes "level" ∷ codes "name" ∷ codes "to" ∷ []) ms, kind_in-shallow ms, level_in-shallow ms, text_in-shallow (codes "name") ms, text_in-shallow (codes "to") ms) refl

revoke_of-shallow : (ms : Members) → revoke_of (shallow ms) ≡ revoke_of ms
revoke_of-shallow ms = rw (has_only-shallow (codes "kind" ∷ codes "name" ∷ codes "to" ∷ []) ms, kind_in-shallow ms, text_in-shallow (codes "name") ms, text_in-shallow (codes "to") ms) refl

create_group_of-shallow : (ms : Members) → create_group_of (shallow ms) ≡ create_group_of ms
create_group_of-shallow ms = rw (has_only-shallow (codes "name" ∷ codes "schema" ∷ []) ms, text_in-shallow (codes "name") ms, text_in-shallow (codes "schema") ms) refl

delete_group_of-shallow : (ms : Members) → delete_group_of (shallow ms) ≡ delete_group_of ms
delete_group_of-shallow ms = rw (has_only-shallow (codes "name" ∷ []) ms, text_in-shallow (codes "name") ms) refl

include_of-shallow : (ms : Members) → include_of (shallow ms) ≡ include_of ms
include_of-shallow ms = rw (has_only-shallow (codes "group" ∷ codes "model" ∷ codes "owner" ∷ []) ms, model_in-shallow ms, text_in-shallow (codes "group") ms) refl

exclude_of-shallow : (ms : Members) → exclude_of (shallow ms) ≡ exclude_of ms
exclude_of-shallow ms = rw (has_only-shallow (codes "group" ∷ codes "model" ∷ codes "owner" ∷ []) ms, model_in-shallow ms, text_in-shallow (codes "group") ms) refl

members_of-shallow : (ms : Members) → members_of (shallow ms) ≡ members_of ms
members_of-shallow ms = rw (has_only-shallow (codes "group" ∷ codes "owner" ∷ []) ms, group_in-shallow ms) refl

extent_of-shallow : (ms : Members) → extent_of (shallow ms) ≡ extent_of ms
extent_of-shallow ms = rw (has_only-shallow (codes "group" ∷ codes "owner" ∷ codes "type" ∷ []) ms, group_in-shallow ms, text_in-shallow (codes "type") ms) refl

validate_of-shallow : (ms : Members) → validate_of (shallow ms) ≡ validate_of ms
validate_of-shallow ms = rw (has_only-shallow (codes "group" ∷ codes "owner" ∷ []) ms, group_in-shallow ms) refl

users_of-shallow : (place : Option Place) (ms : Members) → users_of place (shallow ms) ≡ users_of place ms
users_of-shallow place ms = rw (has_only-shallow (codes "group" ∷ codes "of" ∷ codes "owner" ∷ codes "role" ∷ []) ms, group_in-shallow ms, text_in-shallow (codes "role") ms) refl

schemas_of-shallow : (ms : Members) → schemas_of (shallow ms) ≡ schemas_of ms
schemas_of-shallow ms = rw (has_only-shallow [] ms) refl

check_schema_of-shallow : (ms : Members) → check_schema_of (shallow ms) ≡ check_schema_of ms
check_schema_of-shallow ms = rw (has_only-shallow (codes "text" ∷ []) ms, text_in-shallow (codes "text") ms) refl

group_request_for-shallow : (word : List ℕ) (ms : Members) → group_request_for word (shallow ms) ≡ group_request_for word ms
group_request_for-shallow word ms =
    rw (create_group_of-shallow ms, delete_group_of-shallow ms, include_of-shallow ms, exclude_of-shallow ms, members_of-shallow ms, extent_of-shallow ms, validate_of-shallow ms) refl

other_request_for-shallow : (word : List ℕ) (ms : Members) → other_request_for word (shallow ms) ≡ other_request_for word ms
other_request_for-shallow word ms =
    rw (create_model_of-shallow ms, export_of-shallow ms, names_of-shallow ms, get_of-shallow ms, add_of-shallow ms, set_of-shallow ms, drop_of-shallow ms, delete_model_of-shallow ms, list_of-shallow ms, grant_of-shallow ms, revoke_of-shallow ms, schemas_of-shallow ms, check_schema_of-shallow ms, group_request_for-shallow word ms) refl

request_for-shallow : (word : List ℕ) (lists : Lists) (ms : Members) → request_for word lists (shallow ms) ≡ request_for word lists ms
request_for-shallow word lists ms = rw (put_of-shallow lists.links ms, users_of-shallow lists.place ms, other_request_for-shallow word ms) refl

for_word : (o : Option (List ℕ)) (lists : Lists) (ms : Members)
    → option_and_then (λ word. request_for word lists (without (codes "do") (shallow ms))) o ≡ option_and_then (λ word. request_for word lists (without (codes "do") ms)) o
for_word None lists ms = refl
for_word (Some word) lists ms = ap (request_for word lists) (without-shallow (codes "do") ms) ∙ request_for-shallow word lists (without (codes "do") ms)

request_in-shallow : (lists : Lists) (ms : Members) → request_in lists (shallow ms) ≡ request_in lists ms
request_in-shallow lists ms =
    ap (option_and_then (λ word. request_for word lists (without (codes "do") (shallow ms)))) (text_in-shallow (codes "do") ms)
    ∙ for_word (text_in (codes "do") ms) lists ms

pub asked_with-shallow : (lists : Lists) (ms : Members) → asked_with lists (shallow ms) ≡ asked_with lists ms
asked_with-shallow lists ms = rw (text_if_any-shallow (codes "as") ms, without-shallow (codes "as") ms, request_in-shallow lists (without (codes "as") ms)) refl

-- a line's members, and their lists
either_way : (o : Option Members) (lists : Lists) (found : Members) → option_map kept o ≡ Some (found, lists)
    → option_and_then asked_in o ≡ asked_with lists found
either_way None lists found is = absurd (cc)
either_way (Some ms) lists found is =
    let same = ap (pick (found, lists)) is in
    sym (asked_with-shallow (lists_in ms) ms) ∙ ap (λ p. asked_with p.1 p.0) same

pub asked_of-read : (line : List ℕ) (lists : Lists) (found : Members) → is_utf8 line ≡ true
    → option_map kept (option_and_then as_object (read line)) ≡ Some (found, lists) → asked_of line ≡ asked_with lists found
asked_of-read line lists found valid is = rw valid (either_way (option_and_then as_object (read line)) lists found is)

no_object : (line : List ℕ) (b : Bool) → is_utf8 line ≡ b → option_and_then as_object (read line) ≡ None → asked_of line ≡ None
no_object line true valid none = rw (valid, none) refl
no_object line false valid none = rw valid refl

pub asked_of-none : (line : List ℕ) → option_and_then as_object (read line) ≡ None → asked_of line ≡ None
asked_of-none line = no_object line (is_utf8 line) refl
