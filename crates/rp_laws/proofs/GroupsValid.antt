-- The edits of requests that create groups, and that change what they list, are fit.
use Rattle.std.proofs.Common.{◌≡◌, ◌≤◌, ◌<◌, true, false, ◌&&◌, nat_le, List, [], ◌∷◌, length, Option, Some, None, refl, subst, arith}
use Rattle.std.specs.Prelude.{filter}
use Rattle.std.specs.Str.{str_to_ascii_uppercase}
use Rattle.std.proofs.lemmas.Bool.{and_parts}
use Rattle.std.proofs.lemmas.Bool.Decides.{nat_tests}
use Rattle.ex_types.specs.Checked.{Checked}
use Rattle.sorted_tables.specs.Table.{with_row}
use Rattle.sorted_tables.proofs.Ascending.{with_row_ascends, with_none_ascends}
use Rattle.rp_rows.specs.declared.rows.Listing.{Listing}
use Rattle.rp_rows.specs.Names.{is_name}
use Rattle.rp_rows.specs.declared.rows.Key.{Key}
use Rattle.rp_rows.specs.Rows.{Text, key_cmp, row_key, is_row, GroupRow, key_of}
use Rattle.rp_rows.specs.Sight.{owns, sees_group}
use Rattle.rp_rows.proofs.Keys.{key_total, key_at, found_at}
use Rattle.rp_plain.specs.declared.messages.Request.TheVariants.{CreateGroup, Include, Exclude}
use Rattle.rp_plain.specs.declared.messages.Refusal.TheVariants as refusal
use Rattle.rp_plain.specs.Plain.{Plain, group_at}
use Rattle.rp_plain.specs.Readers.{asked, held}
use Rattle.rp_plain.specs.Meaning.{first_some, when, has_text, has_schema, is_no_partner}
use Rattle.rp_rows.specs.Listings.{max_groups, max_members, itself, with_member, without_member}
use Rattle.rp_plain.specs.Groups.{new_listing, members_of, member_fault, relisted}
use Rattle.rp_plain.specs.Step.{meaning}
use Rattle.rp_plain.specs.Valid.{IsValidMember, IsValidGroup, IsRead, IsValid}
use Rattle.rp_laws.proofs.Counts.{every, count_every, count-with_row, count-without}
use Rattle.rp_laws.proofs.Passed.{all_pass, passed, is_so}
use Rattle.rp_laws.proofs.ValidTables.{all_found, found_there, all-with_row, MayHold}
use Rattle.rp_laws.proofs.ValidEdits.{IsValidListing, ListingAt, AreFit}

-- ---- what a group lists

is_new : (partners : List Text) (k : Key) → IsValidMember partners k → (x : Key) → Some k ≡ Some x → IsValidMember partners x
is_new partners k new x e = let same : k ≡ x = cc in subst (IsValidMember partners) same new

one_more : (k : Key) (ks : List Key) → length ks < max_members → length (with_row key_cmp itself k (Some k) ks) ≤ max_members
one_more k ks room =
    let more = count-with_row key_cmp itself every k k ks in
    let one = count_every (k ∷ []) in
    omega (arith, more, one, room, count_every ks, count_every (with_row key_cmp itself k (Some k) ks))

no_more : (k : Key) (ks : List Key) → length ks ≤ max_members → length (with_row key_cmp itself k None ks) ≤ max_members
no_more k ks few =
    let less = count-without key_cmp itself every k ks in
    omega (arith, less, few, count_every ks, count_every (with_row key_cmp itself k None ks))

included_valid : (schemas : List Checked) (partners : List Text) (k : Key) (g : Listing) → IsValidMember partners k → length g.members < max_members → IsValidListing schemas partners g → IsValidListing schemas partners (with_member k g)
included_valid schemas partners k g new room valid = record {
  schema = valid.schema;
  members = all-with_row key_cmp itself key_total (IsValidMember partners) k (Some k) g.members (is_new partners k new) valid.members;
  order = with_row_ascends key_cmp itself key_total k g.members valid.order;
  few = one_more k g.members room;
}

excluded_valid : (schemas : List Checked) (partners : List Text) (k : Key) (g : Listing) → IsValidListing schemas partners g → IsValidListing schemas partners (without_member k g)
excluded_valid schemas partners k g valid = record {
  schema = valid.schema;
  members = all-with_row key_cmp itself key_total (IsValidMember partners) k None g.members (λ x e. cc) valid.members;
  order = with_none_ascends key_cmp itself key_total k g.members valid.order;
  few = no_more k g.members valid.few;
}

-- ---- creation

pub group_created : (r : Plain) (c name schema : Text) → has_text r.partners c ≡ true → first_some (meaning (asked r c) c (CreateGroup name schema)).tests ≡ None
    → MayHold r.partners (ListingAt r.schemas r.partners) IsRead max_groups r.groups (key_of c name) (new_listing schema)
group_created r c name schema partner passes =
    let each = all_pass (meaning (asked r c) c (CreateGroup name schema)).tests passes in
    let few : nat_le max_groups (length (filter (owns c) r.groups)) ≡ false = passed (nat_le max_groups (length (filter (owns c) r.groups))) refusal.TooMany each.1.1.1.0 in
    record {
      owner = partner;
      name = is_so (is_name name) refusal.BadName each.0;
      valid = record {
        schema = is_so (has_schema r.schemas (str_to_ascii_uppercase schema)) refusal.UnknownSchema each.1.0;
        members = tt;
        order = tt;
        few = omega arith;
      };
      room = λ none. grind (arith, nat_tests);
    }

-- ---- members

-- one is valid, and stands at its key
seen_valid : (r : Plain) (c : Text) (k : Key) (g : GroupRow) → group_at r c k ≡ Some g → IsValid r → IsValidGroup r.schemas r.partners g × (row_key g ≡ k)
seen_valid r c k g seen valid = (
  all_found (IsValidGroup r.schemas r.partners) (λ x. is_row k x && sees_group c x) r.groups g seen valid.groups,
  key_at k g (and_parts (is_row k g) (sees_group c g) (found_at (λ x. is_row k x && sees_group c x) r.groups g seen)).0,
)

-- a group that is seen may list what is as valid as what it lists
listed_there : (r : Plain) (c : Text) (k : Key) (h : Listing) (g : GroupRow) → group_at r c k ≡ Some g → (IsValidListing r.schemas r.partners g.holds → IsValidListing r.schemas r.partners h) → IsValid r
    → MayHold r.partners (ListingAt r.schemas r.partners) IsRead max_groups r.groups k h
listed_there r c k h g seen listing valid =
    let old = seen_valid r c k g seen valid in
    record {
      owner = subst (λ (j : Key). has_text r.partners j.owner ≡ true) old.1 old.0.row.owner;
      name = subst (λ (j : Key). is_name j.name ≡ true) old.1 old.0.row.name;
      valid = listing (record { schema = old.0.schema; members = old.0.members; order = old.0.order; few = old.0.few });
      room = λ none. absurd (found_there (is_row k) (sees_group c) r.groups g seen none);
    }

is_member : (r : Plain) (c group : Text) (k : Key) → member_fault group k ≡ None → is_no_partner (asked r c) k.owner ≡ None → IsValidMember r.partners k
is_member r c group k named known = record {
  owner = is_so (has_text r.partners k.owner) refusal.UnknownPartner known;
  name = (and_parts (is_name group && is_name k.owner) (is_name k.name) (is_so (is_name group && is_name k.owner && is_name k.name) refusal.BadName named)).1;
}

included_fit : (r : Plain) (c group : Text) (k : Key) (o : Option GroupRow) → group_at r c (key_of c group) ≡ o → IsValidMember r.partners k → when (nat_le max_members (length (members_of (held o)))) refusal.TooMany ≡ None → IsValid r
    → AreFit r (relisted (key_of c group) (with_member k) (held o))
included_fit r c group k None seen new few valid = tt
included_fit r c group k (Some g) seen new few valid =
    let less : nat_le max_members (length g.holds.members) ≡ false = passed (nat_le max_members (length g.holds.members)) refusal.TooMany few in
    let room : length g.holds.members < max_members = grind (arith, nat_tests) in
    (listed_there r c (key_of c group) (with_member k g.holds) g seen (included_valid r.schemas r.partners k g.holds new room) valid, tt)

excluded_fit : (r : Plain) (c group : Text) (k : Key) (o : Option GroupRow) → group_at r c (key_of c group) ≡ o → IsValid r → AreFit r (relisted (key_of c group) (without_member k) (held o))
excluded_fit r c group k None seen valid = tt
excluded_fit r c group k (Some g) seen valid = (listed_there r c (key_of c group) (without_member k g.holds) g seen (excluded_valid r.schemas r.partners k g.holds) valid, tt)

pub include_fit : (r : Plain) (c group : Text) (k : Key) → first_some (meaning (asked r c) c (Include group k)).tests ≡ None → IsValid r → AreFit r (meaning (asked r c) c (Include group k)).edits
include_fit r c group k passes valid =
    let each = all_pass (meaning (asked r c) c (Include group k)).tests passes in
    included_fit r c group k (group_at r c (key_of c group)) refl (is_member r c group k each.0 each.1.0) each.1.1.1.1.1.1.0 valid

pub exclude_fit : (r : Plain) (c group : Text) (k : Key) → IsValid r → AreFit r (meaning (asked r c) c (Exclude group k)).edits
exclude_fit r c group k = excluded_fit r c group k (group_at r c (key_of c group)) refl
