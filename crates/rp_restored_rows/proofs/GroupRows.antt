-- A group that lacks nothing is valid, and a valid one lacks nothing.
use Rattle.std.proofs.Common.{◌≡◌, true, List, None, refl}
use Rattle.ex_types.specs.Checked.{Checked}
use Rattle.rp_rows.specs.declared.rows.Grant.{Grant}
use Rattle.rp_rows.specs.declared.rows.Key.{Key}
use Rattle.rp_rows.specs.declared.rows.Level.{Level}
use Rattle.rp_rows.specs.declared.rows.Level.TheVariants.{Read, Group, Write}
use Rattle.rp_rows.specs.Listings.{itself, max_members}
use Rattle.rp_rows.specs.Names.{is_name}
use Rattle.rp_rows.specs.Rows.{Text, key_cmp}
use Rattle.rp_rows.proofs.Keys.{key_total}
use Rattle.rp_plain.specs.Meaning.{has_text}
use Rattle.rp_plain.specs.Valid.{IsRead, IsValidGroup, IsValidMember}
use Rattle.rp_snapshot_rows.specs.declared.rows.SavedGroup.{SavedGroup}
use Rattle.rp_restored_rows.specs.Groups.{group_of, group_lack, is_read, is_to_read}
use Rattle.rp_restored_rows.proofs.Checks.{holds, passes, neither, both_none, all_true, all_pass, all_both}
use Rattle.rp_restored_rows.proofs.Orders.{ascending, tested}
use Rattle.rp_restored_rows.proofs.Tested.{at_most, no_more, row_valid, row_passes}

read_is : (l : Level) → is_read l ≡ true → l ≡ Read
read_is Read e = refl
read_is Group e = cc
read_is Write e = cc

is_tested : (l : Level) → l ≡ Read → is_read l ≡ true
is_tested Read e = refl
is_tested Group e = cc
is_tested Write e = cc

module _ (schemas : List Checked) (partners : List Text) (g : SavedGroup) where
  abbrev HasOwner : Key → Type 0
  HasOwner k = has_text partners k.owner ≡ true

  abbrev HasName : Key → Type 0
  HasName k = is_name k.name ≡ true

  abbrev IsReader : Grant → Type 0
  IsReader x = is_to_read x ≡ true

  pub group_valid : group_lack schemas partners g ≡ None → IsValidGroup schemas partners (group_of g)
  group_valid none =
      let row = neither _ _ none in
      let levels = holds _ _ _ row.1 in
      let schema = holds _ _ _ levels.1 in
      let few = holds _ _ _ schema.1 in
      let order = holds _ _ _ few.1 in
      let owners = holds _ _ _ order.1 in
      let names = holds _ _ _ owners.1 in
      let readers = all_true is_to_read g.grants levels.0 in
      record {
        row = row_valid partners (group_of g) row.0;
        levels = all_both IsReader IsReader IsRead (λ x is same. read_is x.level is) g.grants readers readers;
        schema = schema.0;
        members = all_both HasOwner HasName (IsValidMember partners) (λ k is named. record { owner = is; name = named }) g.listing.members
            (all_true (λ k. has_text partners k.owner) g.listing.members owners.0) (all_true (λ k. is_name k.name) g.listing.members names.0);
        order = ascending key_cmp itself key_total g.listing.members order.0;
        few = at_most max_members _ few.0;
      }

  pub group_passes : IsValidGroup schemas partners (group_of g) → group_lack schemas partners g ≡ None
  group_passes valid =
      let members = g.listing.members in
      both_none _ _ (row_passes partners (group_of g) valid.row)
      (passes _ _ _ (all_pass IsRead is_to_read (λ x is. is_tested x.level is) g.grants valid.levels)
      (passes _ _ _ valid.schema
      (passes _ _ _ (no_more max_members _ valid.few)
      (passes _ _ _ (tested key_cmp itself key_total members valid.order)
      (passes _ _ _ (all_pass (IsValidMember partners) (λ k. has_text partners k.owner) (λ k is. is.owner) members valid.members)
      (passes _ _ _ (all_pass (IsValidMember partners) (λ k. is_name k.name) (λ k is. is.name) members valid.members)
      refl))))))
