-- Tests of groups.
use Rattle.std.specs.Prelude.{Bool, true, false, not, nat_lt, List, length, Option, None}
use Rattle.std.specs.List.{list_all}
use Rattle.ex_types.specs.Checked.{Checked}
use Rattle.rp_rows.specs.declared.rows.Grant.{Grant}
use Rattle.rp_rows.specs.declared.rows.Level.{Level}
use Rattle.rp_rows.specs.declared.rows.Level.TheVariants.{Read}
use Rattle.rp_rows.specs.declared.rows.Listing.{Listing}
use Rattle.rp_rows.specs.Listings.{itself, max_members}
use Rattle.rp_rows.specs.Names.{is_name}
use Rattle.rp_rows.specs.Rows.{Text, key_cmp, GroupRow}
use Rattle.rp_plain.specs.Meaning.{has_text, has_schema}
use Rattle.rp_snapshot_rows.specs.declared.rows.SavedGroup.{SavedGroup}
use Rattle.rp_restored_rows.specs.declared.lack.RowLack.{RowLack}
use Rattle.rp_restored_rows.specs.declared.lack.RowLack.TheVariants as lack
use Rattle.rp_restored_rows.specs.Tests.{checks, lack_or, ascends, row_lack}

-- the row that a group is
abbrev pub group_of : SavedGroup → GroupRow
group_of g = record { owner = g.key.owner; name = g.key.name; holds = g.listing; grants = g.grants }

abbrev pub is_read : Level → Bool
is_read Read = true
is_read _ = false

abbrev pub is_to_read : Grant → Bool
is_to_read g = is_read g.level

abbrev pub listing_lack : List Checked → List Text → Listing → Option RowLack
listing_lack schemas partners g =
    checks (has_schema schemas g.schema) lack.UnknownSchema
    (checks (not (nat_lt max_members (length g.members))) lack.TooManyMembers
    (checks (ascends key_cmp itself g.members) lack.MembersOutOfOrder
    (checks (list_all (λ k. has_text partners k.owner) g.members) lack.UnknownMemberOwner
    (checks (list_all (λ k. is_name k.name) g.members) lack.BadMemberName
    None))))

abbrev pub group_lack : List Checked → List Text → SavedGroup → Option RowLack
group_lack schemas partners g =
    lack_or (row_lack partners g.key g.grants)
    (checks (list_all is_to_read g.grants) lack.GroupLevel
    (listing_lack schemas partners g.listing))
