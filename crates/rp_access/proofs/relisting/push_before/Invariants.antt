use Rattle.std.proofs.Common.{◌≡◌, ◌++◌, take}
use Rattle.std.specs.Prelude.{filter}
use Rattle.sorted_tables.specs.Table.{is_before}
use Rattle.rp_rows.specs.Rows.{key_cmp}
use Rattle.rp_rows.specs.Listings.{itself}
use Rattle.rp_access.proofs.relisting.push_before.Given as goal

abbrev pub invariant-loop-member : goal.invariant-loop-member
invariant-loop-member l = l.out.items ≡ l.fn.out.items ++ filter (is_before key_cmp itself l.model) (take l.member-index l.members)
