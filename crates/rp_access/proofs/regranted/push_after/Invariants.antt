use Rattle.std.proofs.Common.{◌≡◌, ◌++◌, take}
use Rattle.std.specs.Prelude.{filter}
use Rattle.sorted_tables.specs.Table.{is_after}
use Rattle.rp_rows.specs.Rows.{text_cmp, grant_key}
use Rattle.rp_access.proofs.regranted.push_after.Given as goal

abbrev pub invariant-loop-grant : goal.invariant-loop-grant
invariant-loop-grant l = l.out.items ≡ l.fn.out.items ++ filter (is_after text_cmp grant_key l.to) (take l.grant-index l.grants)
