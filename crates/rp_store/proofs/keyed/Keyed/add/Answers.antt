use Rattle.std.proofs.Common.{subst}
use Rattle.sorted_tables.specs.Places.{IsThere}
use Rattle.rp_rows.specs.Rows.{key_cmp}
use Rattle.rp_store.specs.Entries.{entry_key}
use Rattle.rp_store.proofs.Finding.{added_old}
use Rattle.rp_store.proofs.keyed.Keyed.add.Goals as goal

pub returns-in_default : goal.returns-in_default
returns-in_default g c =
    let there = subst (λ j. IsThere key_cmp entry_key j c.args.self.now.entries c.in_default.field-0) c.get.ensures c.in_default.ensures in
    added_old c.args.key c.args.value c.args.self.now.entries there.order there.found
