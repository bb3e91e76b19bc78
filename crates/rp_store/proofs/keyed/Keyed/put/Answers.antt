use Rattle.std.proofs.Common.{ap, subst}
use Rattle.sorted_tables.specs.Places.{IsThere}
use Rattle.sorted_tables.proofs.Finding.{put_there}
use Rattle.rp_rows.specs.Rows.{key_cmp}
use Rattle.rp_rows.proofs.Keys.{key_total}
use Rattle.rp_store.specs.Entries.{entry_key}
use Rattle.rp_store.proofs.keyed.Keyed.put.Goals as goal

pub invariant_of-self : goal.invariant_of-self
invariant_of-self g c =
    let there = subst (λ j. IsThere key_cmp entry_key j c.args.self.now.entries c.in-Ok.place) c.get.ensures c.in-Ok.ensures in
    (put_there key_cmp entry_key key_total (record { key = c.args.key; value = c.args.value }) c.self.inside.entries.items c.args.self.now.entries c.in-Ok.place (ap (λ s. s.entries) c.self.view_is) there).ascends

pub returns-in-Ok : goal.returns-in-Ok
returns-in-Ok g c =
    let there = subst (λ j. IsThere key_cmp entry_key j c.args.self.now.entries c.in-Ok.place) c.get.ensures c.in-Ok.ensures in
    (put_there key_cmp entry_key key_total (record { key = c.args.key; value = c.args.value }) c.self.inside.entries.items c.args.self.now.entries c.in-Ok.place (ap (λ s. s.entries) c.self.view_is) there).are
