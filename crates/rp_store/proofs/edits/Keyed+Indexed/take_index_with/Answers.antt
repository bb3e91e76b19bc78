use Rattle.std.proofs.Common.{◌≡◌, get_or, sym, ◌∙◌, ap}
use Rattle.std.proofs.lemmas.Result.{IfOk-weaker}
use Rattle.rp_rows.specs.Instances.{with_instance}
use Rattle.rp_rows.specs.Rows.{key_cmp}
use Rattle.rp_rows.proofs.Keys.{key_total}
use Rattle.rp_store.specs.Contents.{IsIndexAfter}
use Rattle.rp_store.specs.Entries.{entry_key}
use Rattle.sorted_tables.proofs.Finding.{found_is}
use Rattle.rp_store.proofs.Finding.{at_found}
use Rattle.rp_store.proofs.edits.Keyed+Indexed.take_index_with.Goals as goal

pub returns-in-Ok-clause-index : goal.returns-in-Ok-clause-index
returns-in-Ok-clause-index c =
    let x = c.index_mut.result.now in
    let k = c.args.key.now in
    let xs = c.args.self.now.entries in
    let same = ap (λ s. s.entries) c.self.view_is in
    let here : get_or xs c.in-Ok.place x ≡ x = ap (λ ys. get_or ys c.in-Ok.place x) (sym same) ∙ sym c.index_mut.ensures.value in
    let found = found_is key_cmp entry_key key_total k xs c.in-Ok.place x c.in-Ok.ensures here in
    IfOk-weaker c.take_index_with.result _ _ (λ index is. at_found (IsIndexAfter (with_instance c.args.instance.now) index) k xs x found is) c.take_index_with.ensures.index
