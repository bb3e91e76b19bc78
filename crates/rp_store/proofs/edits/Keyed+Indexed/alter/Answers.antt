use Rattle.std.proofs.Common.{◌≡◌, get_or, refl, sym, ◌∙◌, ap}
use Rattle.rp_rows.specs.Rows.{key_cmp}
use Rattle.rp_rows.proofs.Keys.{key_total}
use Rattle.rp_store.specs.Contents.{edited_by}
use Rattle.rp_store.specs.Entries.{entry_key, revalued}
use Rattle.sorted_tables.proofs.Finding.{found_is}
use Rattle.rp_store.proofs.Finding.{changed_there, changed_absent}
use Rattle.rp_store.proofs.edits.Keyed+Indexed.alter.Goals as goal

pub alter-requires : goal.alter-requires
alter-requires c =
    let x = c.index_mut.result.now in
    let same = ap (λ s. s.entries) c.self.view_is in
    let here : get_or c.args.self.now.entries c.in-Ok.place x ≡ x = ap (λ xs. get_or xs c.in-Ok.place x) (sym same) ∙ sym c.index_mut.ensures.value in
    c.requires x (found_is key_cmp entry_key key_total c.args.key.now c.args.self.now.entries c.in-Ok.place x c.in-Ok.ensures here)

pub invariant_of-self : goal.invariant_of-self
invariant_of-self c =
    let x = c.index_mut.result.now in
    let same = ap (λ s. s.entries) c.self.view_is in
    let here : get_or c.args.self.now.entries c.in-Ok.place x ≡ x = ap (λ xs. get_or xs c.in-Ok.place x) (sym same) ∙ sym c.index_mut.ensures.value in
    (changed_there c.args.key.now (revalued (edited_by c.args.change)) (λ y. refl) c.self.inside.entries.items c.args.self.now.entries c.in-Ok.place x (record x { value = c.alter.new.model }) same c.in-Ok.ensures here (ap (λ v. record x { value = v }) c.alter.ensures)).ascends

pub returns-in-Ok : goal.returns-in-Ok
returns-in-Ok c =
    let x = c.index_mut.result.now in
    let same = ap (λ s. s.entries) c.self.view_is in
    let here : get_or c.args.self.now.entries c.in-Ok.place x ≡ x = ap (λ xs. get_or xs c.in-Ok.place x) (sym same) ∙ sym c.index_mut.ensures.value in
    (changed_there c.args.key.now (revalued (edited_by c.args.change)) (λ y. refl) c.self.inside.entries.items c.args.self.now.entries c.in-Ok.place x (record x { value = c.alter.new.model }) same c.in-Ok.ensures here (ap (λ v. record x { value = v }) c.alter.ensures)).are

pub returns-in_default : goal.returns-in_default
returns-in_default c = changed_absent c.args.key.now (revalued (edited_by c.args.change)) c.args.self.now.entries c.in_default.field-0 c.in_default.ensures
