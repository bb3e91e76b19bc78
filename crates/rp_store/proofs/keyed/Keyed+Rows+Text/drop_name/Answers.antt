use Rattle.std.proofs.Common.{◌≡◌, get_or, refl, sym, ◌∙◌, ap}
use Rattle.rp_rows.specs.Rows.{key_of}
use Rattle.rp_store.specs.Entries.{revalued, without_name}
use Rattle.rp_store.proofs.Finding.{changed_there, changed_absent}
use Rattle.rp_store.proofs.keyed.Keyed+Rows+Text.drop_name.Goals as goal

pub invariant_of-self : goal.invariant_of-self
invariant_of-self c =
    let x = c.index_mut.result.now in
    let same = ap (λ s. s.entries) c.self.view_is in
    let here : get_or c.args.self.now.entries c.in-Ok.place x ≡ x = ap (λ xs. get_or xs c.in-Ok.place x) (sym same) ∙ sym c.index_mut.ensures.value in
    (changed_there (key_of c.args.owner.now c.args.other.now) (revalued (without_name c.args.name.now)) (λ y. refl) c.self.inside.entries.items c.args.self.now.entries c.in-Ok.place x c.drop_name.new.entry same c.in-Ok.ensures here c.drop_name.ensures).ascends

pub returns-in-Ok : goal.returns-in-Ok
returns-in-Ok c =
    let x = c.index_mut.result.now in
    let same = ap (λ s. s.entries) c.self.view_is in
    let here : get_or c.args.self.now.entries c.in-Ok.place x ≡ x = ap (λ xs. get_or xs c.in-Ok.place x) (sym same) ∙ sym c.index_mut.ensures.value in
    (changed_there (key_of c.args.owner.now c.args.other.now) (revalued (without_name c.args.name.now)) (λ y. refl) c.self.inside.entries.items c.args.self.now.entries c.in-Ok.place x c.drop_name.new.entry same c.in-Ok.ensures here c.drop_name.ensures).are

pub returns-in_default : goal.returns-in_default
returns-in_default c = changed_absent (key_of c.args.owner.now c.args.other.now) (revalued (without_name c.args.name.now)) c.args.self.now.entries c.in_default.field-0 c.in_default.ensures
