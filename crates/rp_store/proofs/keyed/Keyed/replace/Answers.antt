use Rattle.std.proofs.Common.{◌≡◌, get_or, refl, sym, ◌∙◌, ap}
use Rattle.rp_store.specs.Entries.{with_value}
use Rattle.rp_store.proofs.Finding.{changed_there, changed_absent}
use Rattle.rp_store.proofs.keyed.Keyed.replace.Goals as goal

pub invariant_of-self : goal.invariant_of-self
invariant_of-self g c =
    let x = c.index_mut.result.now in
    let same = ap (λ s. s.entries) c.self.view_is in
    let here : get_or c.args.self.now.entries c.in-Ok.place x ≡ x = ap (λ xs. get_or xs c.in-Ok.place x) (sym same) ∙ sym c.index_mut.ensures.value in
    (changed_there c.args.key.now (with_value c.args.value) (λ y. refl) c.self.inside.entries.items c.args.self.now.entries c.in-Ok.place x (with_value c.args.value x) same c.in-Ok.ensures here refl).ascends

pub returns-in-Ok : goal.returns-in-Ok
returns-in-Ok g c =
    let x = c.index_mut.result.now in
    let same = ap (λ s. s.entries) c.self.view_is in
    let here : get_or c.args.self.now.entries c.in-Ok.place x ≡ x = ap (λ xs. get_or xs c.in-Ok.place x) (sym same) ∙ sym c.index_mut.ensures.value in
    (changed_there c.args.key.now (with_value c.args.value) (λ y. refl) c.self.inside.entries.items c.args.self.now.entries c.in-Ok.place x (with_value c.args.value x) same c.in-Ok.ensures here refl).are

pub returns-in_default : goal.returns-in_default
returns-in_default g c = changed_absent c.args.key.now (with_value c.args.value) c.args.self.now.entries c.in_default.field-0 c.in_default.ensures
