use Rattle.std.proofs.Common.{◌≡◌, [], get_or, sym, ◌∙◌, ap, subst, OnOk}
use Rattle.rp_rows.specs.Rows.{key_of}
use Rattle.rp_store.specs.Entries.{revalued, with_name}
use Rattle.rp_store.proofs.Finding.{revalued_there}
use Rattle.rp_store.proofs.keyed.Keyed+Rows+Text.add_name.Goals as goal

pub invariant_of-self : goal.invariant_of-self
invariant_of-self c =
    let x = c.index_mut.result.now in
    let same = ap (λ s. s.entries) c.self.view_is in
    let here : get_or c.args.self.now.entries c.in-Ok.place x ≡ x = ap (λ xs. get_or xs c.in-Ok.place x) (sym same) ∙ sym c.index_mut.ensures.value in
    let added = subst (λ n. OnOk c.push_name.result (c.push_name.new.entry ≡ revalued (with_name n) x)) c.in_ok-name.ensures c.push_name.ensures.added in
    (revalued_there (key_of c.args.owner.now c.args.other.now) [] (with_name c.args.name.now) c.self.inside.entries.items c.args.self.now.entries c.in-Ok.place x c.push_name.new.entry c.push_name.result same c.in-Ok.ensures here added c.push_name.ensures.kept).0

pub returns-in-Ok-clause-added : goal.returns-in-Ok-clause-added
returns-in-Ok-clause-added c =
    let x = c.index_mut.result.now in
    let same = ap (λ s. s.entries) c.self.view_is in
    let here : get_or c.args.self.now.entries c.in-Ok.place x ≡ x = ap (λ xs. get_or xs c.in-Ok.place x) (sym same) ∙ sym c.index_mut.ensures.value in
    let added = subst (λ n. OnOk c.push_name.result (c.push_name.new.entry ≡ revalued (with_name n) x)) c.in_ok-name.ensures c.push_name.ensures.added in
    (revalued_there (key_of c.args.owner.now c.args.other.now) [] (with_name c.args.name.now) c.self.inside.entries.items c.args.self.now.entries c.in-Ok.place x c.push_name.new.entry c.push_name.result same c.in-Ok.ensures here added c.push_name.ensures.kept).1
