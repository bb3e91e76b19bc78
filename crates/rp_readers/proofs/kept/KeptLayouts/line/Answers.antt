use Rattle.std.proofs.Common.{◌≡◌, ◌<◌, ℕ, Bool, Option, Some, None, IfOk, IfSome, List, length, get_or, sym, subst, ◌∙◌, ap}
use Rattle.std.specs.List.{find}
use Rattle.std.specs.Str.{bytes_eq}
use Rattle.ex_types.specs.Checked.{Checked}
use Rattle.rp_plain.specs.Meaning.{schema_name, schema_named}
use Rattle.rp_plain.specs.Instances.{line_by}
use Rattle.rp_readers.proofs.KeptPlaces.{found_at, found_nowhere}
use Rattle.rp_readers.proofs.kept.KeptLayouts.line.Goals as goal

pub returns-in-None-clause-text : goal.returns-in-None-clause-text
returns-in-None-clause-text c =
    let p : Checked → Bool = λ schema. bytes_eq c.args.schema.now (schema_name schema) in
    let seen : c.deref.result.now ≡ c.args.self.now = c.deref.ensures.value ∙ c.self.view_is in
    let nowhere : find p c.deref.result.now ≡ None = found_nowhere p c.deref.result.now (sym c.place_named.ensures.place ∙ c.in-None.is) in
    let named : schema_named c.args.self.now c.args.schema.now ≡ None = ap (find p) (sym seen) ∙ nowhere in
    subst (λ (o : Option Checked). IfOk c.from_str.result (λ text. text ≡ line_by o (Some c.args.instance.now))) (sym named) c.from_str.ensures

pub returns-in-Some-clause-text : goal.returns-in-Some-clause-text
returns-in-Some-clause-text c =
    let p : Checked → Bool = λ schema. bytes_eq c.args.schema.now (schema_name schema) in
    let seen : c.deref.result.now ≡ c.args.self.now = c.deref.ensures.value ∙ c.self.view_is in
    let within : c.in-Some.place < length c.deref.result.now = subst (λ (o : Option ℕ). IfSome o (λ place. place < length c.deref.result.now)) c.in-Some.is c.place_named.ensures.within in
    let found : find p c.deref.result.now ≡ Some (get_or c.deref.result.now c.in-Some.place c.index_mut.result.now) =
    found_at p c.deref.result.now c.in-Some.place c.index_mut.result.now (sym c.place_named.ensures.place ∙ c.in-Some.is) within in
    let at : get_or c.deref.result.now c.in-Some.place c.index_mut.result.now ≡ c.index_mut.result.now =
    ap (λ (xs : List Checked). get_or xs c.in-Some.place c.index_mut.result.now) c.deref.ensures.value ∙ sym c.index_mut.ensures.value in
    let named : schema_named c.args.self.now c.args.schema.now ≡ Some c.index_mut.result.now = ap (find p) (sym seen) ∙ found ∙ ap Some at in
    subst (λ (o : Option Checked). IfOk c.line_by.result (λ text. text ≡ line_by o (Some c.args.instance.now))) (sym named) c.line_by.ensures.text
