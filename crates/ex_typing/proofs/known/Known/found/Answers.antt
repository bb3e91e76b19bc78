use Rattle.std.proofs.Common.{◌≡◌, ◌<◌, ◌≤◌, List, [], ◌∷◌, length, get_or, refl, sym, ◌∙◌, ap, subst, arith}
use Rattle.std.proofs.lemmas.List.Elements.{All-get_or}
use Rattle.ex_kinds.specs.Types.{plain}
use Rattle.ex_kinds.specs.declared.kind.Sort.TheVariants.{Integer}
use Rattle.ex_kinds.specs.declared.kind.ValueKind.{ValueKind}
use Rattle.ex_attributes.specs.Attributes.{found_after, found_nothing}
use Rattle.ex_attributes.specs.Kept.{IsKept}
use Rattle.ex_attributes.proofs.Alike.{kept_plainly}
use Rattle.ex_typing.proofs.known.Known.found.Goals as goal

alone : {A : Type 0} → (xs : List A) (d : A) → 1 ≤ length xs → length xs < 2 → xs ≡ get_or xs 0 d ∷ []
alone [] d least most = absurd (omega arith)
alone (x ∷ []) d least most = refl
alone (x ∷ y ∷ xs) d least most = absurd (omega arith)

pub returns-then-is_of : goal.returns-then-is_of
returns-then-is_of c =
    let types = c.args.self.now.types in
    let attributes = c.args.self.now.attributes in
    let name = c.args.name.now in
    let at = c.loop-kept.kept-index in
    let kept = c.kept-item.result in
    let inside = c.self.inside in
    let first : ValueKind = record { depth = 0; sort = Integer } in
    let within = subst (λ l. at < length l) c.deref-kept-items.ensures.value c.loop-kept-test.true in
    let read = c.kept-item.is ∙ ap (λ l. get_or l at kept) c.deref-kept-items.ensures.value in
    let inside_is = subst (IsKept inside.types inside.attributes) (sym read) (All-get_or (IsKept inside.types inside.attributes) inside.kept.items at kept within c.self.invariant.0) in
    let is = subst (λ known. IsKept known.types known.attributes kept) c.self.view_is inside_is in
    c.in_ok-found_in.ensures
    ∙ kept_plainly types attributes kept is name (sym c.if-is_of.ensures) (get_or c.args.kinds.now 0 first) c.in-Some.number (sym c.in-Some.ensures)
    ∙ ap (λ kinds. found_after attributes name found_nothing (plain types kinds)) (sym (alone c.args.kinds.now first c.in-len1.len_at_least c.in-len1.len_below))
