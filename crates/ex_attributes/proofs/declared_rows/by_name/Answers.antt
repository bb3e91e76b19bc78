use Rattle.std.proofs.Common.{◌≡◌, ℕ, suc, ◌+◌, List, [], ◌∷◌, ◌++◌, map, drop, get_or, if◌then◌else◌, rules, sym, ◌∙◌, ap, arith}
use Rattle.std.specs.Str.{bytes_eq}
use Rattle.std.proofs.Math.Seq.{drop-cons}
use Rattle.ex_attributes.specs.Tables.{places_at, places_from}
use Rattle.ex_attributes.specs.declared.attribute.Attribute.{Attribute}
use Rattle.ex_attributes.proofs.Places.{place_next}
use Rattle.ex_attributes.proofs.declared_rows.by_name.Goals as goal

pub loop-place-preserved : goal.loop-place-preserved
loop-place-preserved c = λ name.
    let rows = c.args.rows.now in
    let i = c.loop-place.place in
    let a = c.index-rows-place.result in
    let rest = map (λ (b : Attribute). b.name) (drop (i + 1) rows) in
    let before = places_at name c.loop-place.table in
    let put : places_at name c.put_name.new.table ≡ (if bytes_eq a.name name then before ++ i ∷ [] else before) = c.in_ok-put_name.ensures name ∙ ap (λ (k : List ℕ). if bytes_eq k name then before ++ i ∷ [] else before) c.as_bytes.ensures in
    let later : suc i ≡ i + 1 = omega arith in
    let is : a ≡ get_or rows i a = search rules in
    let next : drop i rows ≡ a ∷ drop (i + 1) rows = drop-cons rows i a c.loop-place-test.true ∙ ap (λ x. x ∷ drop (suc i) rows) (sym is) ∙ ap (λ j. a ∷ drop j rows) later in
    ap (λ j. places_at name c.put_name.new.table ++ places_from name j rest) (sym later)
    ∙ place_next a.name name i rest before (places_at name c.put_name.new.table) put
    ∙ ap (λ (l : List Attribute). before ++ places_from name i (map (λ b. b.name) l)) (sym next)
    ∙ c.loop-place.invariant name
