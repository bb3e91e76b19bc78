use Rattle.std.proofs.Common.{◌≡◌, ℕ, suc, List, [], ◌∷◌, ◌++◌, if◌then◌else◌, rules, sym, ◌∙◌, ap}
use Rattle.std.specs.Str.{bytes_eq}
use Rattle.ex_attributes.specs.Tables.{places_at, places_from}
use Rattle.ex_attributes.proofs.Places.{place_next}
use Rattle.ex_attributes.proofs.tables.places_by_key.Goals as goal

pub loop-place-preserved : goal.loop-place-preserved
loop-place-preserved c = λ key.
    let l = c.loop-place in
    let i = l.place-iterator.count in
    let rest = c.next.new.self.iter.rest.items in
    let before = places_at key l.table in
    let step : (l.place-iterator.iter.rest.items ≡ c.in-Some.key ∷ rest) × (c.in-Some.place ≡ i) × (c.next.new.self.count ≡ suc i) = search rules in
    let put : places_at key c.put.new.table ≡ (if bytes_eq c.in-Some.key key then before ++ i ∷ [] else before) =
    c.in_ok-put.ensures key ∙ ap (λ (k : List ℕ). if bytes_eq k key then before ++ c.in-Some.place ∷ [] else before) c.into_vec.ensures
    ∙ ap (λ n. if bytes_eq c.in-Some.key key then before ++ n ∷ [] else before) step.1 in
    ap (λ n. places_at key c.put.new.table ++ places_from key n rest) step.2 ∙ place_next c.in-Some.key key i rest before (places_at key c.put.new.table) put
    ∙ ap (λ keys. before ++ places_from key i keys) (sym step.0) ∙ l.invariant key
