-- The users of a place, from the last on.
use Rattle.std.proofs.Common.{◌≡◌, Bool, true, false, List, [], ◌∷◌, ◌++◌, map, filter, reverse, if◌then◌else◌, refl, sym, ◌∙◌, ap, append_assoc}
use Rattle.std.proofs.lemmas.List.{map-append, reverse-append}
use Rattle.std.proofs.lemmas.List.Elements.{filter-append}
use Rattle.rp_value.specs.declared.value.Value.{Value}
use Rattle.rp_value.specs.declared.value.Value.TheVariants as v
use Rattle.rp_code.specs.declared.role.Role.{Role}
use Rattle.rp_meaning.specs.Populations.{instances}
use Rattle.rp_meaning.specs.Uses.{User, is_in, places_among}

abbrev found_in : Role → List User → List Value
found_in role users = instances (places_among role users)

found-append : (role : Role) (us ws : List User) → found_in role (us ++ ws) ≡ found_in role us ++ found_in role ws
found-append role us ws =
    ap (λ (xs : List User). instances (map (λ u. u.place) xs)) (filter-append (is_in role) us ws)
    ∙ ap instances (map-append (λ (u : User). u.place) (filter (is_in role) us) (filter (is_in role) ws))
    ∙ map-append (λ place. v.Inst place) (places_among role us) (places_among role ws)

one-by : (u : User) (t : Bool) → reverse (instances (map (λ (w : User). w.place) (if t then u ∷ [] else []))) ≡ instances (map (λ (w : User). w.place) (if t then u ∷ [] else []))
one-by u true = refl
one-by u false = refl

one : (role : Role) (u : User) → reverse (found_in role (u ∷ [])) ≡ found_in role (u ∷ [])
one role u = one-by u (is_in role u)

-- one found, and what is left
pub walk_step : (role : Role) (users rest : List User) (u : User) (found more : List Value) → users ≡ rest ++ u ∷ [] → more ≡ found ++ found_in role (u ∷ [])
    → found_in role rest ++ reverse more ≡ found_in role users ++ reverse found
walk_step role users rest u found more is grown =
    ap (λ xs. found_in role rest ++ reverse xs) grown
    ∙ ap (λ xs. found_in role rest ++ xs) (reverse-append found (found_in role (u ∷ [])))
    ∙ ap (λ xs. found_in role rest ++ (xs ++ reverse found)) (one role u)
    ∙ sym (append_assoc (found_in role rest) (found_in role (u ∷ [])) (reverse found))
    ∙ ap (λ xs. xs ++ reverse found) (sym (found-append role rest (u ∷ [])) ∙ ap (found_in role) (sym is))

pub walk_end : (role : Role) (users : List User) (found : List Value) → users ≡ [] → found_in role users ++ reverse found ≡ reverse found
walk_end role users found is = ap (λ us. found_in role us ++ reverse found) is
