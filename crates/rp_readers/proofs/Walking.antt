-- Populations that are walked over one model after another.
use Rattle.std.proofs.Common.{◌≡◌, ℕ, Bool, List, [], ◌∷◌, ◌++◌, map, Option, Some, None, refl, sym, ◌∙◌, ap}
use Rattle.std.specs.Prelude.{filter}
use Rattle.std.specs.List.{flat_map}
use Rattle.std.proofs.lemmas.List.Elements.{filter-append}
use Rattle.std.proofs.lemmas.Grind.{flat_map-append}
use Rattle.sorted_tables.proofs.Tables.{map-append}
use Rattle.ex_types.specs.Checked.{Checked}
use Rattle.rp_population.specs.declared.place.Place.{Place}
use Rattle.rp_population.specs.declared.roles.Role.{Role}
use Rattle.rp_population.specs.Populations.{Placed, placed_all, population, places}
use Rattle.rp_population.specs.Entities.{is_of, extent_of}
use Rattle.rp_population.specs.Uses.{as_user, users_in}
use Rattle.rp_rows.specs.declared.rows.ModelContent.{ModelContent}
use Rattle.rp_sight.specs.declared.rows.RowRef.{RowRef}
use Rattle.rp_readers.specs.Listed.{counted_of}

-- what is told of a list in parts is told of a population model by model
walked : (F : List Placed → List Place) → F [] ≡ [] → ((xs ys : List Placed) → F (xs ++ ys) ≡ F xs ++ F ys) → (ms : List (RowRef ModelContent)) → flat_map (λ m. F (placed_all (counted_of m))) ms ≡ F (population (map counted_of ms))
walked F none parts [] = sym none
walked F none parts (m ∷ ms) =
    ap (λ ps. F (placed_all (counted_of m)) ++ ps) (walked F none parts ms)
    ∙ sym (parts (placed_all (counted_of m)) (population (map counted_of ms)))

-- ---- extents

abbrev pub told_extent : Checked → Option ℕ → List Placed → List Place
told_extent schema entity xs = places (extent_of schema entity xs)

extent_none : (schema : Checked) (entity : Option ℕ) → told_extent schema entity [] ≡ []
extent_none schema None = refl
extent_none schema (Some entity) = refl

extent_parts : (schema : Checked) (entity : Option ℕ) (xs ys : List Placed) → told_extent schema entity (xs ++ ys) ≡ told_extent schema entity xs ++ told_extent schema entity ys
extent_parts schema None xs ys = refl
extent_parts schema (Some entity) xs ys =
    let p : Placed → Bool = λ x. is_of schema entity x.instance in
    ap places (filter-append p xs ys) ∙ map-append (λ (x : Placed). x.place) (filter p xs) (filter p ys)

pub extent_walked : (schema : Checked) (entity : Option ℕ) (ms : List (RowRef ModelContent)) → flat_map (λ m. told_extent schema entity (placed_all (counted_of m))) ms ≡ told_extent schema entity (population (map counted_of ms))
extent_walked schema entity = walked (told_extent schema entity) (extent_none schema entity) (extent_parts schema entity)

-- ---- users

abbrev pub told_users : Checked → Option Role → Place → List Placed → List Place
told_users schema role p xs = places (users_in schema role p xs)

users_none : (schema : Checked) (role : Option Role) (p : Place) → told_users schema role p [] ≡ []
users_none schema None p = refl
users_none schema (Some role) p = refl

users_parts : (schema : Checked) (role : Option Role) (p : Place) (xs ys : List Placed) → told_users schema role p (xs ++ ys) ≡ told_users schema role p xs ++ told_users schema role p ys
users_parts schema None p xs ys = refl
users_parts schema (Some role) p xs ys =
    let f : Placed → List Placed = as_user schema role p in
    ap places (flat_map-append f xs ys) ∙ map-append (λ (x : Placed). x.place) (flat_map f xs) (flat_map f ys)

pub users_walked : (schema : Checked) (role : Option Role) (p : Place) (ms : List (RowRef ModelContent)) → flat_map (λ m. told_users schema role p (placed_all (counted_of m))) ms ≡ told_users schema role p (population (map counted_of ms))
users_walked schema role p = walked (told_users schema role p) (users_none schema role p) (users_parts schema role p)
