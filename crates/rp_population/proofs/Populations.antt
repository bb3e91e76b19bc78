-- The extent and the users of a population are those of its models, one after another.
use Rattle.std.proofs.Common.{◌≡◌, ℕ, List, ◌++◌, Option, Some, None, refl, ◌∙◌, ap}
use Rattle.std.proofs.lemmas.List.{map-append}
use Rattle.std.proofs.lemmas.List.Concat.{flat_map-append}
use Rattle.std.proofs.lemmas.List.Elements.{filter-append}
use Rattle.ex_schemas.specs.Schemas.{Checked}
use Rattle.rp_population.specs.declared.place.Place.{Place}
use Rattle.rp_population.specs.declared.roles.Role.{Role}
use Rattle.rp_population.specs.Populations.{Placed, places}
use Rattle.rp_population.specs.Entities.{is_of, extent_of}
use Rattle.rp_population.specs.Uses.{as_user, users_in}

pub extent_of_both : (schema : Checked) (entity : Option ℕ) (xs ys : List Placed)
    → places (extent_of schema entity (xs ++ ys)) ≡ places (extent_of schema entity xs) ++ places (extent_of schema entity ys)
extent_of_both schema None xs ys = refl
extent_of_both schema (Some entity) xs ys =
    ap places (filter-append (λ (x : Placed). is_of schema entity x.instance) xs ys)
    ∙ map-append (λ (x : Placed). x.place) (extent_of schema (Some entity) xs) (extent_of schema (Some entity) ys)

pub users_of_both : (schema : Checked) (role : Option Role) (p : Place) (xs ys : List Placed)
    → places (users_in schema role p (xs ++ ys)) ≡ places (users_in schema role p xs) ++ places (users_in schema role p ys)
users_of_both schema None p xs ys = refl
users_of_both schema (Some role) p xs ys =
    ap places (flat_map-append (as_user schema role p) xs ys)
    ∙ map-append (λ (x : Placed). x.place) (users_in schema (Some role) p xs) (users_in schema (Some role) p ys)
