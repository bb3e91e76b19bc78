-- What is found in one model is its part of the extent.
use Rattle.std.proofs.Common.{◌≡◌, ℕ, Bool, true, false, List, [], ◌∷◌, map, filter, Option, Some, None, if◌then◌else◌, refl, ap}
use Rattle.plain_data.specs.Numbers.{is_among}
use Rattle.ex_layouts.specs.Entities.{entities_of}
use Rattle.ex_schemas.specs.Schemas.{Checked}
use Rattle.rp_content.specs.declared.instance.Instance.{Instance}
use Rattle.rp_population.specs.Populations.{Counted, Placed, placed, places}
use Rattle.rp_population.specs.Entities.{extent_of}
use Rattle.rp_population.specs.Found.{place_in, is_of_sought}

step : (m : Counted) (i : Instance) (xs : List Instance) (ys : List Placed) (t : Bool) → map (place_in m.model) xs ≡ places ys
    → map (place_in m.model) (if t then i ∷ xs else xs) ≡ places (if t then placed m i ∷ ys else ys)
step m i xs ys true same = ap (λ ps. place_in m.model i ∷ ps) same
step m i xs ys false same = same

nothing : (xs : List Instance) → filter (λ i. false) xs ≡ []
nothing [] = refl
nothing (x ∷ xs) = nothing xs

some : (schema : Checked) (entity : ℕ) (m : Counted) (xs : List Instance)
    → map (place_in m.model) (filter (is_of_sought schema (Some entity)) xs) ≡ places (extent_of schema (Some entity) (map (placed m) xs))
some schema entity m [] = refl
some schema entity m (i ∷ xs) =
    step m i (filter (is_of_sought schema (Some entity)) xs) (extent_of schema (Some entity) (map (placed m) xs)) (is_among (entities_of schema i.entities) entity)
    (some schema entity m xs)

pub extent_is : (schema : Checked) (entity : Option ℕ) (m : Counted) (xs : List Instance)
    → map (place_in m.model) (filter (is_of_sought schema entity) xs) ≡ places (extent_of schema entity (map (placed m) xs))
extent_is schema None m xs = ap (map (place_in m.model)) (nothing xs)
extent_is schema (Some entity) m xs = some schema entity m xs
