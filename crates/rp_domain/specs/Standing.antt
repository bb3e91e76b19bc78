-- Where instances stand, by their entities.
use Rattle.std.specs.Prelude.{ℕ, ◌+◌, List, [], ◌∷◌, ◌++◌, map, Option, Some, None}
use Rattle.rp_meaning.specs.Populations.{Instance}
use Rattle.rp_meaning.specs.Uses.{each_once, once_after}

-- an instance at a place, by each of its entities
abbrev pub standing : ℕ → List ℕ → List (ℕ × ℕ)
standing place entities = map (λ entity. (entity, place)) entities

-- instances, the first of which stands at this place
unfoldable pub standing_from : ℕ → List Instance → List (ℕ × ℕ)
standing_from place [] = []
standing_from place (i ∷ others) = standing place i.entities ++ standing_from (place + 1) others

-- each once, behind a last one
abbrev pub once_behind : Option ℕ → List ℕ → List ℕ
once_behind None places = each_once places
once_behind (Some last) places = once_after last places
