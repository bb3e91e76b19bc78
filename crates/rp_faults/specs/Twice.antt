-- Instances that stand twice among others, by their places.
use Rattle.std.specs.Prelude.{ℕ, ◌==◌, ◌||◌, nat_lt, Bool, false, List, [], ◌∷◌, ◌++◌, Option, Some, if◌then◌else◌}
use Rattle.std.specs.List.{list_any}
use Rattle.std.specs.Option.{option_and_then, option_map}
use Rattle.rp_meaning.specs.Bare.{place_in}
use Rattle.rp_value.specs.declared.value.Value.{Value, out-Value}

-- with one more before them, unless it leaves a population of so many
abbrev pub and_place : ℕ → ℕ → List ℕ → List ℕ
and_place count place places = if nat_lt place count then place ∷ places else places

-- the places of instances, without those that leave the population; nothing, where another value is among them
abbrev pub places_in : ℕ → List Value → Option (List ℕ)
places_in count [] = Some []
places_in count (x ∷ xs) = option_and_then (λ place. option_map (and_place count place) (places_in count xs)) (place_in (out-Value x))

-- whether a place repeats one before it, after these
abbrev pub repeats : List ℕ → List ℕ → Bool
repeats before [] = false
repeats before (place ∷ places) = list_any (λ other. place == other) before || repeats (before ++ place ∷ []) places
