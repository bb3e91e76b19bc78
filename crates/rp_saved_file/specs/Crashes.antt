-- What a crash may leave in the place of a file.
use Rattle.std.specs.Prelude.{◌≡◌, ◌⊎◌, ◌≤◌, ℕ, List, Option, Some, option_map, IfSome}

-- what stands in a place: the bytes of a file, or nothing
abbrev pub Place : Type 0
Place = Option (List ℕ)

-- a file of these bytes stands there, where they are known
abbrev pub file_of : Option (List ℕ) → Option Place
file_of known = option_map Some known

-- where it is known what stands in the place, this is it
abbrev pub Is : Option Place → Place → Type 0
Is known place = IfSome known (λ there. place ≡ there)

-- where it is known what stands in the place, a crash leaves this and nothing else
abbrev pub LeavesOnly : Option Place → (Place → Type 0) → Type 0
LeavesOnly known may_leave = IfSome known (λ there. (place : Place) → may_leave place → place ≡ there)

-- a crash leaves nothing that it couldn't leave before
abbrev pub LeavesNoMore : (old new : Place → Type 0) → Type 0
LeavesNoMore old new = (place : Place) → new place → old place

-- a crash leaves what it could leave before, or what is known
abbrev pub LeavesOldOr : Option Place → (old new : Place → Type 0) → Type 0
LeavesOldOr known old new = (place : Place) → new place → old place ⊎ Is known place

-- Time goes on: a crash since then might have left what it might have left before, or what it may leave now.
pub record Elapses (before now : ℕ) (past since : ℕ → Place → Type 0) (may_leave : Place → Type 0) : Type 0 where
  pub later : before ≤ now
  pub nothing_else : (then : ℕ) (place : Place) → then ≤ before → since then place → past then place ⊎ may_leave place
  pub keeps : (then : ℕ) (place : Place) → then ≤ before → past then place → since then place

-- A crash at any moment since old leaves what one could leave then, or what is known.
pub record Meanwhile {P : Type 0} (moment : P → ℕ) (left_since : P → ℕ → Place → Type 0) (may_leave : P → Place → Type 0) (old new : P) (known : Option Place) : Type 0 where
  pub later : moment old ≤ moment new
  pub each : (place : Place) → left_since new (moment old) place → may_leave old place ⊎ Is known place
  -- for what began earlier
  pub before : (then : ℕ) (place : Place) → then ≤ moment old → left_since new then place → left_since old then place ⊎ (may_leave old place ⊎ Is known place)
