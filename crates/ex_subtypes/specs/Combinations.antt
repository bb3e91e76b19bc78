-- The combinations of entities that a supertype expression allows (ISO 10303-11:1994, 9.2.4 and annex B).
use Rattle.std.specs.Prelude.{ℕ, Bool, true, false, not, if◌then◌else◌, List, [], ◌∷◌, ◌++◌, map, fold}
use Rattle.std.specs.List.{flat_map, list_all, list_any}
use Rattle.plain_data.specs.Numbers.{is_among}
use Rattle.ex_subtypes.specs.declared.choices.Choice.{Choice}
use Rattle.ex_subtypes.specs.declared.choices.Choice.TheVariants.{Nothing, Combination, Neither}
use Rattle.ex_subtypes.specs.declared.choices.Connective.{Connective}
use Rattle.ex_subtypes.specs.declared.choices.Connective.TheVariants.{OneOf, And, AndOr}
use Rattle.ex_named.specs.declared.declaration.NamedSupertype.{NamedSupertype}
use Rattle.ex_named.specs.declared.declaration.NamedSupertype.TheFolds.{fold-NamedSupertype}
use Rattle.ex_named.specs.declared.declaration.NamedSupertype.TheOpen.{NamedSupertype-F}

-- What an expression says: the entities that it names, in order, and the sets of them that it allows.
pub record Saying : Type 0 where
  pub named : List ℕ
  pub combinations : List (List ℕ)

-- all unions of one from each side
abbrev pub unions : List (List ℕ) → List (List ℕ) → List (List ℕ)
unions left right = flat_map (λ a. map (λ b. a ++ b) right) left

abbrev pub nothing : Saying
nothing = record { named = []; combinations = [] }

abbrev pub one : ℕ → Saying
one e = record { named = e ∷ []; combinations = (e ∷ []) ∷ [] }

abbrev pub either : Saying → Saying → Saying
either p q = record { named = p.named ++ q.named; combinations = p.combinations ++ q.combinations }

abbrev pub both : Saying → Saying → Saying
both p q = record { named = p.named ++ q.named; combinations = unions p.combinations q.combinations }

abbrev pub either_or_both : Saying → Saying → Saying
either_or_both p q =
    record { named = p.named ++ q.named; combinations = p.combinations ++ q.combinations ++ unions p.combinations q.combinations }

-- how a connective joins two
abbrev pub join : Connective → Saying → Saying → Saying
join OneOf = either
join And = both
join AndOr = either_or_both

-- several, one after the other
abbrev pub joined : {A : Type 0} → A → (A → A → A) → List A → A
joined none join [] = none
joined none join (p ∷ ps) = fold join p ps

abbrev pub layer : NamedSupertype-F Saying → Saying
layer (NamedSupertype-F.Entity e at) = one e
layer (NamedSupertype-F.OneOf parts) = joined nothing (join OneOf) parts
layer (NamedSupertype-F.And parts) = joined nothing (join And) parts
layer (NamedSupertype-F.AndOr parts) = joined nothing (join AndOr) parts

unfoldable pub saying : NamedSupertype → Saying
saying = fold-NamedSupertype Saying layer

abbrev pub names : NamedSupertype → List ℕ
names x = (saying x).named

-- ---- a set of entities against it

abbrev pub same : Bool → Bool → Bool
same a b = if a then b else not b

-- of the entities that are named, the set has those of the combination and no others
abbrev pub agrees : List ℕ → List ℕ → List ℕ → Bool
agrees set named combination = list_all (λ n. same (is_among combination n) (is_among set n)) named

abbrev pub touches : List ℕ → Saying → Bool
touches set p = list_any (is_among set) p.named

abbrev pub is_combination : List ℕ → Saying → Bool
is_combination set p = list_any (agrees set p.named) p.combinations

abbrev pub taken : List ℕ → Saying → Choice
taken set p = if touches set p then (if is_combination set p then Combination else Neither) else Nothing

-- no entity is named twice
abbrev pub is_distinct : List ℕ → Bool
is_distinct [] = true
is_distinct (x ∷ xs) = if is_among xs x then false else is_distinct xs
