-- The instances of a file: elements in order, their names, and what they refer to.
use Rattle.std.specs.Prelude.{◌≡◌, ℕ, Bool, false, ◌||◌, if◌then◌else◌, List, [], ◌∷◌, map}
use Rattle.std.specs.List.{flat_map, list_any}
use Rattle.plain_data.specs.Numbers.{is_among}
use Rattle.p21_tree.specs.declared.instance.Instance.{Instance}
use Rattle.p21_tree.specs.declared.value.Value.{Value}
use Rattle.p21_tree.specs.declared.value.Value.TheFolds.{fold-Value}
use Rattle.p21_tree.specs.declared.value.Value.TheOpen.{Value-F}

-- ---- order

module _ {X : Type 0} (is_below : X → X → Bool) where
  -- x at its place in a list that is in order, in front of its equals
  abbrev pub placed : X → List X → List X
  placed x [] = x ∷ []
  placed x (y ∷ ys) = if is_below y x then y ∷ placed x ys else x ∷ y ∷ ys

  -- the elements in order; equals stay as they stand
  abbrev pub in_order : List X → List X
  in_order [] = []
  in_order (x ∷ xs) = placed x (in_order xs)

-- ---- names

abbrev pub names : List Instance → List ℕ
names = map (λ i. i.name)

-- whether two elements are the same
abbrev pub has_twice : {X : Type 0} → (X → X → Bool) → List X → Bool
has_twice same [] = false
has_twice same (x ∷ xs) = list_any (same x) xs || has_twice same xs

-- none has the name of one behind it
abbrev pub AreOnce : {X : Type 0} → (X → ℕ) → List X → Type 0
AreOnce name [] = Unit {0}
AreOnce name (x ∷ xs) = (is_among (map name xs) (name x) ≡ false) × AreOnce name xs

-- ---- references

-- the names that one level of a value refers to, given those of the values in it
abbrev pub referred : Value-F (List ℕ) → List ℕ
referred (Value-F.Reference name) = name ∷ []
referred (Value-F.List values) = flat_map (λ found. found) values
referred (Value-F.Typed keyword found) = found
referred _ = []

-- the names that a value refers to, at any depth, from the left
abbrev pub references : Value → List ℕ
references = fold-Value (List ℕ) referred
