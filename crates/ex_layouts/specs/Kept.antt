-- What was found for some instances, and is kept for those that follow.
use Rattle.std.specs.Prelude.{◌≡◌, ◌≤◌, ℕ, List, Some, IfSome, slice_get}
use Rattle.ex_schemas.specs.Schemas.{Checked}
use Rattle.ex_layouts.specs.declared.layout.Layout.{Layout}
use Rattle.ex_layouts.specs.declared.layouts.KeptLeaf.{KeptLeaf}
use Rattle.ex_layouts.specs.declared.layouts.Spelling.{Spelling}
use Rattle.ex_layouts.specs.Entities.{entity_spelled}
use Rattle.ex_layouts.specs.Layouts.{of_leaf, of_several}

-- so many spellings, leaves and combinations are within the bounds
abbrev pub AreFew : ℕ → ℕ → ℕ → Type 0
AreFew spellings leaves combinations = (spellings ≤ 4096) × (leaves ≤ 4096) × (combinations ≤ 1024)

module _ (schema : Checked) where
  -- each is a name of the entity beside it
  abbrev pub AreNamed : List Spelling → Type 0
  AreNamed spellings = (k : ℕ) → IfSome (slice_get spellings k) (λ x. entity_spelled schema x.text ≡ Some x.entity)

  -- each is what an instance of its entity has values of
  abbrev pub AreLeaves : List KeptLeaf → Type 0
  AreLeaves leaves = (k : ℕ) → IfSome (slice_get leaves k) (λ x. x.layout ≡ of_leaf schema x.entity)

  -- each is what an instance of its entities has values of, whose records stand in their order
  abbrev pub AreCombinations : List Layout → Type 0
  AreCombinations combinations = (k : ℕ) → IfSome (slice_get combinations k) (λ x. x ≡ of_several schema x.entities)
