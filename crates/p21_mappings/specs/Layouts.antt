-- What an instance may have values of, by the records that a file writes of it (ISO 10303-21:2002, 10.2.5).
use Rattle.std.specs.Prelude.{ℕ, List, Option}
use Rattle.ex_layouts.specs.declared.layout.Layout.{Layout}
use Rattle.ex_layouts.specs.Layouts.{legal, of_leaf, of_several}
use Rattle.ex_schemas.specs.Schemas.{Checked}

module _ (schema : Checked) where
  -- internal mapping: one record, of this entity and all above it
  unfoldable pub internal : ℕ → Option Layout
  internal entity = legal (of_leaf schema entity)

  -- external mapping: a record of each of these entities, in this order
  unfoldable pub external : List ℕ → Option Layout
  external numbers = legal (of_several schema numbers)
