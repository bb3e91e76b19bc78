-- The type of an instance as it is told.
use Rattle.std.specs.Prelude.{ℕ, List, codes}
use Rattle.std.specs.List.{join_by}
use Rattle.ex_layouts.specs.Entities.{entities}
use Rattle.ex_schemas.specs.Schemas.{Checked}
use Rattle.rp_content.specs.declared.instance.Entities.{Entities}
use Rattle.rp_content.specs.declared.instance.Entities.TheVariants.{Leaf, Several}
use Rattle.p21_canonical.specs.Trees.{entity_name}

-- the name of its leaf, or those of all its entities, joined by `+`
abbrev pub type_text : Checked → Entities → List ℕ
type_text schema (Leaf entity) = entity_name (entities schema) entity
type_text schema (Several all) = join_by (entity_name (entities schema)) (codes "+") all
