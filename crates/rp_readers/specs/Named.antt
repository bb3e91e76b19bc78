-- Models whose instances and links can be found by their names: those of each valid repository.
use Rattle.std.specs.Prelude.{◌≡◌, ◌≤◌, Some}
use Rattle.std.specs.Ordering.{nat_cmp}
use Rattle.sorted_tables.specs.Table.{IsAscending}
use Rattle.std.specs.List.{AllByRecursion}
use Rattle.rp_rows.specs.declared.rows.ModelContent.{ModelContent}
use Rattle.rp_rows.specs.declared.rows.Key.{Key}
use Rattle.rp_rows.specs.Rows.{Model}
use Rattle.rp_rows.specs.Contents.{link_name}
use Rattle.rp_rows.specs.Instances.{max_name, IsInOrder}
pub use Rattle.rp_positions.specs.Positions.{IsSearchable}
use Rattle.rp_plain.specs.Plain.{Plain}
use Rattle.rp_plain.specs.Readers.{Readers}

-- its instances stand in the order of their names, each name once, and so do its links; there is a number behind its greatest
-- name
pub record IsNamed (h : ModelContent) : Type 0 where
  pub order : IsInOrder h.content.instances
  pub greatest : h.greatest ≤ max_name
  pub links : IsAscending nat_cmp link_name h.content.links

abbrev pub HoldsNamed : Model → Type 0
HoldsNamed m = IsNamed m.holds

-- all models are so
abbrev pub AreNamed : Plain → Type 0
AreNamed r = AllByRecursion HoldsNamed r.models

-- all models that a partner is told of are so
abbrev pub TellsNamed : Readers → Type 0
TellsNamed a = (k : Key) (h : ModelContent) → a.content k ≡ Some h → IsNamed h
