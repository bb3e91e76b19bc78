-- Which entities' instances are among kinds.
use Rattle.std.specs.Prelude.{◌≡◌, ℕ, zero, List, Option, Some, None}
use Rattle.std.specs.List.{list_any}
use Rattle.plain_data.specs.Numbers.{is_among}
use Rattle.ex_kinds.specs.declared.kind.Sort.{Sort}
use Rattle.ex_kinds.specs.declared.kind.Sort.TheVariants as k
use Rattle.ex_kinds.specs.declared.kind.ValueKind.{ValueKind}
use Rattle.ex_kinds.specs.Kinds.{itself, same}

-- the entity of an instance itself
abbrev pub entity_at : ℕ → Sort → Option ℕ
entity_at zero (k.Entity entity) = Some entity
entity_at _ _ = None

-- they are exactly the entities of which an instance is one of the kinds
abbrev pub AreEntities : List ℕ → List ValueKind → Type 0
AreEntities entities kinds = (n : ℕ) → is_among entities n ≡ list_any (λ other. same other (itself (k.Entity n))) kinds
