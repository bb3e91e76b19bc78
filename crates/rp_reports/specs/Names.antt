-- What the attributes of a schema are called.
use Rattle.std.specs.Prelude.{ℕ, List, map}
use Rattle.ex_named.specs.declared.declaration.NamedEntity.{NamedEntity}
use Rattle.ex_slots.specs.Slots.{declared_by}
use Rattle.rp_plain.specs.Reports.{attribute_text}

-- the names of an entity's own explicit attributes
abbrev pub names_of : NamedEntity → List (List ℕ)
names_of x = map (attribute_text x) (declared_by x)
