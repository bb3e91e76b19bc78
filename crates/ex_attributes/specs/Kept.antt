-- What is found of a name in each type, where all types that have it have it alike.
use Rattle.std.specs.Prelude.{◌≡◌, ℕ, Bool, true, false, List}
use Rattle.std.specs.List.{flat_map}
use Rattle.graphs.specs.Graphs.{family}
use Rattle.ex_kinds.specs.Kinds.{Kinds}
use Rattle.ex_renamings.specs.Leading.{is_marked}
use Rattle.ex_kinds.specs.Types.{declared, own, alternatives, plain}
use Rattle.ex_attributes.specs.Attributes.{Attributes, found_nothing, found_after}
use Rattle.ex_attributes.specs.declared.found.Found.{Found}
use Rattle.ex_attributes.specs.declared.kept.Kept.{Kept}
use Rattle.ex_attributes.specs.declared.kept.KeptAmong.{KeptAmong}

-- this, or nothing
abbrev pub found_if : Bool → Found → Found
found_if true found = found
found_if false found = found_nothing

module _ (types : List Kinds) (schema : Attributes) (name : List ℕ) where
  -- what is found of the name after a type's own declaration
  abbrev pub after_own : Found → ℕ → Found
  after_own found m = found_after schema name found (own (declared types m))

  -- what is found of it in all that a type stands for
  abbrev pub type_found : ℕ → Found
  type_found n = found_after schema name found_nothing (flat_map (λ m. own (declared types m)) (family (alternatives types) n))

  -- whether a type's own declaration has the name like the others, or not at all
  abbrev pub IsAlike : Found → ℕ → Bool → Type 0
  IsAlike found m mark = (after_own found_nothing m ≡ found_if mark found) × (after_own found m ≡ found)

-- of each type it tells what is found of the name
unfoldable pub IsKept : List Kinds → Attributes → Kept → Type 0
IsKept types schema kept = (n : ℕ) → found_if (is_marked kept.marks.items n) kept.found ≡ type_found types schema kept.name n

-- it tells what is found of the name among its kinds
abbrev pub IsKeptAmong : List Kinds → Attributes → KeptAmong → Type 0
IsKeptAmong types schema kept = kept.found ≡ found_after schema kept.name found_nothing (plain types kept.kinds)
