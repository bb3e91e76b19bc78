-- What the steps of this crate give.
use Rattle.std.specs.Prelude.{ℕ, Bool, List, [], ◌∷◌, ◌++◌, map, Option, Some, None, Ok, Err}
use Rattle.std.specs.Borrow.{Bor}
use Rattle.ex_tree.specs.declared.expression.Name.{Name}
use Rattle.ex_named.specs.declared.fault.NameFault.{NameFault}
use Rattle.ex_named.specs.declared.reference.AttributePlace.{AttributePlace}
use Rattle.ex_named.specs.declared.reference.Declared.{Declared}
use Rattle.ex_named.specs.declared.reference.EnumerationItem.{EnumerationItem}
use Rattle.ex_named.specs.Outcomes.{Outcome}
use Rattle.ex_named.specs.Scopes.{Declarations}

-- nothing but a fault, where one was found
abbrev pub told : Option NameFault → Outcome (Unit {0})
told None = Ok tt
told (Some fault) = Err fault

-- the one that is there
abbrev pub options : {A : Type 0} → Option A → List A
options None = []
options (Some a) = a ∷ []

-- names that are lent, each with what it declares
abbrev pub rows_of : List (Bor Name × Declared) → List (Name × Declared)
rows_of rows = map (λ r. (r.0.now, r.1)) rows

module _ (found : Declarations) where
  abbrev pub and_names : List (Name × Declared) → Declarations
  and_names rows = record found { names = found.names ++ map (λ r. (r.0.text, r.1)) rows }

  abbrev pub and_attributes : List (List ℕ × AttributePlace) → Declarations
  and_attributes rows = record found { attributes = found.attributes ++ rows }

  abbrev pub and_items : List (List ℕ × EnumerationItem) → Declarations
  and_items rows = record found { items = found.items ++ rows }

  abbrev pub and_types : List (List ℕ × EnumerationItem) → List Bool → Declarations
  and_types rows marks = record found { items = found.items ++ rows; enumerations = found.enumerations ++ marks }
