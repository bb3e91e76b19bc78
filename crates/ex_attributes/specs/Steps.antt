-- What the steps of this crate give.
use Rattle.std.specs.Prelude.{ℕ, List, map}
use Rattle.std.specs.Borrow.{Bor}
use Rattle.ex_tree.specs.declared.expression.Name.{Name}
use Rattle.ex_named.specs.declared.expression.NamedDataType.{NamedDataType}
use Rattle.ex_kinds.specs.Kinds.{Kinds, of_type}

-- names and their types, which are lent
abbrev pub rows_of : List (Bor Name × Bor NamedDataType) → List (List ℕ × Kinds)
rows_of rows = map (λ r. (r.0.now.text, of_type r.1.now)) rows

-- rows that are lent
abbrev pub read : {A : Type 0} → List (Bor A) → List A
read rows = map (λ r. r.now) rows
