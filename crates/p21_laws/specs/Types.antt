-- What holds of the types of a schema that was accepted: its names are words (ISO 10303-11:1994, 7.4), which are kept in upper
-- case, no two types have one name (clause 9), and no type is in terms of itself (9.1).
use Rattle.std.specs.Prelude.{◌≡◌, ◌≤◌, ℕ, Bool, true, ◌&&◌, List}
use Rattle.std.specs.List.{list_all}
use Rattle.std.specs.Str.{bytes_eq, str_to_ascii_uppercase}
use Rattle.ex_named.specs.declared.declaration.NamedType.{NamedType}
use Rattle.ex_resolve.specs.Proved.{count, held_types}
use Rattle.ex_types.specs.Checked.{type_names}
use Rattle.graphs.specs.Graphs.{IsAcyclic}
use Rattle.p21_spelling.specs.Tokens.{is_word}
use Rattle.ex_selects.specs.Items.{items_by}

abbrev pub is_upper_word : List ℕ → Bool
is_upper_word name = is_word name && bytes_eq (str_to_ascii_uppercase name) name

-- names of types are words in upper case, and those of items are words
pub record AreWords (types : List NamedType) : Type 0 where
  pub names : list_all is_upper_word (type_names types) ≡ true
  pub items : list_all (λ x. list_all is_word (items_by x.underlying)) types ≡ true

-- beside this, no type has the name of another, and none holds itself but through an entity
pub record AreTypes (types : List NamedType) : Type 0 where
  pub once : (name : List ℕ) → count name (type_names types) ≤ 1
  pub held : IsAcyclic (held_types types)
  pub words : AreWords types
