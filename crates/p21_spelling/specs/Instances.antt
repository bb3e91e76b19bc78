-- How instances are spelled: one line each (ISO 10303-21, SIMPLE_ENTITY_INSTANCE and COMPLEX_ENTITY_INSTANCE).
use Rattle.std.specs.Prelude.{ℕ, Bool, ◌&&◌, nat_le, nat_lt, List, [], ◌∷◌, ◌++◌, length, map, decimal}
use Rattle.std.specs.List.{flat_map, list_all}
use Rattle.p21_tree.specs.declared.instance.Instance.{Instance}
use Rattle.p21_tree.specs.declared.instance.Mapping.{Mapping}
use Rattle.p21_tree.specs.declared.instance.Mapping.TheVariants.{Internal, External}
use Rattle.p21_tree.specs.declared.instance.Record.{Record}
use Rattle.p21_grammar.specs.Grammar.{max_nesting}
use Rattle.p21_spelling.specs.Tokens.{is_name, is_word, enclosed}
use Rattle.p21_spelling.specs.Values.{Spelling, all_spelled, deepest, listed, spelling}

-- the values of a record are such as are read
abbrev pub are_values : List Spelling → Bool
are_values vs = all_spelled vs && nat_le (deepest vs) max_nesting

-- `KEYWORD(values)`
abbrev pub record_text : Record → List ℕ
record_text r = r.keyword ++ enclosed (listed (map spelling r.values))

abbrev pub is_record : Record → Bool
is_record r = is_word r.keyword && are_values (map spelling r.values)

-- one record, or several in parentheses
abbrev pub mapping_text : Mapping → List ℕ
mapping_text (Internal r) = record_text r
mapping_text (External rs) = enclosed (flat_map record_text rs)

abbrev pub is_mapping : Mapping → Bool
is_mapping (Internal r) = is_record r
is_mapping (External rs) = nat_lt 0 (length rs) && list_all is_record rs

-- `#name=mapping;`
abbrev pub instance_text : Instance → List ℕ
instance_text i = 35 ∷ (decimal i.name ++ 61 ∷ (mapping_text i.mapping ++ 59 ∷ []))

abbrev pub is_instance : Instance → Bool
is_instance i = is_name i.name && is_mapping i.mapping

-- with a line feed behind each
abbrev pub lines : List Instance → List ℕ
lines is = flat_map (λ i. instance_text i ++ 10 ∷ []) is
