-- What is written of an instance is ASCII where its tree is well spelled.
use Rattle.std.proofs.Common.{◌≡◌, ℕ, zero, suc, Bool, true, false, nat_le, nat_lt, List, [], ◌∷◌, ◌++◌, length, map, take, drop, arith, decimal}
use Rattle.std.proofs.lemmas.Str.{IsAscii-append}
use Rattle.std.proofs.lemmas.Str.Ascii.{IsAscii-cons, IsAscii-nil}
use Rattle.std.specs.List.{AllByRecursion, flat_map, list_all}
use Rattle.std.specs.Prelude.{slice_index_or}
use Rattle.std.specs.Str.{IsAscii}
use Rattle.plain_data.specs.Numbers.{numbered_from}
use Rattle.ex_named.specs.declared.declaration.NamedType.{NamedType}
use Rattle.ex_schemas.specs.Schemas.{Checked}
use Rattle.p21_canonical.specs.Trees.{Part, attribute_at, attribute_tree, instance_tree, leaf_part, mapping, own_parts, record_of, records, types}
use Rattle.p21_grammar.specs.Grammar.{max_nesting}
use Rattle.p21_spelling.proofs.Ascii.{word_ascii}
use Rattle.p21_spelling.proofs.Runs.{first_holds, second_holds}
use Rattle.p21_spelling.specs.Instances.{are_values, instance_text, is_instance, is_mapping, is_record, lines, mapping_text, record_text}
use Rattle.p21_spelling.specs.Tokens.{enclosed, is_name, is_word}
use Rattle.p21_spelling.specs.Values.{Spelling, all_spelled, deepest, listed, spelling}
use Rattle.p21_tree.specs.declared.instance.Mapping.{Mapping}
use Rattle.p21_tree.specs.declared.instance.Record.{Record}
use Rattle.rp_content.specs.declared.instance.Entities.{Entities}
use Rattle.rp_content.specs.declared.instance.Entities.TheVariants.{Leaf, Several}
use Rattle.rp_content.specs.declared.instance.Instance.{Instance}
use Rattle.rp_value.specs.declared.value.Value.{Value}
use Rattle.p21_ascii.proofs.Tokens.{enclosed_ascii, name_ascii}
use Rattle.p21_ascii.proofs.Values.{AreLow, IsLow, derived_low, listed_ascii, value_low}

-- ---- what stands between parentheses

pub values_ascii : (vs : List Spelling) → AreLow vs → are_values vs ≡ true → IsAscii (enclosed (listed vs))
values_ascii vs low are = enclosed_ascii (listed vs) (listed_ascii vs low (first_holds (all_spelled vs) (nat_le (deepest vs) max_nesting) are))

-- ---- attributes

module _ (types : List NamedType) where
  attribute_low : (is_derived : Bool) (w : Value) → IsLow (spelling (attribute_tree types is_derived w))
  attribute_low true w = derived_low
  attribute_low false w = value_low types w

  attributes_from : (marks : List Bool) (k : ℕ) (ws : List Value) → AreLow (map spelling (numbered_from (attribute_at types marks) k ws))
  attributes_from marks k [] = tt
  attributes_from marks k (w ∷ ws) = (attribute_low (slice_index_or marks k false) w, attributes_from marks (suc k) ws)

-- ---- records

abbrev OfLow : Record → Type 0
OfLow r = AreLow (map spelling r.values)

record_ascii : (r : Record) → OfLow r → is_record r ≡ true → IsAscii (record_text r)
record_ascii r low is =
    let vs : List Spelling = map spelling r.values in
    IsAscii-append r.keyword (enclosed (listed vs)) (word_ascii r.keyword (first_holds (is_word r.keyword) (are_values vs) is)) (values_ascii vs low (second_holds (is_word r.keyword) (are_values vs) is))

records_ascii : (rs : List Record) → AllByRecursion OfLow rs → list_all is_record rs ≡ true → IsAscii (flat_map record_text rs)
records_ascii [] low all = IsAscii-nil
records_ascii (r ∷ rs) low all =
    IsAscii-append (record_text r) (flat_map record_text rs) (record_ascii r low.0 (first_holds (is_record r) (list_all is_record rs) all)) (records_ascii rs low.1 (second_holds (is_record r) (list_all is_record rs) all))

module _ (schema : Checked) where
  record_low : (part : Part) (ws : List Value) → OfLow (record_of schema part ws)
  record_low part ws = attributes_from (types schema) part.marks zero ws

  records_low : (parts : List Part) (ws : List Value) → AllByRecursion OfLow (records schema parts ws)
  records_low [] ws = tt
  records_low (part ∷ parts) ws = (record_low part (take (length part.marks) ws), records_low parts (drop (length part.marks) ws))

  -- ---- instances

  mapping_ascii : (entities : Entities) (ws : List Value) → is_mapping (mapping schema entities ws) ≡ true → IsAscii (mapping_text (mapping schema entities ws))
  mapping_ascii (Leaf leaf) ws is = record_ascii (record_of schema (leaf_part schema leaf) ws) (record_low (leaf_part schema leaf) ws) is
  mapping_ascii (Several all) ws is =
      let rs : List Record = records schema (own_parts schema all) ws in
      enclosed_ascii (flat_map record_text rs) (records_ascii rs (records_low (own_parts schema all) ws) (second_holds (nat_lt 0 (length rs)) (list_all is_record rs) is))

  instance_ascii : (i : Instance) → is_instance (instance_tree schema i) ≡ true → IsAscii (instance_text (instance_tree schema i))
  instance_ascii i is =
      let m : Mapping = mapping schema i.entities i.values in
      let end : IsAscii (59 ∷ []) = IsAscii-cons 59 [] (omega arith) IsAscii-nil in
      let body : IsAscii (mapping_text m) = mapping_ascii i.entities i.values (second_holds (is_name i.name) (is_mapping m) is) in
      let behind : IsAscii (61 ∷ (mapping_text m ++ 59 ∷ [])) = IsAscii-cons 61 (mapping_text m ++ 59 ∷ []) (omega arith) (IsAscii-append (mapping_text m) (59 ∷ []) body end) in
      let name : IsAscii (decimal i.name) = name_ascii i.name (first_holds (is_name i.name) (is_mapping m) is) in
      IsAscii-cons 35 (decimal i.name ++ 61 ∷ (mapping_text m ++ 59 ∷ [])) (omega arith) (IsAscii-append (decimal i.name) (61 ∷ (mapping_text m ++ 59 ∷ [])) name behind)

  pub lines_ascii : (is : List Instance) → list_all is_instance (map (instance_tree schema) is) ≡ true → IsAscii (lines (map (instance_tree schema) is))
  lines_ascii [] all = IsAscii-nil
  lines_ascii (i ∷ is) all =
      let spelled : Bool = is_instance (instance_tree schema i) in
      let rest : Bool = list_all is_instance (map (instance_tree schema) is) in
      let text : List ℕ = instance_text (instance_tree schema i) in
      IsAscii-append (text ++ 10 ∷ []) (lines (map (instance_tree schema) is))
      (IsAscii-append text (10 ∷ []) (instance_ascii i (first_holds spelled rest all)) (IsAscii-cons 10 [] (omega arith) IsAscii-nil)) (lines_ascii is (second_holds spelled rest all))
