-- The canonical text of a content is ASCII where its tree is well spelled.
use Rattle.std.proofs.Common.{◌≡◌, ◌<◌, ◌==◌, ℕ, Bool, true, ◌&&◌, nat_lt, List, [], ◌∷◌, ◌++◌, length, map, None, codes, refl, arith}
use Rattle.std.proofs.lemmas.Bool.Decides.{nat_tests}
use Rattle.std.proofs.lemmas.Str.{IsAscii-append}
use Rattle.std.proofs.lemmas.Str.Ascii.{IsAscii-nil}
use Rattle.std.specs.List.{AllByRecursion, flat_map, list_all}
use Rattle.std.specs.Str.{IsAscii}
use Rattle.ex_schemas.specs.Schemas.{Checked}
use Rattle.p21_canonical.proofs.Ascii.{encoded_is}
use Rattle.p21_canonical.specs.Trees.{canonical, content_tree, header_tree, header_value_tree, instance_tree}
use Rattle.p21_escapes.specs.Encoding.{encoded}
use Rattle.p21_spelling.proofs.Ascii.{all_ascii}
use Rattle.p21_spelling.proofs.Runs.{first_holds, second_holds}
use Rattle.p21_spelling.specs.Files.{data_text, entity_text, file_text, header_text, is_file, is_header, line, schema_text}
use Rattle.p21_spelling.specs.Instances.{are_values, is_instance, lines}
use Rattle.p21_spelling.specs.Tokens.{enclosed, is_string, quoted}
use Rattle.p21_spelling.specs.Values.{Spelling, header_spelling, listed}
use Rattle.p21_tree.specs.declared.instance.Instance as tree
use Rattle.rp_content.specs.declared.content.Content.{Content}
use Rattle.rp_content.specs.declared.header.Header.{Header}
use Rattle.rp_content.specs.declared.instance.Instance.{Instance}
use Rattle.rp_value.specs.declared.value.Value.{Value}
use Rattle.p21_ascii.proofs.Instances.{lines_ascii, values_ascii}
use Rattle.p21_ascii.proofs.Tokens.{enclosed_ascii, quoted_ascii}
use Rattle.p21_ascii.proofs.Values.{header_values_low}

-- ---- lines of words

below : (b : ℕ) → nat_lt b 128 ≡ true → b < 128
below b is = grind (arith, nat_tests)

-- a text that is known
known : (t : List ℕ) → list_all (λ b. nat_lt b 128) t ≡ true → IsAscii t
known t all = all_ascii (λ b. nat_lt b 128) below t all

line_ascii : (t : List ℕ) → IsAscii t → IsAscii (line t)
line_ascii t is = IsAscii-append t (59 ∷ 10 ∷ []) is (known (59 ∷ 10 ∷ []) refl)

all_lines : (ts : List (List ℕ)) → AllByRecursion IsAscii ts → IsAscii (flat_map line ts)
all_lines [] all = IsAscii-nil
all_lines (t ∷ ts) all = IsAscii-append (line t) (flat_map line ts) (line_ascii t all.0) (all_lines ts all.1)

-- ---- the header

entity_ascii : (called : List ℕ) (ws : List Value) → IsAscii called → are_values (map header_spelling (map header_value_tree ws)) ≡ true → IsAscii (entity_text called (map header_value_tree ws))
entity_ascii called ws name are =
    let vs : List Spelling = map header_spelling (map header_value_tree ws) in
    IsAscii-append called (enclosed (listed vs)) name (values_ascii vs (header_values_low ws) are)

schema_ascii : (name : List ℕ) → IsAscii (schema_text (encoded name))
schema_ascii name =
    let one : IsAscii (quoted (encoded name)) = quoted_ascii (encoded name) (encoded_is name) in
    IsAscii-append (codes "FILE_SCHEMA") (enclosed (enclosed (quoted (encoded name)))) (known (codes "FILE_SCHEMA") refl)
    (enclosed_ascii (enclosed (quoted (encoded name))) (enclosed_ascii (quoted (encoded name)) one))

header_ascii : (x : Header) (name : List ℕ) → is_header (header_tree x) ≡ true → IsAscii (header_text (header_tree x) (encoded name))
header_ascii x name is =
    let description : Bool = are_values (map header_spelling (map header_value_tree x.description)) in
    let names : Bool = are_values (map header_spelling (map header_value_tree x.name)) in
    let two : Bool = length (map header_value_tree x.description) == 2 in
    let seven : Bool = length (map header_value_tree x.name) == 7 in
    let front : (two && description && seven) ≡ true = first_holds (two && description && seven) names is in
    let described : IsAscii (entity_text (codes "FILE_DESCRIPTION") (map header_value_tree x.description)) =
    entity_ascii (codes "FILE_DESCRIPTION") x.description (known (codes "FILE_DESCRIPTION") refl) (second_holds two description (first_holds (two && description) seven front)) in
    let named : IsAscii (entity_text (codes "FILE_NAME") (map header_value_tree x.name)) =
    entity_ascii (codes "FILE_NAME") x.name (known (codes "FILE_NAME") refl) (second_holds (two && description && seven) names is) in
    all_lines (codes "HEADER" ∷ entity_text (codes "FILE_DESCRIPTION") (map header_value_tree x.description) ∷ entity_text (codes "FILE_NAME") (map header_value_tree x.name) ∷ schema_text (encoded name) ∷ codes "ENDSEC" ∷ [])
    (known (codes "HEADER") refl, (described, (named, (schema_ascii name, (known (codes "ENDSEC") refl, tt)))))

-- ---- the data section, and the file

module _ (schema : Checked) where
  data_ascii : (is : List Instance) → list_all is_instance (map (instance_tree schema) is) ≡ true → IsAscii (data_text None (map (instance_tree schema) is))
  data_ascii is all =
      let xs : List tree.Instance = map (instance_tree schema) is in
      let end : List ℕ = line (codes "ENDSEC") in
      IsAscii-append (line (codes "DATA" ++ [])) (lines xs ++ end) (line_ascii (codes "DATA" ++ []) (known (codes "DATA" ++ []) refl))
      (IsAscii-append (lines xs) end (lines_ascii schema is all) (line_ascii (codes "ENDSEC") (known (codes "ENDSEC") refl)))

  file_ascii : (c : Content) → is_file (content_tree schema c) ≡ true → IsAscii (file_text (content_tree schema c))
  file_ascii c is =
      let name : List ℕ = schema.named.schema.name.text in
      let xs : List tree.Instance = map (instance_tree schema) c.instances in
      let head : Bool = is_header (header_tree c.header) in
      let string : Bool = is_string (encoded name) in
      let all : Bool = list_all is_instance xs in
      let front : (head && string && true) ≡ true = first_holds (head && string && true) all is in
      let header : List ℕ = header_text (header_tree c.header) (encoded name) in
      let body : List ℕ = data_text None xs in
      let begin : List ℕ = line (codes "ISO-10303-21") in
      let end : List ℕ = line (codes "END-ISO-10303-21") in
      IsAscii-append begin ((header ++ body) ++ end) (line_ascii (codes "ISO-10303-21") (known (codes "ISO-10303-21") refl))
      (IsAscii-append (header ++ body) end
      (IsAscii-append header body (header_ascii c.header name (first_holds head string (first_holds (head && string) true front))) (data_ascii c.instances (second_holds (head && string && true) all is)))
      (line_ascii (codes "END-ISO-10303-21") (known (codes "END-ISO-10303-21") refl)))

  pub canonical_ascii : (c : Content) → is_file (content_tree schema c) ≡ true → IsAscii (canonical schema c)
  unfolding canonical
  canonical_ascii c is = file_ascii c is
