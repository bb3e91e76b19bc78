-- How a whole exchange file is spelled: one line for each mark, word, entity of the header and instance (ISO 10303-21,
-- EXCHANGE_FILE, HEADER_SECTION, DATA_SECTION).
use Rattle.std.specs.Prelude.{ℕ, Bool, true, ◌&&◌, ◌==◌, List, [], ◌∷◌, ◌++◌, Option, Some, None, length, map, codes}
use Rattle.std.specs.List.{flat_map, list_all}
use Rattle.p21_tree.specs.declared.header.Header.{Header}
use Rattle.p21_tree.specs.declared.header.HeaderValue.{HeaderValue}
use Rattle.p21_tree.specs.declared.instance.Instance.{Instance}
use Rattle.p21_tree.specs.declared.raw.Raw.{Raw}
use Rattle.p21_tree.specs.declared.raw.Section.{Section}
use Rattle.p21_spelling.specs.Tokens.{is_string, quoted, enclosed}
use Rattle.p21_spelling.specs.Values.{header_spelling, listed}
use Rattle.p21_spelling.specs.Instances.{are_values, is_instance, lines}

-- `..;` and a line feed
abbrev pub line : List ℕ → List ℕ
line t = t ++ 59 ∷ 10 ∷ []

-- ---- the header

-- `WORD(values)`
abbrev pub entity_text : List ℕ → List HeaderValue → List ℕ
entity_text called vs = called ++ enclosed (listed (map header_spelling vs))

-- `FILE_SCHEMA(('SCHEMA'))`
abbrev pub schema_text : List ℕ → List ℕ
schema_text schema = codes "FILE_SCHEMA" ++ enclosed (enclosed (quoted schema))

abbrev pub header_text : Header → List ℕ → List ℕ
header_text header schema =
    flat_map line (
    codes "HEADER" ∷ entity_text (codes "FILE_DESCRIPTION") header.description ∷ entity_text (codes "FILE_NAME") header.name
    ∷ schema_text schema ∷ codes "ENDSEC" ∷ [])

-- the two values of FILE_DESCRIPTION, and the seven of FILE_NAME
abbrev pub is_header : Header → Bool
is_header header =
    length header.description == 2 && are_values (map header_spelling header.description)
    && length header.name == 7 && are_values (map header_spelling header.name)

-- ---- the data section

-- nothing, or `('name',('SCHEMA'))`
abbrev pub section_text : Option Section → List ℕ
section_text None = []
section_text (Some s) = enclosed (quoted s.name ++ 44 ∷ enclosed (quoted s.schema))

abbrev pub is_section : Option Section → Bool
is_section None = true
is_section (Some s) = is_string s.name && is_string s.schema

-- `DATA;` with what it names, the instances, and `ENDSEC;`
abbrev pub data_text : Option Section → List Instance → List ℕ
data_text section is = line (codes "DATA" ++ section_text section) ++ (lines is ++ line (codes "ENDSEC"))

-- ---- the file

abbrev pub file_text : Raw → List ℕ
file_text raw =
    let sections = header_text raw.header raw.schema ++ data_text raw.section raw.instances in
    line (codes "ISO-10303-21") ++ (sections ++ line (codes "END-ISO-10303-21"))

-- each token is such as is read, and no value nests too deep
abbrev pub is_file : Raw → Bool
is_file raw = is_header raw.header && is_string raw.schema && is_section raw.section && list_all is_instance raw.instances
