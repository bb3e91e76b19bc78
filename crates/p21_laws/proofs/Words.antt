-- Identifiers are words in upper case, and so are the names of a schema.
use Rattle.std.proofs.Common.{◌≡◌, ℕ, true, List, [], ◌∷◌, map, refl, arith}
use Rattle.std.proofs.lemmas.Bool.Decides.{nat_tests}
use Rattle.std.proofs.lemmas.Slice.Eq.{bytes_eq-Decides}
use Rattle.std.specs.Char.{is_ascii_uppercase, to_ascii_uppercase}
use Rattle.std.specs.List.{list_all}
use Rattle.std.specs.Str.{str_to_ascii_uppercase}
use Rattle.ex_named.specs.declared.declaration.NamedEntity.{NamedEntity}
use Rattle.ex_named.specs.declared.declaration.NamedSchema.{NamedSchema}
use Rattle.ex_named.specs.declared.declaration.NamedType.{NamedType}
use Rattle.ex_named.specs.declared.declaration.NamedUnderlying.{NamedUnderlying}
use Rattle.ex_named.specs.declared.declaration.NamedUnderlying.TheVariants as u
use Rattle.ex_resolve.specs.Proved.{HasIdentifiers, is_type_identified, items_of}
use Rattle.ex_tree.specs.Identifiers.{is_identifier, is_identifier_byte}
use Rattle.ex_tree.specs.declared.expression.Name.{Name}
use Rattle.ex_types.specs.Checked.{entity_names, type_names}
use Rattle.p21_spelling.proofs.Runs.{first_holds, second_holds}
use Rattle.p21_spelling.specs.Tokens.{is_word}
use Rattle.text_forms.specs.Words.{is_word_byte}
use Rattle.p21_lexemes.specs.Lexical.{is_letter}
use Rattle.ex_selects.specs.Items.{items_by}
use Rattle.p21_laws.specs.Schemas.{HasWords}
use Rattle.p21_laws.specs.Types.{is_upper_word}

byte_word : (b : ℕ) → is_identifier_byte b ≡ true → is_word_byte b ≡ true
byte_word b is = grind (arith, nat_tests)

byte_upper : (b : ℕ) → is_identifier_byte b ≡ true → to_ascii_uppercase b ≡ b
byte_upper b is = grind (arith, nat_tests)

letter : (b : ℕ) → is_ascii_uppercase b ≡ true → is_letter b ≡ true
letter b is = grind (arith, nat_tests)

letter_upper : (b : ℕ) → is_ascii_uppercase b ≡ true → to_ascii_uppercase b ≡ b
letter_upper b is = grind (arith, nat_tests)

word_bytes : (bs : List ℕ) → list_all is_identifier_byte bs ≡ true → list_all is_word_byte bs ≡ true
word_bytes [] all = refl
word_bytes (b ∷ bs) all = rw (byte_word b (first_holds (is_identifier_byte b) (list_all is_identifier_byte bs) all), word_bytes bs (second_holds (is_identifier_byte b) (list_all is_identifier_byte bs) all)) refl

upper_bytes : (bs : List ℕ) → list_all is_identifier_byte bs ≡ true → str_to_ascii_uppercase bs ≡ bs
upper_bytes [] all = refl
upper_bytes (b ∷ bs) all = rw (byte_upper b (first_holds (is_identifier_byte b) (list_all is_identifier_byte bs) all), upper_bytes bs (second_holds (is_identifier_byte b) (list_all is_identifier_byte bs) all)) refl

is_a_word : (name : List ℕ) → is_identifier name ≡ true → is_word name ≡ true
unfolding is_identifier
is_a_word [] is = is
is_a_word (b ∷ bs) is = rw (letter b (first_holds (is_ascii_uppercase b) (list_all is_identifier_byte bs) is), word_bytes bs (second_holds (is_ascii_uppercase b) (list_all is_identifier_byte bs) is)) refl

stays_upper : (name : List ℕ) → is_identifier name ≡ true → str_to_ascii_uppercase name ≡ name
unfolding is_identifier
stays_upper [] is = refl
stays_upper (b ∷ bs) is = rw (letter_upper b (first_holds (is_ascii_uppercase b) (list_all is_identifier_byte bs) is), upper_bytes bs (second_holds (is_ascii_uppercase b) (list_all is_identifier_byte bs) is)) refl

upper_word : (name : List ℕ) → is_identifier name ≡ true → is_upper_word name ≡ true
upper_word name is = rw (is_a_word name is, (bytes_eq-Decides (str_to_ascii_uppercase name) name).1 (stays_upper name is)) refl

-- ---- the names of a schema

of_entities : (es : List NamedEntity) → list_all (λ e. is_identifier e.name.text) es ≡ true → list_all is_upper_word (entity_names es) ≡ true
of_entities [] all = refl
of_entities (e ∷ es) all =
    let first = first_holds (is_identifier e.name.text) (list_all (λ e. is_identifier e.name.text) es) all in
    let others = second_holds (is_identifier e.name.text) (list_all (λ e. is_identifier e.name.text) es) all in
    rw (upper_word e.name.text first, of_entities es others) refl

of_names : (ns : List Name) → list_all (λ n. is_identifier n.text) ns ≡ true → list_all is_word (map (λ n. n.text) ns) ≡ true
of_names [] all = refl
of_names (n ∷ ns) all =
    let first = first_holds (is_identifier n.text) (list_all (λ n. is_identifier n.text) ns) all in
    let others = second_holds (is_identifier n.text) (list_all (λ n. is_identifier n.text) ns) all in
    rw (is_a_word n.text first, of_names ns others) refl

of_items : (x : NamedUnderlying) → list_all (λ n. is_identifier n.text) (items_of x) ≡ true → list_all is_word (items_by x) ≡ true
of_items (u.Enumeration items) all = of_names items all
of_items (u.Select members) all = refl
of_items (u.Data data_type) all = refl

module _ (x : NamedType) (xs : List NamedType) (all : list_all is_type_identified (x ∷ xs) ≡ true) where
  named : is_type_identified x ≡ true
  named = first_holds (is_type_identified x) (list_all is_type_identified xs) all

  behind : list_all is_type_identified xs ≡ true
  behind = second_holds (is_type_identified x) (list_all is_type_identified xs) all

  name : is_upper_word x.name.text ≡ true
  name = upper_word x.name.text (first_holds (is_identifier x.name.text) (list_all (λ n. is_identifier n.text) (items_of x.underlying)) named)

  items : list_all is_word (items_by x.underlying) ≡ true
  items = of_items x.underlying (second_holds (is_identifier x.name.text) (list_all (λ n. is_identifier n.text) (items_of x.underlying)) named)

of_types : (xs : List NamedType) → list_all is_type_identified xs ≡ true → list_all is_upper_word (type_names xs) ≡ true
of_types [] all = refl
of_types (x ∷ xs) all = rw (name x xs all, of_types xs (behind x xs all)) refl

of_all_items : (xs : List NamedType) → list_all is_type_identified xs ≡ true → list_all (λ x. list_all is_word (items_by x.underlying)) xs ≡ true
of_all_items [] all = refl
of_all_items (x ∷ xs) all = rw (items x xs all, of_all_items xs (behind x xs all)) refl

pub words : (s : NamedSchema) → HasIdentifiers s → HasWords s
words s are = record {
  schema = is_a_word s.name.text are.schema;
  entities = of_entities s.entities are.entities;
  types = record { names = of_types s.types are.types; items = of_all_items s.types are.types };
}
