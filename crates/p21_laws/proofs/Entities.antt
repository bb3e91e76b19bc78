-- An entity's name stands for it alone.
use Rattle.std.proofs.Common.{◌≡◌, ℕ, true, List, Some, option_map, slice_get, refl, sym, ◌∙◌, ap}
use Rattle.std.proofs.lemmas.Option.{slice_get-map}
use Rattle.std.proofs.lemmas.Slice.Eq.{bytes_eq-Decides}
use Rattle.std.specs.Str.{bytes_eq, str_to_ascii_uppercase}
use Rattle.ex_named.specs.declared.declaration.NamedEntity.{NamedEntity}
use Rattle.ex_types.specs.Checked.{Checked, entity_names}
use Rattle.name_tables.specs.Names.{place_of}
use Rattle.ex_layouts.specs.Entities.{entity_spelled}
use Rattle.p21_spelling.proofs.Runs.{first_holds, second_holds}
use Rattle.p21_spelling.specs.Tokens.{is_word}
use Rattle.p21_canonical.specs.Trees.{entity_name}
use Rattle.p21_laws.proofs.Names.{given, passes_at, place_has, placed_once}
use Rattle.p21_laws.specs.Schemas.{IsAccepted}
use Rattle.p21_laws.specs.Types.{is_upper_word}

abbrev pub entities_of : Checked → List NamedEntity
entities_of schema = schema.named.schema.entities

abbrev pub IsEntity : Checked → ℕ → Type 0
IsEntity schema n = (e : NamedEntity) × (slice_get (entities_of schema) n ≡ Some e)

-- the entity that a keyword names is there
pub entity_there : (schema : Checked) (keyword : List ℕ) (n : ℕ) → entity_spelled schema keyword ≡ Some n → IsEntity schema n
entity_there schema keyword n e =
    let at = place_has (str_to_ascii_uppercase keyword) (entity_names (entities_of schema)) n e in
    let found = given (λ e. e.name.text) (slice_get (entities_of schema) n) (str_to_ascii_uppercase keyword) (sym (slice_get-map (λ e. e.name.text) (entities_of schema) n) ∙ at) in
    (found.0, found.1.0)

module _ (schema : Checked) (accepted : IsAccepted schema.named) (n : ℕ) (is : IsEntity schema n) where
  abbrev name : List ℕ
  name = (is.0).name.text

  name_at : slice_get (entity_names (entities_of schema)) n ≡ Some name
  name_at = slice_get-map (λ e. e.name.text) (entities_of schema) n ∙ ap (option_map (λ e. e.name.text)) is.1

  is_name : is_upper_word name ≡ true
  is_name = passes_at is_upper_word (entity_names (entities_of schema)) n name accepted.words.entities name_at

  written_name : entity_name (entities_of schema) n ≡ name
  written_name = rw is.1 refl

  upper : str_to_ascii_uppercase name ≡ name
  upper = (bytes_eq-Decides (str_to_ascii_uppercase name) name).0 (second_holds (is_word name) (bytes_eq (str_to_ascii_uppercase name) name) is_name)

  pub entity_word : is_word (entity_name (entities_of schema) n) ≡ true
  entity_word = ap is_word written_name ∙ first_holds (is_word name) (bytes_eq (str_to_ascii_uppercase name) name) is_name

  pub entity_upper : str_to_ascii_uppercase (entity_name (entities_of schema) n) ≡ entity_name (entities_of schema) n
  entity_upper = ap str_to_ascii_uppercase written_name ∙ upper ∙ sym written_name

  pub entity_again : entity_spelled schema (entity_name (entities_of schema) n) ≡ Some n
  entity_again =
      ap (λ k. place_of k (entity_names (entities_of schema))) (ap str_to_ascii_uppercase written_name ∙ upper)
      ∙ placed_once name (entity_names (entities_of schema)) n (accepted.once name) name_at

-- two entities have two names
pub entities_apart : (schema : Checked) → IsAccepted schema.named → (n m : ℕ) → IsEntity schema n → IsEntity schema m → entity_name (entities_of schema) n ≡ entity_name (entities_of schema) m → n ≡ m
entities_apart schema accepted n m is_n is_m same =
    let both : Some n ≡ Some m = sym (entity_again schema accepted n is_n) ∙ ap (entity_spelled schema) same ∙ entity_again schema accepted m is_m in
    cc
