-- The header that stands by default is read of one that is well spelled.
use Rattle.std.proofs.Common.{◌≡◌, ℕ, true, List, [], ◌∷◌, Ok, codes, refl, ◌∙◌, ap}
use Rattle.p21_mappings.specs.Contents.{header, header_value, text}
use Rattle.p21_spelling.proofs.Equations.{header_spelling-List, header_spelling-Text}
use Rattle.p21_spelling.specs.Files.{is_header}
use Rattle.p21_spelling.specs.Tokens.{is_string, quoted}
use Rattle.p21_spelling.specs.Values.{header_spelling, leaf, list}
use Rattle.p21_escapes.specs.Decoding.{decoded, fault, front, spelled}
use Rattle.p21_tree.specs.declared.header.Header as tree
use Rattle.p21_tree.specs.declared.header.HeaderValue.{HeaderValue}
use Rattle.p21_tree.specs.declared.header.HeaderValue.TheVariants as h
use Rattle.p21_values.specs.Tokens.{ok}
use Rattle.rp_content.specs.Headers as held
use Rattle.rp_value.specs.declared.value.Value.TheVariants as v
use Rattle.p21_laws.proofs.Headers.{as_list, value-List, value-Text}

-- the implementation level
abbrev level : List ℕ
level = codes "2;1"

decoded-none : decoded [] ≡ Ok []
unfolding decoded spelled
decoded-none = refl

decoded-level : decoded level ≡ Ok level
unfolding decoded spelled front
decoded-level = refl

string-none : is_string [] ≡ true
unfolding fault decoded spelled
string-none = refl

string-level : is_string level ≡ true
unfolding fault decoded spelled front
string-level = refl

-- ---- the header as it is spelled

abbrev empty : HeaderValue
empty = h.Text []

abbrev one_empty : HeaderValue
one_empty = h.List (empty ∷ [])

abbrev pub default_header : tree.Header
default_header = record { description = one_empty ∷ h.Text level ∷ []; name = empty ∷ empty ∷ one_empty ∷ one_empty ∷ empty ∷ empty ∷ empty ∷ [] }

value-token : (t : List ℕ) → decoded t ≡ Ok t → header_value (h.Text t) ≡ v.Str t
value-token t is = value-Text t ∙ ap (λ r. text (ok r)) is

value-empty : header_value empty ≡ held.empty_text
value-empty = value-token [] decoded-none

value-one : header_value one_empty ≡ held.empty_texts
value-one = value-List (empty ∷ []) ∙ ap (λ u. as_list (u ∷ [])) value-empty

pub header-default : header default_header ≡ held.default_header
header-default = λ i. record {
  description = value-one i ∷ value-token level decoded-level i ∷ [];
  name = value-empty i ∷ value-empty i ∷ value-one i ∷ value-one i ∷ value-empty i ∷ value-empty i ∷ value-empty i ∷ [];
}

spelled-one : header_spelling one_empty ≡ list (leaf (quoted []) (is_string []) ∷ [])
spelled-one = header_spelling-List (empty ∷ []) ∙ ap (λ s. list (s ∷ [])) (header_spelling-Text [])

pub default_fits : is_header default_header ≡ true
default_fits = rw (spelled-one, header_spelling-Text [], header_spelling-Text level, string-none, string-level) refl
