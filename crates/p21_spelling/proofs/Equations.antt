-- How each kind of value is spelled.
use Rattle.std.proofs.Common.{◌≡◌, ℕ, true, List, [], ◌∷◌, ◌++◌, map, sym, ◌∙◌, ap}
use Rattle.std.specs.Prelude.{decimal}
use Rattle.p21_tree.specs.declared.header.HeaderValue.{HeaderValue}
use Rattle.p21_tree.specs.declared.header.HeaderValue.TheOpen.{HeaderValue-F}
use Rattle.p21_tree.specs.declared.header.HeaderValue.TheVariants as h
use Rattle.p21_tree.specs.declared.value.Value.{Value}
use Rattle.p21_tree.specs.declared.value.Value.TheOpen.{Value-F}
use Rattle.p21_tree.specs.declared.value.Value.TheVariants as v
use Rattle.p21_spelling.specs.Tokens.{is_integer, is_real, is_name, is_word, is_string, is_bits, quoted}
use Rattle.p21_spelling.specs.Values.{leaf, list, typed, spelling, header_spelling}
use Rattle.p21_spelling.proofs.Values.{spelling_roll}
use Rattle.p21_spelling.proofs.Headers as headers

pub spelling-Unset : spelling v.Unset ≡ leaf (36 ∷ []) true
spelling-Unset = ap spelling (sym v.rolls-Unset) ∙ spelling_roll Value-F.Unset

pub spelling-Derived : spelling v.Derived ≡ leaf (42 ∷ []) true
spelling-Derived = ap spelling (sym v.rolls-Derived) ∙ spelling_roll Value-F.Derived

pub spelling-Integer : (t : List ℕ) → spelling (v.Integer t) ≡ leaf t (is_integer t)
spelling-Integer t = ap spelling (sym (v.rolls-Integer t)) ∙ spelling_roll (Value-F.Integer t)

pub spelling-Real : (t : List ℕ) → spelling (v.Real t) ≡ leaf t (is_real t)
spelling-Real t = ap spelling (sym (v.rolls-Real t)) ∙ spelling_roll (Value-F.Real t)

pub spelling-Text : (t : List ℕ) → spelling (v.Text t) ≡ leaf (quoted t) (is_string t)
spelling-Text t = ap spelling (sym (v.rolls-Text t)) ∙ spelling_roll (Value-F.Text t)

pub spelling-Item : (t : List ℕ) → spelling (v.Item t) ≡ leaf (46 ∷ (t ++ 46 ∷ [])) (is_word t)
spelling-Item t = ap spelling (sym (v.rolls-Item t)) ∙ spelling_roll (Value-F.Item t)

pub spelling-Binary : (t : List ℕ) → spelling (v.Binary t) ≡ leaf (34 ∷ (t ++ 34 ∷ [])) (is_bits t)
spelling-Binary t = ap spelling (sym (v.rolls-Binary t)) ∙ spelling_roll (Value-F.Binary t)

pub spelling-Reference : (n : ℕ) → spelling (v.Reference n) ≡ leaf (35 ∷ decimal n) (is_name n)
spelling-Reference n = ap spelling (sym (v.rolls-Reference n)) ∙ spelling_roll (Value-F.Reference n)

pub spelling-List : (vs : List Value) → spelling (v.List vs) ≡ list (map spelling vs)
spelling-List vs = ap spelling (sym (v.rolls-List vs)) ∙ spelling_roll (Value-F.List vs)

pub spelling-Typed : (keyword : List ℕ) (x : Value) → spelling (v.Typed keyword x) ≡ typed keyword (spelling x)
spelling-Typed keyword x = ap spelling (sym (v.rolls-Typed keyword x)) ∙ spelling_roll (Value-F.Typed keyword x)

-- ---- of the header

pub header_spelling-Unset : header_spelling h.Unset ≡ leaf (36 ∷ []) true
header_spelling-Unset = ap header_spelling (sym h.rolls-Unset) ∙ headers.spelling_roll HeaderValue-F.Unset

pub header_spelling-Text : (t : List ℕ) → header_spelling (h.Text t) ≡ leaf (quoted t) (is_string t)
header_spelling-Text t = ap header_spelling (sym (h.rolls-Text t)) ∙ headers.spelling_roll (HeaderValue-F.Text t)

pub header_spelling-List : (vs : List HeaderValue) → header_spelling (h.List vs) ≡ list (map header_spelling vs)
header_spelling-List vs = ap header_spelling (sym (h.rolls-List vs)) ∙ headers.spelling_roll (HeaderValue-F.List vs)
