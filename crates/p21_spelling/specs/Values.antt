-- How values are spelled, without blanks (ISO 10303-21, PARAMETER).
use Rattle.std.specs.Prelude.{ℕ, suc, max, Bool, true, ◌&&◌, List, [], ◌∷◌, ◌++◌, decimal}
use Rattle.std.specs.List.{flat_map, list_all}
use Rattle.p21_tree.specs.declared.header.HeaderValue.{HeaderValue}
use Rattle.p21_tree.specs.declared.header.HeaderValue.TheFolds.{fold-HeaderValue}
use Rattle.p21_tree.specs.declared.header.HeaderValue.TheOpen.{HeaderValue-F}
use Rattle.p21_tree.specs.declared.value.Value.{Value}
use Rattle.p21_tree.specs.declared.value.Value.TheFolds.{fold-Value}
use Rattle.p21_tree.specs.declared.value.Value.TheOpen.{Value-F}
use Rattle.p21_spelling.specs.Tokens.{is_integer, is_real, is_name, is_word, is_string, is_bits, quoted, enclosed}

-- The text of a value; whether its tokens are such as are read; and how many levels it nests, by itself and in a keyword.
-- A list is a level, and so is a keyword that stands at once in another one.
pub record Spelling : Type 0 where
  pub text : List ℕ
  pub is_spelled : Bool
  pub levels : ℕ
  pub levels_in_keyword : ℕ

-- one token
abbrev pub leaf : List ℕ → Bool → Spelling
leaf text is_spelled = record { text = text; is_spelled = is_spelled; levels = 0; levels_in_keyword = 0 }

-- each behind a comma
abbrev pub more : List Spelling → List ℕ
more vs = flat_map (λ v. 44 ∷ v.text) vs

-- with commas between
abbrev pub listed : List Spelling → List ℕ
listed [] = []
listed (v ∷ vs) = v.text ++ more vs

abbrev pub all_spelled : List Spelling → Bool
all_spelled vs = list_all (λ v. v.is_spelled) vs

-- the levels of the deepest
abbrev pub deepest : List Spelling → ℕ
deepest [] = 0
deepest (v ∷ vs) = max v.levels (deepest vs)

-- `(value,value,..)`
abbrev pub list : List Spelling → Spelling
list vs =
    let levels : ℕ = suc (deepest vs) in
    record { text = enclosed (listed vs); is_spelled = all_spelled vs; levels = levels; levels_in_keyword = levels }

-- `KEYWORD(value)`
abbrev pub typed : List ℕ → Spelling → Spelling
typed keyword v = record {
  text = keyword ++ enclosed v.text;
  is_spelled = is_word keyword && v.is_spelled;
  levels = v.levels_in_keyword;
  levels_in_keyword = suc v.levels_in_keyword;
}

-- ---- values of instances

abbrev pub layer : Value-F Spelling → Spelling
layer Value-F.Unset = leaf (36 ∷ []) true
layer Value-F.Derived = leaf (42 ∷ []) true
layer (Value-F.Integer t) = leaf t (is_integer t)
layer (Value-F.Real t) = leaf t (is_real t)
layer (Value-F.Text t) = leaf (quoted t) (is_string t)
layer (Value-F.Item t) = leaf (46 ∷ (t ++ 46 ∷ [])) (is_word t)
layer (Value-F.Binary t) = leaf (34 ∷ (t ++ 34 ∷ [])) (is_bits t)
layer (Value-F.Reference n) = leaf (35 ∷ decimal n) (is_name n)
layer (Value-F.List vs) = list vs
layer (Value-F.Typed keyword v) = typed keyword v

unfoldable pub spelling : Value → Spelling
spelling = fold-Value Spelling layer

abbrev pub text_of : Value → List ℕ
text_of v = (spelling v).text

-- ---- values of the header

abbrev pub header_layer : HeaderValue-F Spelling → Spelling
header_layer HeaderValue-F.Unset = leaf (36 ∷ []) true
header_layer (HeaderValue-F.Text t) = leaf (quoted t) (is_string t)
header_layer (HeaderValue-F.List vs) = list vs

unfoldable pub header_spelling : HeaderValue → Spelling
header_spelling = fold-HeaderValue Spelling header_layer
