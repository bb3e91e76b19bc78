-- What is written of a value is ASCII where its tree is well spelled.
use Rattle.std.proofs.Common.{◌≡◌, ◌<◌, ℕ, true, List, [], ◌∷◌, map, sym, ap, subst, arith, decimal}
use Rattle.std.proofs.lemmas.Str.{IsAscii-append}
use Rattle.std.proofs.lemmas.Str.Ascii.{IsAscii-cons, IsAscii-nil}
use Rattle.std.specs.Fmt.{signed_decimal}
use Rattle.std.specs.List.{AllByRecursion}
use Rattle.std.specs.Str.{IsAscii}
use Rattle.ex_named.specs.declared.declaration.NamedType.{NamedType}
use Rattle.p21_canonical.proofs.Ascii.{encoded_is}
use Rattle.p21_canonical.specs.Binaries.{binary}
use Rattle.p21_canonical.specs.Trees.{header_layer, header_value_tree, item_name, layer, logical_name, type_name, value_tree}
use Rattle.p21_escapes.specs.Encoding.{encoded}
use Rattle.p21_spelling.proofs.Ascii.{word_ascii}
use Rattle.p21_spelling.proofs.Equations as spelled
use Rattle.p21_spelling.proofs.Runs.{first_holds, second_holds}
use Rattle.p21_spelling.specs.Tokens.{enclosed, is_word}
use Rattle.p21_spelling.specs.Values.{Spelling, all_spelled, header_spelling, leaf, list, listed, more, spelling, typed}
use Rattle.p21_tree.specs.declared.header.HeaderValue.{HeaderValue}
use Rattle.p21_tree.specs.declared.header.HeaderValue.TheVariants as h
use Rattle.p21_tree.specs.declared.value.Value as tree
use Rattle.p21_tree.specs.declared.value.Value.TheVariants as t
use Rattle.rp_numbers.specs.Written.{written}
use Rattle.rp_value.specs.declared.value.Value.{Value}
use Rattle.rp_value.specs.declared.value.Value.TheFolds.{fold-roll-Value, ind-Value, map-Value}
use Rattle.rp_value.specs.declared.value.Value.TheOpen.{Value-F}
use Rattle.rp_value.specs.declared.value.Value.TheViews.{roll-Value}
use Rattle.p21_ascii.proofs.Numbers.{real_ascii}
use Rattle.p21_ascii.proofs.Tokens.{between_ascii, bits_ascii, enclosed_ascii, integer_ascii, name_ascii, quoted_ascii}

-- ASCII where it is well spelled
abbrev pub IsLow : Spelling → Type 0
IsLow s = s.is_spelled ≡ true → IsAscii s.text

abbrev pub AreLow : List Spelling → Type 0
AreLow = AllByRecursion IsLow

-- ---- lists and keywords

module _ (s : Spelling) (vs : List Spelling) (low : AreLow (s ∷ vs)) (are : all_spelled (s ∷ vs) ≡ true) where
  first : IsAscii s.text
  first = low.0 (first_holds s.is_spelled (all_spelled vs) are)

  others : all_spelled vs ≡ true
  others = second_holds s.is_spelled (all_spelled vs) are

more_ascii : (vs : List Spelling) → AreLow vs → all_spelled vs ≡ true → IsAscii (more vs)
more_ascii [] low are = IsAscii-nil
more_ascii (s ∷ vs) low are =
    IsAscii-append (44 ∷ s.text) (more vs) (IsAscii-cons 44 s.text (omega arith) (first s vs low are)) (more_ascii vs low.1 (others s vs low are))

pub listed_ascii : (vs : List Spelling) → AreLow vs → all_spelled vs ≡ true → IsAscii (listed vs)
listed_ascii [] low are = IsAscii-nil
listed_ascii (s ∷ vs) low are = IsAscii-append s.text (more vs) (first s vs low are) (more_ascii vs low.1 (others s vs low are))

list_low : (vs : List Spelling) → AreLow vs → IsLow (list vs)
list_low vs low are = enclosed_ascii (listed vs) (listed_ascii vs low are)

typed_low : (keyword : List ℕ) (s : Spelling) → IsLow s → IsLow (typed keyword s)
typed_low keyword s low is =
    IsAscii-append keyword (enclosed s.text) (word_ascii keyword (first_holds (is_word keyword) s.is_spelled is)) (enclosed_ascii s.text (low (second_holds (is_word keyword) s.is_spelled is)))

-- ---- leaves

mark_low : (b : ℕ) → b < 128 → IsLow (leaf (b ∷ []) true)
mark_low b low is = IsAscii-cons b [] low IsAscii-nil

integer_low : (x : List ℕ) → IsLow (spelling (t.Integer x))
integer_low x = subst IsLow (sym (spelled.spelling-Integer x)) (integer_ascii x)

real_low : (x : List ℕ) → IsLow (spelling (t.Real x))
real_low x = subst IsLow (sym (spelled.spelling-Real x)) (real_ascii x)

text_low : (x : List ℕ) → IsLow (spelling (t.Text (encoded x)))
text_low x = subst IsLow (sym (spelled.spelling-Text (encoded x))) (λ is. quoted_ascii (encoded x) (encoded_is x))

item_low : (x : List ℕ) → IsLow (spelling (t.Item x))
item_low x = subst IsLow (sym (spelled.spelling-Item x)) (λ is. between_ascii 46 46 x (omega arith) (omega arith) (word_ascii x is))

binary_low : (x : List ℕ) → IsLow (spelling (t.Binary x))
binary_low x = subst IsLow (sym (spelled.spelling-Binary x)) (λ is. between_ascii 34 34 x (omega arith) (omega arith) (bits_ascii x is))

reference_low : (n : ℕ) → IsLow (spelling (t.Reference n))
reference_low n = subst IsLow (sym (spelled.spelling-Reference n)) (λ is. IsAscii-cons 35 (decimal n) (omega arith) (name_ascii n is))

pub derived_low : IsLow (spelling t.Derived)
derived_low = subst IsLow (sym spelled.spelling-Derived) (mark_low 42 (omega arith))

-- ---- values of instances

module _ (types : List NamedType) where
  tree_roll : (x : Value-F Value) → value_tree types (roll-Value x) ≡ layer types (map-Value Value tree.Value (value_tree types) x)
  unfolding value_tree
  tree_roll x = fold-roll-Value tree.Value (layer types) x

  abbrev Holds : Value → Type 0
  Holds w = IsLow (spelling (value_tree types w))

  abbrev Held : Type 0
  Held = (w : Value) × Holds w

  elements_low : (ps : List Held) → AreLow (map spelling (map (value_tree types) (map (λ p. p.0) ps)))
  elements_low [] = tt
  elements_low (p ∷ ps) = (p.1, elements_low ps)

  layer_low : (y : Value-F Held) → IsLow (spelling (layer types (map-Value Value tree.Value (value_tree types) (map-Value Held Value (λ p. p.0) y))))
  layer_low Value-F.Indet = subst IsLow (sym spelled.spelling-Unset) (mark_low 36 (omega arith))
  layer_low (Value-F.Int n) = integer_low (signed_decimal n)
  layer_low (Value-F.Dec d) = real_low (written d)
  layer_low (Value-F.Str text) = text_low text
  layer_low (Value-F.Bin bits) = binary_low (binary bits)
  layer_low (Value-F.Log x) = item_low (logical_name x)
  layer_low (Value-F.Item n place) = item_low (item_name types n place)
  layer_low (Value-F.Inst name) = reference_low name
  layer_low (Value-F.Agg kind elements) =
      let trees : List tree.Value = map (value_tree types) (map (λ p. p.0) elements.items) in
      subst IsLow (sym (spelled.spelling-List trees)) (list_low (map spelling trees) (elements_low elements.items))
  layer_low (Value-F.Named n p) =
      subst IsLow (sym (spelled.spelling-Typed (type_name types n) (value_tree types p.0))) (typed_low (type_name types n) (spelling (value_tree types p.0)) p.1)

  pub value_low : (w : Value) → IsLow (spelling (value_tree types w))
  value_low = ind-Value Holds (λ x y is.
      subst IsLow (sym (ap spelling (tree_roll x)))
      (subst (λ z. IsLow (spelling (layer types (map-Value Value tree.Value (value_tree types) z)))) is (layer_low y)))

-- ---- values of the header

header_tree_roll : (x : Value-F Value) → header_value_tree (roll-Value x) ≡ header_layer (map-Value Value HeaderValue header_value_tree x)
unfolding header_value_tree
header_tree_roll x = fold-roll-Value HeaderValue header_layer x

abbrev HeaderHolds : Value → Type 0
HeaderHolds w = IsLow (header_spelling (header_value_tree w))

abbrev HeaderHeld : Type 0
HeaderHeld = (w : Value) × HeaderHolds w

header_elements_low : (ps : List HeaderHeld) → AreLow (map header_spelling (map header_value_tree (map (λ p. p.0) ps)))
header_elements_low [] = tt
header_elements_low (p ∷ ps) = (p.1, header_elements_low ps)

header_unset_low : IsLow (header_spelling h.Unset)
header_unset_low = subst IsLow (sym spelled.header_spelling-Unset) (mark_low 36 (omega arith))

header_layer_low : (y : Value-F HeaderHeld) → IsLow (header_spelling (header_layer (map-Value Value HeaderValue header_value_tree (map-Value HeaderHeld Value (λ p. p.0) y))))
header_layer_low (Value-F.Str text) = subst IsLow (sym (spelled.header_spelling-Text (encoded text))) (λ is. quoted_ascii (encoded text) (encoded_is text))
header_layer_low (Value-F.Agg kind elements) =
    let trees : List HeaderValue = map header_value_tree (map (λ p. p.0) elements.items) in
    subst IsLow (sym (spelled.header_spelling-List trees)) (list_low (map header_spelling trees) (header_elements_low elements.items))
header_layer_low Value-F.Indet = header_unset_low
header_layer_low (Value-F.Int n) = header_unset_low
header_layer_low (Value-F.Dec d) = header_unset_low
header_layer_low (Value-F.Bin bits) = header_unset_low
header_layer_low (Value-F.Log x) = header_unset_low
header_layer_low (Value-F.Item n place) = header_unset_low
header_layer_low (Value-F.Inst name) = header_unset_low
header_layer_low (Value-F.Named n p) = header_unset_low

header_value_low : (w : Value) → IsLow (header_spelling (header_value_tree w))
header_value_low = ind-Value HeaderHolds (λ x y is.
    subst IsLow (sym (ap header_spelling (header_tree_roll x)))
    (subst (λ z. IsLow (header_spelling (header_layer (map-Value Value HeaderValue header_value_tree z)))) is (header_layer_low y)))

pub header_values_low : (ws : List Value) → AreLow (map header_spelling (map header_value_tree ws))
header_values_low [] = tt
header_values_low (w ∷ ws) = (header_value_low w, header_values_low ws)
