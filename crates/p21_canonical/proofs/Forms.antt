-- The text of a value by its form.
use Rattle.std.proofs.Common.{◌≡◌, ℕ, ℤ, Bool, List, [], ◌∷◌, ◌++◌, map, refl, sym, ◌∙◌, ap}
use Rattle.std.specs.Prelude.{decimal}
use Rattle.std.specs.Fmt.{signed_decimal}
use Rattle.ex_named.specs.declared.declaration.NamedType.{NamedType}
use Rattle.p21_escapes.specs.Encoding.{encoded}
use Rattle.p21_spelling.specs.Tokens.{quoted, enclosed}
use Rattle.p21_spelling.specs.Values as spelled
use Rattle.p21_spelling.specs.Values.{Spelling, spelling, header_spelling, text_of, listed}
use Rattle.p21_tree.specs.declared.header.HeaderValue.{HeaderValue}
use Rattle.p21_tree.specs.declared.header.HeaderValue.TheFolds.{fold-roll-HeaderValue, map-HeaderValue}
use Rattle.p21_tree.specs.declared.header.HeaderValue.TheOpen.{HeaderValue-F}
use Rattle.p21_tree.specs.declared.header.HeaderValue.TheVariants as h
use Rattle.p21_tree.specs.declared.header.HeaderValue.TheViews.{roll-HeaderValue}
use Rattle.p21_tree.specs.declared.value.Value as tree
use Rattle.p21_tree.specs.declared.value.Value.TheFolds as trees
use Rattle.p21_tree.specs.declared.value.Value.TheOpen as opened
use Rattle.p21_tree.specs.declared.value.Value.TheVariants as t
use Rattle.p21_tree.specs.declared.value.Value.TheViews as views
use Rattle.p21_canonical.proofs.Written.{map_twice}
use Rattle.p21_canonical.specs.Binaries.{binary}
use Rattle.p21_canonical.specs.Trees.{layer, value_tree, header_layer, header_value_tree, type_name, item_name, logical_name}
use Rattle.rp_numbers.specs.Decimals.{Decimal}
use Rattle.rp_numbers.specs.Written.{written}
use Rattle.rp_numbers.specs.declared.Logical.{Logical}
use Rattle.rp_value.specs.Elements.{Elements}
use Rattle.rp_value.specs.declared.value.AggregateKind.{AggregateKind}
use Rattle.rp_value.specs.declared.value.Value.{Value}
use Rattle.rp_value.specs.declared.value.Value.TheFolds.{fold-roll-Value, ind-Value, map-Value}
use Rattle.rp_value.specs.declared.value.Value.TheOpen.{Value-F}
use Rattle.rp_value.specs.declared.value.Value.TheVariants as v
use Rattle.rp_value.specs.declared.value.Value.TheViews.{roll-Value}

-- ---- values of instances

tree_roll : (types : List NamedType) (f : Value-F Value) → value_tree types (roll-Value f) ≡ layer types (map-Value Value tree.Value (value_tree types) f)
unfolding value_tree
tree_roll types f = fold-roll-Value tree.Value (layer types) f

spelling_roll : (g : opened.Value-F tree.Value) → spelling (views.roll-Value g) ≡ spelled.layer (trees.map-Value tree.Value Spelling spelling g)
unfolding spelling
spelling_roll g = trees.fold-roll-Value Spelling spelled.layer g

-- a value of a form has the tree of this form, and this tree its text
by_form : (types : List NamedType) (x y : Value) (f : Value-F Value) (u : tree.Value) (g : opened.Value-F tree.Value) → x ≡ y → roll-Value f ≡ y
    → layer types (map-Value Value tree.Value (value_tree types) f) ≡ u → views.roll-Value g ≡ u
    → text_of (value_tree types x) ≡ (spelled.layer (trees.map-Value tree.Value Spelling spelling g)).text
by_form types x y f u g is rolls made tree_rolls =
    let made_of : value_tree types x ≡ views.roll-Value g = ap (value_tree types) (is ∙ sym rolls) ∙ tree_roll types f ∙ made ∙ sym tree_rolls in
    ap text_of made_of ∙ ap (λ (s : Spelling). s.text) (spelling_roll g)

module _ (types : List NamedType) (x : Value) where
  pub text-Indet : x ≡ v.Indet → text_of (value_tree types x) ≡ 36 ∷ []
  text-Indet is = by_form types x v.Indet Value-F.Indet t.Unset opened.Value-F.Unset is v.rolls-Indet refl t.rolls-Unset

  pub text-Int : (n : ℤ) → x ≡ v.Int n → text_of (value_tree types x) ≡ signed_decimal n
  text-Int n is = by_form types x (v.Int n) (Value-F.Int n) (t.Integer (signed_decimal n)) (opened.Value-F.Integer (signed_decimal n)) is (v.rolls-Int n) refl (t.rolls-Integer (signed_decimal n))

  pub text-Dec : (d : Decimal) → x ≡ v.Dec d → text_of (value_tree types x) ≡ written d
  text-Dec d is = by_form types x (v.Dec d) (Value-F.Dec d) (t.Real (written d)) (opened.Value-F.Real (written d)) is (v.rolls-Dec d) refl (t.rolls-Real (written d))

  pub text-Str : (s : List ℕ) → x ≡ v.Str s → text_of (value_tree types x) ≡ quoted (encoded s)
  text-Str s is = by_form types x (v.Str s) (Value-F.Str s) (t.Text (encoded s)) (opened.Value-F.Text (encoded s)) is (v.rolls-Str s) refl (t.rolls-Text (encoded s))

  pub text-Bin : (bits : List Bool) → x ≡ v.Bin bits → text_of (value_tree types x) ≡ 34 ∷ (binary bits ++ 34 ∷ [])
  text-Bin bits is = by_form types x (v.Bin bits) (Value-F.Bin bits) (t.Binary (binary bits)) (opened.Value-F.Binary (binary bits)) is (v.rolls-Bin bits) refl (t.rolls-Binary (binary bits))

  pub text-Log : (b : Logical) → x ≡ v.Log b → text_of (value_tree types x) ≡ 46 ∷ (logical_name b ++ 46 ∷ [])
  text-Log b is = by_form types x (v.Log b) (Value-F.Log b) (t.Item (logical_name b)) (opened.Value-F.Item (logical_name b)) is (v.rolls-Log b) refl (t.rolls-Item (logical_name b))

  pub text-Item : (n place : ℕ) → x ≡ v.Item n place → text_of (value_tree types x) ≡ 46 ∷ (item_name types n place ++ 46 ∷ [])
  text-Item n place is =
      by_form types x (v.Item n place) (Value-F.Item n place) (t.Item (item_name types n place)) (opened.Value-F.Item (item_name types n place)) is (v.rolls-Item n place) refl
      (t.rolls-Item (item_name types n place))

  pub text-Inst : (n : ℕ) → x ≡ v.Inst n → text_of (value_tree types x) ≡ 35 ∷ decimal n
  text-Inst n is = by_form types x (v.Inst n) (Value-F.Inst n) (t.Reference n) (opened.Value-F.Reference n) is (v.rolls-Inst n) refl (t.rolls-Reference n)

  pub text-Agg : (kind : AggregateKind) (e : Elements Value) → x ≡ v.Agg kind e
      → text_of (value_tree types x) ≡ enclosed (listed (map (λ w. spelling (value_tree types w)) e.items))
  text-Agg kind e is =
      by_form types x (v.Agg kind e) (Value-F.Agg kind e) (t.List (map (value_tree types) e.items)) (opened.Value-F.List (map (value_tree types) e.items)) is (v.rolls-Agg kind e) refl
      (t.rolls-List (map (value_tree types) e.items))
      ∙ ap (λ (l : List Spelling). enclosed (listed l)) (map_twice spelling (value_tree types) e.items)

  pub text-Named : (n : ℕ) (y : Value) → x ≡ v.Named n y → text_of (value_tree types x) ≡ type_name types n ++ enclosed (text_of (value_tree types y))
  text-Named n y is =
      by_form types x (v.Named n y) (Value-F.Named n y) (t.Typed (type_name types n) (value_tree types y)) (opened.Value-F.Typed (type_name types n) (value_tree types y)) is (v.rolls-Named n y) refl
      (t.rolls-Typed (type_name types n) (value_tree types y))

pub text-Derived : text_of t.Derived ≡ 42 ∷ []
text-Derived = ap text_of (sym t.rolls-Derived) ∙ ap (λ (s : Spelling). s.text) (spelling_roll opened.Value-F.Derived)

-- ---- values of the header

header_tree_roll : (f : Value-F Value) → header_value_tree (roll-Value f) ≡ header_layer (map-Value Value HeaderValue header_value_tree f)
unfolding header_value_tree
header_tree_roll f = fold-roll-Value HeaderValue header_layer f

header_spelling_roll : (g : HeaderValue-F HeaderValue) → header_spelling (roll-HeaderValue g) ≡ spelled.header_layer (map-HeaderValue HeaderValue Spelling header_spelling g)
unfolding header_spelling
header_spelling_roll g = fold-roll-HeaderValue Spelling spelled.header_layer g

header_by_form : (x y : Value) (f : Value-F Value) (u : HeaderValue) (g : HeaderValue-F HeaderValue) → x ≡ y → roll-Value f ≡ y
    → header_layer (map-Value Value HeaderValue header_value_tree f) ≡ u → roll-HeaderValue g ≡ u
    → (header_spelling (header_value_tree x)).text ≡ (spelled.header_layer (map-HeaderValue HeaderValue Spelling header_spelling g)).text
header_by_form x y f u g is rolls made tree_rolls =
    let made_of : header_value_tree x ≡ roll-HeaderValue g = ap header_value_tree (is ∙ sym rolls) ∙ header_tree_roll f ∙ made ∙ sym tree_rolls in
    ap (λ w. (header_spelling w).text) made_of ∙ ap (λ (s : Spelling). s.text) (header_spelling_roll g)

module _ (x : Value) where
  pub header-Str : (s : List ℕ) → x ≡ v.Str s → (header_spelling (header_value_tree x)).text ≡ quoted (encoded s)
  header-Str s is = header_by_form x (v.Str s) (Value-F.Str s) (h.Text (encoded s)) (HeaderValue-F.Text (encoded s)) is (v.rolls-Str s) refl (h.rolls-Text (encoded s))

  pub header-Agg : (kind : AggregateKind) (e : Elements Value) → x ≡ v.Agg kind e
      → (header_spelling (header_value_tree x)).text ≡ enclosed (listed (map (λ w. header_spelling (header_value_tree w)) e.items))
  header-Agg kind e is =
      header_by_form x (v.Agg kind e) (Value-F.Agg kind e) (h.List (map header_value_tree e.items)) (HeaderValue-F.List (map header_value_tree e.items)) is (v.rolls-Agg kind e) refl
      (h.rolls-List (map header_value_tree e.items))
      ∙ ap (λ (l : List Spelling). enclosed (listed l)) (map_twice header_spelling header_value_tree e.items)

unset_by_form : (f : Value-F Value) → header_layer (map-Value Value HeaderValue header_value_tree f) ≡ h.Unset → (header_spelling (header_value_tree (roll-Value f))).text ≡ 36 ∷ []
unset_by_form f made = header_by_form (roll-Value f) (roll-Value f) f h.Unset HeaderValue-F.Unset refl refl made h.rolls-Unset

abbrev IsOther : Value → Type 0
IsOther x = ((s : List ℕ) → x ≡ v.Str s → ⊥) × ((kind : AggregateKind) (e : Elements Value) → x ≡ v.Agg kind e → ⊥)

unset : (f : Value-F Value) → IsOther (roll-Value f) → (header_spelling (header_value_tree (roll-Value f))).text ≡ 36 ∷ []
unset Value-F.Indet other = unset_by_form Value-F.Indet refl
unset (Value-F.Int n) other = unset_by_form (Value-F.Int n) refl
unset (Value-F.Dec d) other = unset_by_form (Value-F.Dec d) refl
unset (Value-F.Str s) other = absurd (other.0 s (v.rolls-Str s))
unset (Value-F.Bin bits) other = unset_by_form (Value-F.Bin bits) refl
unset (Value-F.Log b) other = unset_by_form (Value-F.Log b) refl
unset (Value-F.Item n place) other = unset_by_form (Value-F.Item n place) refl
unset (Value-F.Inst n) other = unset_by_form (Value-F.Inst n) refl
unset (Value-F.Agg kind e) other = absurd (other.1 kind e (v.rolls-Agg kind e))
unset (Value-F.Named n y) other = unset_by_form (Value-F.Named n y) refl

pub header-others : (x : Value) → IsOther x → (header_spelling (header_value_tree x)).text ≡ 36 ∷ []
header-others = ind-Value (λ x. IsOther x → (header_spelling (header_value_tree x)).text ≡ 36 ∷ []) (λ f y is. unset f)
