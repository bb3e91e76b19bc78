-- What is read of the tree of a value, and how it is spelled, by the value's form.
use Rattle.std.proofs.Common.{◌≡◌, ℕ, ℤ, Bool, true, List, [], ◌∷◌, ◌++◌, map, refl, sym, ◌∙◌, ap}
use Rattle.std.specs.Fmt.{signed_decimal}
use Rattle.std.specs.Prelude.{decimal}
use Rattle.std.specs.Str.{str_to_ascii_uppercase}
use Rattle.ex_named.specs.declared.declaration.NamedType.{NamedType}
use Rattle.p21_spelling.proofs.Equations.{spelling-Unset, spelling-Integer, spelling-Real, spelling-Text, spelling-Item, spelling-Binary, spelling-Reference, spelling-List, spelling-Typed}
use Rattle.p21_spelling.specs.Tokens.{is_bits, is_integer, is_name, is_real, is_string, is_word, quoted}
use Rattle.p21_spelling.specs.Values.{Spelling, leaf, list, spelling, typed}
use Rattle.p21_escapes.specs.Encoding.{encoded}
use Rattle.p21_tree.specs.declared.value.Value as tree
use Rattle.p21_tree.specs.declared.value.Value.TheFolds as trees
use Rattle.p21_tree.specs.declared.value.Value.TheOpen as opened
use Rattle.p21_tree.specs.declared.value.Value.TheVariants as t
use Rattle.p21_tree.specs.declared.value.Value.TheViews as views
use Rattle.p21_values.specs.Taking as taking
use Rattle.p21_values.specs.Taking.{Meaning, bare, meaning, named, none, of_binary, of_integer, of_item, of_list, of_real, of_text, reference}
use Rattle.p21_canonical.specs.Binaries.{binary}
use Rattle.p21_canonical.specs.Trees.{item_name, layer, logical_name, type_name, value_tree}
use Rattle.rp_numbers.specs.Decimals.{Decimal}
use Rattle.rp_numbers.specs.Written.{written}
use Rattle.rp_numbers.specs.declared.Logical.{Logical}
use Rattle.rp_value.specs.Elements.{Elements}
use Rattle.rp_value.specs.declared.value.AggregateKind.{AggregateKind}
use Rattle.rp_value.specs.declared.value.Value.{Value}
use Rattle.rp_value.specs.declared.value.Value.TheFolds.{fold-roll-Value, map-Value}
use Rattle.rp_value.specs.declared.value.Value.TheOpen.{Value-F}
use Rattle.rp_value.specs.declared.value.Value.TheVariants as v
use Rattle.rp_value.specs.declared.value.Value.TheViews.{roll-Value}

map_twice : {A B C : Type 0} (f : B → C) (g : A → B) (xs : List A) → map f (map g xs) ≡ map (λ x. f (g x)) xs
map_twice f g [] = refl
map_twice f g (x ∷ xs) = ap (λ l. f (g x) ∷ l) (map_twice f g xs)

module _ (types : List NamedType) where
  abbrev pub again : Value → Meaning
  again w = meaning types (value_tree types w)

  abbrev pub shown : Value → Spelling
  shown w = spelling (value_tree types w)

  pub meaning_roll : (x : opened.Value-F tree.Value) → meaning types (views.roll-Value x) ≡ taking.layer types (trees.map-Value tree.Value Meaning (meaning types) x)
  unfolding meaning
  meaning_roll x = trees.fold-roll-Value Meaning (taking.layer types) x

  -- what is read of a tree, by its form
  read : (x : tree.Value) (f : opened.Value-F tree.Value) → views.roll-Value f ≡ x → meaning types x ≡ taking.layer types (trees.map-Value tree.Value Meaning (meaning types) f)
  read x f rolls = ap (meaning types) (sym rolls) ∙ meaning_roll f

  tree_of : (x : Value) (f : Value-F Value) → roll-Value f ≡ x → value_tree types x ≡ layer types (map-Value Value tree.Value (value_tree types) f)
  unfolding value_tree
  tree_of x f rolls = ap (value_tree types) (sym rolls) ∙ fold-roll-Value tree.Value (layer types) f

  -- ---- trees

  tree-Indet : value_tree types v.Indet ≡ t.Unset
  tree-Indet = tree_of v.Indet Value-F.Indet v.rolls-Indet

  tree-Int : (n : ℤ) → value_tree types (v.Int n) ≡ t.Integer (signed_decimal n)
  tree-Int n = tree_of (v.Int n) (Value-F.Int n) (v.rolls-Int n)

  tree-Dec : (d : Decimal) → value_tree types (v.Dec d) ≡ t.Real (written d)
  tree-Dec d = tree_of (v.Dec d) (Value-F.Dec d) (v.rolls-Dec d)

  tree-Str : (s : List ℕ) → value_tree types (v.Str s) ≡ t.Text (encoded s)
  tree-Str s = tree_of (v.Str s) (Value-F.Str s) (v.rolls-Str s)

  tree-Bin : (bits : List Bool) → value_tree types (v.Bin bits) ≡ t.Binary (binary bits)
  tree-Bin bits = tree_of (v.Bin bits) (Value-F.Bin bits) (v.rolls-Bin bits)

  tree-Log : (x : Logical) → value_tree types (v.Log x) ≡ t.Item (logical_name x)
  tree-Log x = tree_of (v.Log x) (Value-F.Log x) (v.rolls-Log x)

  tree-Item : (n place : ℕ) → value_tree types (v.Item n place) ≡ t.Item (item_name types n place)
  tree-Item n place = tree_of (v.Item n place) (Value-F.Item n place) (v.rolls-Item n place)

  tree-Inst : (n : ℕ) → value_tree types (v.Inst n) ≡ t.Reference n
  tree-Inst n = tree_of (v.Inst n) (Value-F.Inst n) (v.rolls-Inst n)

  tree-Agg : (kind : AggregateKind) (e : Elements Value) → value_tree types (v.Agg kind e) ≡ t.List (map (value_tree types) e.items)
  tree-Agg kind e = tree_of (v.Agg kind e) (Value-F.Agg kind e) (v.rolls-Agg kind e)

  tree-Named : (n : ℕ) (w : Value) → value_tree types (v.Named n w) ≡ t.Typed (type_name types n) (value_tree types w)
  tree-Named n w = tree_of (v.Named n w) (Value-F.Named n w) (v.rolls-Named n w)

  -- ---- what is read

  pub again-Indet : again v.Indet ≡ none types true
  again-Indet = ap (meaning types) tree-Indet ∙ read t.Unset opened.Value-F.Unset t.rolls-Unset

  pub again-Int : (n : ℤ) → again (v.Int n) ≡ bare types (of_integer (signed_decimal n))
  again-Int n = ap (meaning types) (tree-Int n) ∙ read (t.Integer (signed_decimal n)) (opened.Value-F.Integer (signed_decimal n)) (t.rolls-Integer (signed_decimal n))

  pub again-Dec : (d : Decimal) → again (v.Dec d) ≡ bare types (of_real (written d))
  again-Dec d = ap (meaning types) (tree-Dec d) ∙ read (t.Real (written d)) (opened.Value-F.Real (written d)) (t.rolls-Real (written d))

  pub again-Str : (s : List ℕ) → again (v.Str s) ≡ bare types (of_text (encoded s))
  again-Str s = ap (meaning types) (tree-Str s) ∙ read (t.Text (encoded s)) (opened.Value-F.Text (encoded s)) (t.rolls-Text (encoded s))

  pub again-Bin : (bits : List Bool) → again (v.Bin bits) ≡ bare types (of_binary (binary bits))
  again-Bin bits = ap (meaning types) (tree-Bin bits) ∙ read (t.Binary (binary bits)) (opened.Value-F.Binary (binary bits)) (t.rolls-Binary (binary bits))

  again-item : (w : Value) (token : List ℕ) → value_tree types w ≡ t.Item token → again w ≡ bare types (of_item types (str_to_ascii_uppercase token))
  again-item w token is = ap (meaning types) is ∙ read (t.Item token) (opened.Value-F.Item token) (t.rolls-Item token)

  pub again-Log : (x : Logical) → again (v.Log x) ≡ bare types (of_item types (str_to_ascii_uppercase (logical_name x)))
  again-Log x = again-item (v.Log x) (logical_name x) (tree-Log x)

  pub again-Item : (n place : ℕ) → again (v.Item n place) ≡ bare types (of_item types (str_to_ascii_uppercase (item_name types n place)))
  again-Item n place = again-item (v.Item n place) (item_name types n place) (tree-Item n place)

  pub again-Inst : (n : ℕ) → again (v.Inst n) ≡ reference types n
  again-Inst n = ap (meaning types) (tree-Inst n) ∙ read (t.Reference n) (opened.Value-F.Reference n) (t.rolls-Reference n)

  pub again-Agg : (kind : AggregateKind) (e : Elements Value) → again (v.Agg kind e) ≡ bare types (of_list types (map again e.items))
  again-Agg kind e =
      ap (meaning types) (tree-Agg kind e)
      ∙ read (t.List (map (value_tree types) e.items)) (opened.Value-F.List (map (value_tree types) e.items)) (t.rolls-List (map (value_tree types) e.items))
      ∙ ap (λ ms. bare types (of_list types ms)) (map_twice (meaning types) (value_tree types) e.items)

  pub again-Named : (n : ℕ) (w : Value) → again (v.Named n w) ≡ named types (type_name types n) (again w)
  again-Named n w =
      ap (meaning types) (tree-Named n w)
      ∙ read (t.Typed (type_name types n) (value_tree types w)) (opened.Value-F.Typed (type_name types n) (value_tree types w)) (t.rolls-Typed (type_name types n) (value_tree types w))

  -- ---- how it is spelled

  pub shown-Indet : shown v.Indet ≡ leaf (36 ∷ []) true
  shown-Indet = ap spelling tree-Indet ∙ spelling-Unset

  pub shown-Int : (n : ℤ) → shown (v.Int n) ≡ leaf (signed_decimal n) (is_integer (signed_decimal n))
  shown-Int n = ap spelling (tree-Int n) ∙ spelling-Integer (signed_decimal n)

  pub shown-Dec : (d : Decimal) → shown (v.Dec d) ≡ leaf (written d) (is_real (written d))
  shown-Dec d = ap spelling (tree-Dec d) ∙ spelling-Real (written d)

  pub shown-Str : (s : List ℕ) → shown (v.Str s) ≡ leaf (quoted (encoded s)) (is_string (encoded s))
  shown-Str s = ap spelling (tree-Str s) ∙ spelling-Text (encoded s)

  pub shown-Bin : (bits : List Bool) → shown (v.Bin bits) ≡ leaf (34 ∷ (binary bits ++ 34 ∷ [])) (is_bits (binary bits))
  shown-Bin bits = ap spelling (tree-Bin bits) ∙ spelling-Binary (binary bits)

  pub shown-Log : (x : Logical) → shown (v.Log x) ≡ leaf (46 ∷ (logical_name x ++ 46 ∷ [])) (is_word (logical_name x))
  shown-Log x = ap spelling (tree-Log x) ∙ spelling-Item (logical_name x)

  pub shown-Item : (n place : ℕ) → shown (v.Item n place) ≡ leaf (46 ∷ (item_name types n place ++ 46 ∷ [])) (is_word (item_name types n place))
  shown-Item n place = ap spelling (tree-Item n place) ∙ spelling-Item (item_name types n place)

  pub shown-Inst : (n : ℕ) → shown (v.Inst n) ≡ leaf (35 ∷ decimal n) (is_name n)
  shown-Inst n = ap spelling (tree-Inst n) ∙ spelling-Reference n

  pub shown-Agg : (kind : AggregateKind) (e : Elements Value) → shown (v.Agg kind e) ≡ list (map shown e.items)
  shown-Agg kind e = ap spelling (tree-Agg kind e) ∙ spelling-List (map (value_tree types) e.items) ∙ ap list (map_twice spelling (value_tree types) e.items)

  pub shown-Named : (n : ℕ) (w : Value) → shown (v.Named n w) ≡ typed (type_name types n) (shown w)
  shown-Named n w = ap spelling (tree-Named n w) ∙ spelling-Typed (type_name types n) (value_tree types w)
