-- What is written of a value has no `*`, and refers to what the file's value did.
use Rattle.std.proofs.Common.{◌≡◌, ℕ, ℤ, Bool, true, false, if◌then◌else◌, List, [], ◌∷◌, ◌++◌, map, Option, Some, None, option_map, refl, sym, ◌∙◌, ap, subst}
use Rattle.std.specs.Fmt.{signed_decimal}
use Rattle.std.specs.List.{cons_option, filter_map, flat_map, list_any}
use Rattle.std.specs.Str.{str_to_ascii_uppercase}
use Rattle.plain_data.specs.Numbers.{is_among}
use Rattle.ex_named.specs.declared.declaration.NamedType.{NamedType}
use Rattle.ex_named.specs.declared.expression.NamedDataType.{NamedDataType}
use Rattle.ex_tree.specs.declared.data_type.SimpleType.TheVariants as simple
use Rattle.name_tables.specs.Names.{place_of}
use Rattle.p21_mappings.specs.Instances.{has_star, star_layer}
use Rattle.p21_instances.specs.Instances.{references, referred}
use Rattle.p21_escapes.specs.Decoding.{decoded}
use Rattle.p21_escapes.specs.Encoding.{encoded}
use Rattle.p21_tree.specs.declared.value.Value as tree
use Rattle.p21_tree.specs.declared.value.Value.TheFolds as trees
use Rattle.p21_tree.specs.declared.value.Value.TheOpen as opened
use Rattle.p21_tree.specs.declared.value.Value.TheVariants as t
use Rattle.p21_tree.specs.declared.value.Value.TheViews as views
use Rattle.ex_selects.specs.Ends.{Base, Plain, Instance, Aggregate, Enumeration, Select, Nothing, Target, base_of, choices, chooses_instances, inside, target}
use Rattle.p21_values.specs.Taking as taking
use Rattle.p21_values.specs.Taking.{Meaning, all_there, bare, bare_at, bound, by_choice, chosen, is_that, meaning, named_by, none, of_binary, of_integer, of_item, of_list, of_real, of_text, only, place, reference_at}
use Rattle.ex_selects.specs.Items.{items, type_named}
use Rattle.p21_values.specs.Tokens.{bits, boolean, integer, logical, ok}
use Rattle.p21_canonical.specs.Binaries.{binary}
use Rattle.p21_canonical.specs.Trees.{item_name, layer, logical_name, type_name, value_tree}
use Rattle.rp_numbers.specs.Decimals.{Decimal}
use Rattle.rp_numbers.specs.Spelling.{parse}
use Rattle.rp_numbers.specs.Written.{written}
use Rattle.rp_numbers.specs.declared.Logical.{Logical}
use Rattle.rp_value.specs.Elements.{Elements}
use Rattle.rp_value.specs.declared.value.AggregateKind.{AggregateKind}
use Rattle.rp_value.specs.declared.value.Value.{Value}
use Rattle.rp_value.specs.declared.value.Value.TheFolds.{fold-roll-Value, ind-Value, map-Value}
use Rattle.rp_value.specs.declared.value.Value.TheOpen.{Value-F}
use Rattle.rp_value.specs.declared.value.Value.TheVariants as v
use Rattle.rp_value.specs.declared.value.Value.TheViews.{roll-Value}
use Rattle.p21_laws.proofs.Firsts.{split}
use Rattle.p21_laws.proofs.Forms.{meaning_roll}
use Rattle.p21_laws.proofs.Names.{given}

module _ (types : List NamedType) where
  -- ---- the tree of a value, one layer of it

  abbrev as_open : Value-F tree.Value → opened.Value-F tree.Value
  as_open Value-F.Indet = opened.Value-F.Unset
  as_open (Value-F.Int n) = opened.Value-F.Integer (signed_decimal n)
  as_open (Value-F.Dec d) = opened.Value-F.Real (written d)
  as_open (Value-F.Str text) = opened.Value-F.Text (encoded text)
  as_open (Value-F.Bin bits) = opened.Value-F.Binary (binary bits)
  as_open (Value-F.Log x) = opened.Value-F.Item (logical_name x)
  as_open (Value-F.Item n place) = opened.Value-F.Item (item_name types n place)
  as_open (Value-F.Inst name) = opened.Value-F.Reference name
  as_open (Value-F.Agg kind elements) = opened.Value-F.List elements.items
  as_open (Value-F.Named n value) = opened.Value-F.Typed (type_name types n) value

  layer_rolls : (f : Value-F tree.Value) → views.roll-Value (as_open f) ≡ layer types f
  layer_rolls Value-F.Indet = t.rolls-Unset
  layer_rolls (Value-F.Int n) = t.rolls-Integer (signed_decimal n)
  layer_rolls (Value-F.Dec d) = t.rolls-Real (written d)
  layer_rolls (Value-F.Str text) = t.rolls-Text (encoded text)
  layer_rolls (Value-F.Bin bits) = t.rolls-Binary (binary bits)
  layer_rolls (Value-F.Log x) = t.rolls-Item (logical_name x)
  layer_rolls (Value-F.Item n place) = t.rolls-Item (item_name types n place)
  layer_rolls (Value-F.Inst name) = t.rolls-Reference name
  layer_rolls (Value-F.Agg kind elements) = t.rolls-List elements.items
  layer_rolls (Value-F.Named n value) = t.rolls-Typed (type_name types n) value

  abbrev pub opened_tree : Value-F Value → opened.Value-F tree.Value
  opened_tree x = as_open (map-Value Value tree.Value (value_tree types) x)

  tree_rolls : (x : Value-F Value) → value_tree types (roll-Value x) ≡ views.roll-Value (opened_tree x)
  unfolding value_tree
  tree_rolls x = fold-roll-Value tree.Value (layer types) x ∙ sym (layer_rolls (map-Value Value tree.Value (value_tree types) x))

  -- ---- no `*`

  abbrev IsPlain : Value → Type 0
  IsPlain w = has_star (value_tree types w) ≡ false

  abbrev Plained : Type 0
  Plained = (w : Value) × IsPlain w

  no_stars : (ps : List Plained) → list_any (λ b. b) (map has_star (map (value_tree types) (map (λ p. p.0) ps))) ≡ false
  no_stars [] = refl
  no_stars (p ∷ ps) = rw p.1 (no_stars ps)

  layer_plain : (y : Value-F Plained) → star_layer (trees.map-Value tree.Value Bool has_star (opened_tree (map-Value Plained Value (λ p. p.0) y))) ≡ false
  layer_plain Value-F.Indet = refl
  layer_plain (Value-F.Int n) = refl
  layer_plain (Value-F.Dec d) = refl
  layer_plain (Value-F.Str text) = refl
  layer_plain (Value-F.Bin bits) = refl
  layer_plain (Value-F.Log x) = refl
  layer_plain (Value-F.Item n place) = refl
  layer_plain (Value-F.Inst name) = refl
  layer_plain (Value-F.Agg kind elements) = no_stars elements.items
  layer_plain (Value-F.Named n p) = p.1

  pub no_star : (w : Value) → has_star (value_tree types w) ≡ false
  no_star = ind-Value IsPlain (λ x y is.
      ap has_star (tree_rolls x)
      ∙ trees.fold-roll-Value Bool star_layer (opened_tree x)
      ∙ subst (λ z. star_layer (trees.map-Value tree.Value Bool has_star (opened_tree z)) ≡ false) is (layer_plain y))

  -- ---- references

  abbrev pub names_of : Value → List ℕ
  names_of w = references (value_tree types w)

  pub names_rolls : (x : Value-F Value) → names_of (roll-Value x) ≡ referred (trees.map-Value tree.Value (List ℕ) references (opened_tree x))
  names_rolls x = ap references (tree_rolls x) ∙ trees.fold-roll-Value (List ℕ) referred (opened_tree x)

  names-Indet : names_of v.Indet ≡ []
  names-Indet = ap names_of (sym v.rolls-Indet) ∙ names_rolls Value-F.Indet

  names-Int : (n : ℤ) → names_of (v.Int n) ≡ []
  names-Int n = ap names_of (sym (v.rolls-Int n)) ∙ names_rolls (Value-F.Int n)

  names-Dec : (d : Decimal) → names_of (v.Dec d) ≡ []
  names-Dec d = ap names_of (sym (v.rolls-Dec d)) ∙ names_rolls (Value-F.Dec d)

  names-Str : (s : List ℕ) → names_of (v.Str s) ≡ []
  names-Str s = ap names_of (sym (v.rolls-Str s)) ∙ names_rolls (Value-F.Str s)

  names-Bin : (bits : List Bool) → names_of (v.Bin bits) ≡ []
  names-Bin bits = ap names_of (sym (v.rolls-Bin bits)) ∙ names_rolls (Value-F.Bin bits)

  names-Log : (x : Logical) → names_of (v.Log x) ≡ []
  names-Log x = ap names_of (sym (v.rolls-Log x)) ∙ names_rolls (Value-F.Log x)

  names-Item : (n place : ℕ) → names_of (v.Item n place) ≡ []
  names-Item n place = ap names_of (sym (v.rolls-Item n place)) ∙ names_rolls (Value-F.Item n place)

  names-Inst : (n : ℕ) → names_of (v.Inst n) ≡ n ∷ []
  names-Inst n = ap names_of (sym (v.rolls-Inst n)) ∙ names_rolls (Value-F.Inst n)

  names-Agg : (kind : AggregateKind) (e : Elements Value) → names_of (v.Agg kind e) ≡ flat_map (λ found. found) (map references (map (value_tree types) e.items))
  names-Agg kind e = ap names_of (sym (v.rolls-Agg kind e)) ∙ names_rolls (Value-F.Agg kind e)

  names-Named : (n : ℕ) (u : Value) → names_of (v.Named n u) ≡ names_of u
  names-Named n u = ap names_of (sym (v.rolls-Named n u)) ∙ names_rolls (Value-F.Named n u)

  -- ---- what is read of a value refers to these

  record Refers (m : Meaning) (names : List ℕ) : Type 0 where
    unset : m.is_unset ≡ true → [] ≡ names
    fits : (y : Target) (w : Value) → m.fit y ≡ Some w → names_of w ≡ names

  placed_by : (m : Meaning) (names : List ℕ) (y : Target) (w : Value) (test : Bool) → Refers m names → m.is_unset ≡ test → (if test then Some v.Indet else m.fit y) ≡ Some w → names_of w ≡ names
  placed_by m names y w true r is e = let same : v.Indet ≡ w = cc in ap names_of (sym same) ∙ names-Indet ∙ r.unset is
  placed_by m names y w false r is e = r.fits y w e

  placed : (m : Meaning) (names : List ℕ) (y : Target) (w : Value) → Refers m names → place m y ≡ Some w → names_of w ≡ names
  placed m names y w r e = placed_by m names y w m.is_unset r refl e

  only_is : (ws : List Value) (w : Value) → only ws ≡ Some w → ws ≡ w ∷ []
  only_is [] w e = cc
  only_is (x ∷ []) w e = let same : x ≡ w = cc in ap (λ x. x ∷ []) same
  only_is (x ∷ y ∷ ws) w e = cc

  module _ (plain : Base → Option Value) (names : List ℕ) (all : (base : Base) (w : Value) → plain base ≡ Some w → names_of w ≡ names) where
    choice_at : (k : ℕ) (ks : List ℕ) (w : Value) (o : Option Value) → plain (base_of types k) ≡ o → (filter_map (by_choice types plain) ks ≡ w ∷ [] → names_of w ≡ names)
        → cons_option (option_map (v.Named k) o) (filter_map (by_choice types plain) ks) ≡ w ∷ [] → names_of w ≡ names
    choice_at k ks w None is later e = later e
    choice_at k ks w (Some u) is later e = let same : v.Named k u ≡ w = cc in ap names_of (sym same) ∙ names-Named k u ∙ all (base_of types k) u is

    choice : (ks : List ℕ) (w : Value) → filter_map (by_choice types plain) ks ≡ w ∷ [] → names_of w ≡ names
    choice [] w e = cc
    choice (k ∷ ks) w e = choice_at k ks w (plain (base_of types k)) refl (choice ks w) e

    at_base : (base : Base) (w : Value) → bare_at types plain base ≡ Some w → names_of w ≡ names
    at_base (Select n) w e = choice (choices types n) w (only_is (filter_map (by_choice types plain) (choices types n)) w e)
    at_base (Plain s) w e = all (Plain s) w e
    at_base Instance w e = all Instance w e
    at_base (Aggregate kind low element) w e = all (Aggregate kind low element) w e
    at_base (Enumeration n) w e = all (Enumeration n) w e
    at_base Nothing w e = all Nothing w e

    bare_refers : Refers (bare types plain) names
    bare_refers = record { unset = λ e. cc; fits = λ y w e. at_base y.base w e }

  -- ---- tokens

  no_name : {A : Type 0} (f : A → Value) → ((a : A) → names_of (f a) ≡ []) → (o : Option A) (w : Value) → option_map f o ≡ Some w → names_of w ≡ []
  no_name f none o w e = let found = given f o w e in ap names_of (sym found.1.1) ∙ none found.0

  in_integer : (token : List ℕ) (base : Base) (w : Value) → of_integer token base ≡ Some w → names_of w ≡ []
  in_integer token (Plain simple.Integer) w e = no_name v.Int names-Int (integer token) w e
  in_integer token (Plain simple.Number) w e = no_name v.Int names-Int (integer token) w e
  in_integer token (Plain simple.Real) w e = no_name v.Dec names-Dec (ok (parse (token ++ 46 ∷ []))) w e
  in_integer token _ w e = cc

  in_real : (token : List ℕ) (base : Base) (w : Value) → of_real token base ≡ Some w → names_of w ≡ []
  in_real token (Plain simple.Number) w e = no_name v.Dec names-Dec (ok (parse token)) w e
  in_real token (Plain simple.Real) w e = no_name v.Dec names-Dec (ok (parse token)) w e
  in_real token _ w e = cc

  in_text : (token : List ℕ) (base : Base) (w : Value) → of_text token base ≡ Some w → names_of w ≡ []
  in_text token (Plain (simple.String width)) w e = no_name v.Str names-Str (ok (decoded token)) w e
  in_text token _ w e = cc

  in_binary : (token : List ℕ) (base : Base) (w : Value) → of_binary token base ≡ Some w → names_of w ≡ []
  in_binary token (Plain (simple.Binary width)) w e = let same : v.Bin (bits token) ≡ w = cc in ap names_of (sym same) ∙ names-Bin (bits token)
  in_binary token _ w e = cc

  in_item : (token : List ℕ) (base : Base) (w : Value) → of_item types token base ≡ Some w → names_of w ≡ []
  in_item token (Plain simple.Boolean) w e = no_name v.Log names-Log (boolean token) w e
  in_item token (Plain simple.Logical) w e = no_name v.Log names-Log (logical token) w e
  in_item token (Enumeration n) w e = no_name (v.Item n) (names-Item n) (place_of token (items types n)) w e
  in_item token _ w e = cc

  -- ---- references

  is_reference : (n : ℕ) (w : Value) → Some (v.Inst n) ≡ Some w → names_of w ≡ n ∷ []
  is_reference n w e = let same : v.Inst n ≡ w = cc in ap names_of (sym same) ∙ names-Inst n

  reference_if : (n : ℕ) (w : Value) (test : Bool) → (if test then Some (v.Inst n) else None) ≡ Some w → names_of w ≡ n ∷ []
  reference_if n w true e = is_reference n w e
  reference_if n w false e = cc

  in_reference : (n : ℕ) (base : Base) (w : Value) → reference_at types n base ≡ Some w → names_of w ≡ n ∷ []
  in_reference n Instance w e = is_reference n w e
  in_reference n (Select number) w e = reference_if n w (chooses_instances types number) e
  in_reference n _ w e = cc

  -- ---- lists

  abbrev IsReferred : tree.Value → Type 0
  IsReferred x = Refers (meaning types x) (references x)

  abbrev Referring : Type 0
  Referring = (x : tree.Value) × IsReferred x

  abbrev trees_of : List Referring → List tree.Value
  trees_of ps = map (λ p. p.0) ps

  all_names : (ps : List Referring) (y : Target) (ws : List Value) → all_there (map (λ m. place m y) (map (meaning types) (trees_of ps))) ≡ Some ws
      → flat_map (λ found. found) (map references (map (value_tree types) ws)) ≡ flat_map (λ found. found) (map references (trees_of ps))
  all_names [] y ws e = let same : [] ≡ ws = cc in ap (λ ws. flat_map (λ found. found) (map references (map (value_tree types) ws))) (sym same)
  all_names (p ∷ ps) y ws e =
      let s = split (place (meaning types p.0) y) (all_there (map (λ m. place m y) (map (meaning types) (trees_of ps)))) ws e in
      ap (λ ws. flat_map (λ found. found) (map references (map (value_tree types) ws))) (sym s.is)
      ∙ ap (λ names. names ++ flat_map (λ found. found) (map references (map (value_tree types) s.tail))) (placed (meaning types p.0) (references p.0) y s.head p.1 s.is_head)
      ∙ ap (λ names. references p.0 ++ names) (all_names ps y s.tail s.is_tail)

  in_list : (ps : List Referring) (base : Base) (w : Value) → of_list types (map (meaning types) (trees_of ps)) base ≡ Some w → names_of w ≡ flat_map (λ found. found) (map references (trees_of ps))
  in_list ps (Aggregate kind low element) w e =
      let found = given (λ (xs : List Value). v.Agg kind (record { low = low; items = xs })) (all_there (map (λ m. place m (target types element)) (map (meaning types) (trees_of ps)))) w e in
      ap names_of (sym found.1.1) ∙ names-Agg kind (record { low = low; items = found.0 }) ∙ all_names ps (target types element) found.0 found.1.0
  in_list ps _ w e = cc

  -- ---- keywords

  module _ (m : Meaning) (names : List ℕ) (r : Refers m names) where
    chosen_if : (k : ℕ) (w : Value) (test : Bool) → (if test then option_map (v.Named k) (m.fit (inside types k)) else None) ≡ Some w → names_of w ≡ names
    chosen_if k w true e =
        let found = given (v.Named k) (m.fit (inside types k)) w e in
        ap names_of (sym found.1.1) ∙ names-Named k found.0 ∙ r.fits (inside types k) found.0 found.1.0
    chosen_if k w false e = cc

    in_chosen : (k : ℕ) (base : Base) (w : Value) → chosen types m k base ≡ Some w → names_of w ≡ names
    in_chosen k (Select n) w e = chosen_if k w (is_among (choices types n) k) e
    in_chosen k _ w e = cc

    in_named : (k : ℕ) (base : Base) (w : Value) (test : Bool) → (if test then m.fit (inside types k) else chosen types m k base) ≡ Some w → names_of w ≡ names
    in_named k base w true e = r.fits (inside types k) w e
    in_named k base w false e = in_chosen k base w e

    in_keyword : (o : Option ℕ) (y : Target) (w : Value) → named_by types m o y ≡ Some w → names_of w ≡ names
    in_keyword None y w e = cc
    in_keyword (Some k) y w e = in_named k y.base w (is_that types y.name k) e

  -- ---- all

  abbrev LayerRefers : opened.Value-F tree.Value → Type 0
  LayerRefers z = Refers (taking.layer types (trees.map-Value tree.Value Meaning (meaning types) z)) (referred (trees.map-Value tree.Value (List ℕ) references z))

  layer_refers : (y : opened.Value-F Referring) → LayerRefers (trees.map-Value Referring tree.Value (λ p. p.0) y)
  layer_refers opened.Value-F.Unset = record { unset = λ e. refl; fits = λ y w e. cc }
  layer_refers opened.Value-F.Derived = record { unset = λ e. cc; fits = λ y w e. cc }
  layer_refers (opened.Value-F.Integer token) = bare_refers (of_integer token) [] (in_integer token)
  layer_refers (opened.Value-F.Real token) = bare_refers (of_real token) [] (in_real token)
  layer_refers (opened.Value-F.Text token) = bare_refers (of_text token) [] (in_text token)
  layer_refers (opened.Value-F.Item token) = bare_refers (of_item types (str_to_ascii_uppercase token)) [] (in_item (str_to_ascii_uppercase token))
  layer_refers (opened.Value-F.Binary token) = bare_refers (of_binary token) [] (in_binary token)
  layer_refers (opened.Value-F.Reference n) = record { unset = λ e. cc; fits = λ y w e. in_reference n y.base w e }
  layer_refers (opened.Value-F.List ps) = bare_refers (of_list types (map (meaning types) (trees_of ps))) (flat_map (λ found. found) (map references (trees_of ps))) (in_list ps)
  layer_refers (opened.Value-F.Typed keyword p) = record { unset = λ e. cc; fits = λ y w e. in_keyword (meaning types p.0) (references p.0) p.1 (type_named types keyword) y w e }

  all_refer : (x : tree.Value) → IsReferred x
  all_refer = trees.ind-Value IsReferred (λ x y is.
      subst (λ (m : Meaning). Refers m (references (views.roll-Value x))) (sym (meaning_roll types x))
      (subst (Refers (taking.layer types (trees.map-Value tree.Value Meaning (meaning types) x))) (sym (trees.fold-roll-Value (List ℕ) referred x)) (subst LayerRefers is (layer_refers y))))

  pub refers_again : (d : NamedDataType) (x : tree.Value) (w : Value) → bound types d x ≡ Some w → references (value_tree types w) ≡ references x
  unfolding bound
  refers_again d x w e = placed (meaning types x) (references x) (target types d) w (all_refer x) e
