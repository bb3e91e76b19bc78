-- What a type takes of a value refers to no more than the value does.
use Rattle.std.proofs.Common.{◌≡◌, ℕ, ℤ, Bool, true, false, ◌&&◌, if◌then◌else◌, List, [], ◌∷◌, ◌++◌, map, Option, Some, None, option_map, refl, sym, ◌∙◌, ap, subst}
use Rattle.std.specs.List.{AllByRecursion, cons_option, filter_map, flat_map, list_all}
use Rattle.std.specs.Str.{str_to_ascii_uppercase}
use Rattle.std.proofs.lemmas.Bool.{and_parts}
use Rattle.std.proofs.lemmas.List.Folds.{flat_map-map, list_all-append}
use Rattle.plain_data.specs.Numbers.{is_among}
use Rattle.ex_tree.specs.declared.data_type.SimpleType.TheVariants as simple
use Rattle.ex_named.specs.declared.declaration.NamedType.{NamedType}
use Rattle.ex_named.specs.declared.expression.NamedDataType.{NamedDataType}
use Rattle.name_tables.specs.Names.{place_of}
use Rattle.p21_instances.specs.Instances as spelled
use Rattle.p21_escapes.specs.Decoding.{decoded}
use Rattle.p21_tree.specs.declared.value.Value as tree
use Rattle.p21_tree.specs.declared.value.Value.TheFolds as trees
use Rattle.p21_tree.specs.declared.value.Value.TheOpen.{Value-F}
use Rattle.p21_tree.specs.declared.value.Value.TheViews as views
use Rattle.ex_selects.specs.Ends.{Base, Plain, Instance, Aggregate, Enumeration, Select, Target, base_of, choices, chooses_instances, inside, target}
use Rattle.p21_values.specs.Taking as taking
use Rattle.p21_values.specs.Taking.{Meaning, all_there, bare_at, bound, by_choice, chosen, is_that, meaning, named_by, of_binary, of_integer, of_item, of_list, of_real, of_text, only, place, reference_at, with_first}
use Rattle.ex_selects.specs.Items.{items, type_named}
use Rattle.p21_values.specs.Tokens.{bits, boolean, integer, logical, ok}
use Rattle.rp_numbers.specs.Decimals.{Decimal}
use Rattle.rp_numbers.specs.Spelling.{parse}
use Rattle.rp_numbers.specs.declared.Logical.{Logical}
use Rattle.rp_value.specs.Elements.{Elements}
use Rattle.rp_value.specs.declared.value.AggregateKind.{AggregateKind}
use Rattle.rp_value.specs.declared.value.Value.{Value}
use Rattle.rp_value.specs.declared.value.Value.TheFolds.{fold-roll-Value, map-Value}
use Rattle.rp_value.specs.declared.value.Value.TheOpen as open_value
use Rattle.rp_value.specs.declared.value.Value.TheVariants as v
use Rattle.rp_value.specs.declared.value.Value.TheViews.{roll-Value}
use Rattle.rp_rows.specs.Contents.{referred, references}

-- ---- what values refer to, by their form

of_form : (w : Value) (f : open_value.Value-F Value) → roll-Value f ≡ w → references w ≡ referred (map-Value Value (List ℕ) references f)
of_form w f rolls = ap references (sym rolls) ∙ fold-roll-Value (List ℕ) referred f

module _ (p : ℕ → Bool) where
  -- each name that the value refers to passes
  abbrev pub Passes : Value → Type 0
  Passes w = list_all p (references w) ≡ true

  none_passes : (w : Value) (f : open_value.Value-F Value) → roll-Value f ≡ w → referred (map-Value Value (List ℕ) references f) ≡ [] → Passes w
  none_passes w f rolls none = ap (list_all p) (of_form w f rolls ∙ none)

  pub indet_passes : Passes v.Indet
  indet_passes = none_passes v.Indet open_value.Value-F.Indet v.rolls-Indet refl

  int_passes : (z : ℤ) → Passes (v.Int z)
  int_passes z = none_passes (v.Int z) (open_value.Value-F.Int z) (v.rolls-Int z) refl

  dec_passes : (d : Decimal) → Passes (v.Dec d)
  dec_passes d = none_passes (v.Dec d) (open_value.Value-F.Dec d) (v.rolls-Dec d) refl

  str_passes : (text : List ℕ) → Passes (v.Str text)
  str_passes text = none_passes (v.Str text) (open_value.Value-F.Str text) (v.rolls-Str text) refl

  bin_passes : (bits : List Bool) → Passes (v.Bin bits)
  bin_passes bits = none_passes (v.Bin bits) (open_value.Value-F.Bin bits) (v.rolls-Bin bits) refl

  log_passes : (x : Logical) → Passes (v.Log x)
  log_passes x = none_passes (v.Log x) (open_value.Value-F.Log x) (v.rolls-Log x) refl

  item_value_passes : (n place : ℕ) → Passes (v.Item n place)
  item_value_passes n place = none_passes (v.Item n place) (open_value.Value-F.Item n place) (v.rolls-Item n place) refl

  inst_passes : (n : ℕ) → p n ≡ true → Passes (v.Inst n)
  inst_passes n is = ap (list_all p) (of_form (v.Inst n) (open_value.Value-F.Inst n) (v.rolls-Inst n)) ∙ ap (λ b. b && true) is

  pub values_pass : (ws : List Value) → AllByRecursion Passes ws → list_all p (flat_map references ws) ≡ true
  values_pass [] all = refl
  values_pass (w ∷ ws) all =
      let rest = values_pass ws all.1 in
      list_all-append p (references w) (flat_map references ws) ∙ (λ i. all.0 i && rest i)

  agg_passes : (kind : AggregateKind) (e : Elements Value) → AllByRecursion Passes e.items → Passes (v.Agg kind e)
  agg_passes kind e all =
      ap (list_all p) (of_form (v.Agg kind e) (open_value.Value-F.Agg kind e) (v.rolls-Agg kind e) ∙ flat_map-map (λ found. found) references e.items) ∙ values_pass e.items all

  named_passes : (n : ℕ) (w : Value) → Passes w → Passes (v.Named n w)
  named_passes n w all = ap (list_all p) (of_form (v.Named n w) (open_value.Value-F.Named n w) (v.rolls-Named n w)) ∙ all

module _ (types : List NamedType) (p : ℕ → Bool) where
  -- ---- tokens

  mapped : {A : Type 0} (f : A → Value) → ((a : A) → Passes p (f a)) → (o : Option A) (w : Value) → option_map f o ≡ Some w → Passes p w
  mapped f all None w e = cc
  mapped f all (Some a) w e = let same : f a ≡ w = cc in subst (Passes p) same (all a)

  integer_passes : (token : List ℕ) (base : Base) (w : Value) → of_integer token base ≡ Some w → Passes p w
  integer_passes token (Plain simple.Integer) w e = mapped v.Int (int_passes p) (integer token) w e
  integer_passes token (Plain simple.Number) w e = mapped v.Int (int_passes p) (integer token) w e
  integer_passes token (Plain simple.Real) w e = mapped v.Dec (dec_passes p) (ok (parse (token ++ 46 ∷ []))) w e
  integer_passes token _ w e = cc

  real_passes : (token : List ℕ) (base : Base) (w : Value) → of_real token base ≡ Some w → Passes p w
  real_passes token (Plain simple.Number) w e = mapped v.Dec (dec_passes p) (ok (parse token)) w e
  real_passes token (Plain simple.Real) w e = mapped v.Dec (dec_passes p) (ok (parse token)) w e
  real_passes token _ w e = cc

  text_passes : (token : List ℕ) (base : Base) (w : Value) → of_text token base ≡ Some w → Passes p w
  text_passes token (Plain (simple.String width)) w e = mapped v.Str (str_passes p) (ok (decoded token)) w e
  text_passes token _ w e = cc

  binary_passes : (token : List ℕ) (base : Base) (w : Value) → of_binary token base ≡ Some w → Passes p w
  binary_passes token (Plain (simple.Binary width)) w e = let same : v.Bin (bits token) ≡ w = cc in subst (Passes p) same (bin_passes p (bits token))
  binary_passes token _ w e = cc

  item_passes : (token : List ℕ) (base : Base) (w : Value) → of_item types token base ≡ Some w → Passes p w
  item_passes token (Plain simple.Boolean) w e = mapped v.Log (log_passes p) (boolean token) w e
  item_passes token (Plain simple.Logical) w e = mapped v.Log (log_passes p) (logical token) w e
  item_passes token (Enumeration number) w e = mapped (v.Item number) (item_value_passes p number) (place_of token (items types number)) w e
  item_passes token _ w e = cc

  -- ---- references

  chosen_reference : (n : ℕ) → p n ≡ true → (t : Bool) (w : Value) → (if t then Some (v.Inst n) else None) ≡ Some w → Passes p w
  chosen_reference n is true w e = let same : v.Inst n ≡ w = cc in subst (Passes p) same (inst_passes p n is)
  chosen_reference n is false w e = cc

  reference_passes : (n : ℕ) → p n ≡ true → (base : Base) (w : Value) → reference_at types n base ≡ Some w → Passes p w
  reference_passes n is Instance w e = chosen_reference n is true w e
  reference_passes n is (Select number) w e = chosen_reference n is (chooses_instances types number) w e
  reference_passes n is _ w e = cc

  -- ---- without a keyword

  only_passes : (ws : List Value) (w : Value) → AllByRecursion (Passes p) ws → only ws ≡ Some w → Passes p w
  only_passes [] w all e = cc
  only_passes (x ∷ []) w all e = let same : x ≡ w = cc in subst (Passes p) same all.0
  only_passes (x ∷ y ∷ ws) w all e = cc

  module _ (plain : Base → Option Value) (each : (base : Base) (w : Value) → plain base ≡ Some w → Passes p w) where
    one_choice : (k : ℕ) (o : Option Value) (ws : List Value) → plain (base_of types k) ≡ o → AllByRecursion (Passes p) ws → AllByRecursion (Passes p) (cons_option (option_map (v.Named k) o) ws)
    one_choice k None ws e all = all
    one_choice k (Some u) ws e all = (named_passes p k u (each (base_of types k) u e), all)

    choices_pass : (ks : List ℕ) → AllByRecursion (Passes p) (filter_map (by_choice types plain) ks)
    choices_pass [] = tt
    choices_pass (k ∷ ks) = one_choice k (plain (base_of types k)) (filter_map (by_choice types plain) ks) refl (choices_pass ks)

    bare_passes : (base : Base) (w : Value) → bare_at types plain base ≡ Some w → Passes p w
    bare_passes (Select number) w e = only_passes (filter_map (by_choice types plain) (choices types number)) w (choices_pass (choices types number)) e
    bare_passes base w e = each base w e

  -- ---- what a value is taken for

  abbrev Gives : Meaning → Type 0
  Gives m = (t : Target) (w : Value) → m.fit t ≡ Some w → Passes p w

  placed_by : (m : Meaning) → Gives m → (t : Target) (w : Value) (unset : Bool) → (if unset then Some v.Indet else m.fit t) ≡ Some w → Passes p w
  placed_by m gives t w true e = let same : v.Indet ≡ w = cc in subst (Passes p) same (indet_passes p)
  placed_by m gives t w false e = gives t w e

  placed : (m : Meaning) → Gives m → (t : Target) (w : Value) → place m t ≡ Some w → Passes p w
  placed m gives t w e = placed_by m gives t w m.is_unset e

  -- ---- lists

  one_more : (first : Option Value) (others : Option (List Value)) (ws : List Value) → ((w : Value) → first ≡ Some w → Passes p w) → ((us : List Value) → others ≡ Some us → AllByRecursion (Passes p) us)
      → with_first first others ≡ Some ws → AllByRecursion (Passes p) ws
  one_more None others ws here later e = cc
  one_more (Some x) None ws here later e = cc
  one_more (Some x) (Some xs) ws here later e = let same : x ∷ xs ≡ ws = cc in subst (AllByRecursion (Passes p)) same (here x refl, later xs refl)

  all_there_pass : (ms : List Meaning) (t : Target) (ws : List Value) → AllByRecursion Gives ms → all_there (map (λ m. place m t) ms) ≡ Some ws → AllByRecursion (Passes p) ws
  all_there_pass [] t ws all e = let same : [] ≡ ws = cc in subst (AllByRecursion (Passes p)) same tt
  all_there_pass (m ∷ ms) t ws all e = one_more (place m t) (all_there (map (λ m. place m t) ms)) ws (placed m all.0 t) (λ us f. all_there_pass ms t us all.1 f) e

  elements_pass : (kind : AggregateKind) (low : ℤ) (o : Option (List Value)) (w : Value) → ((ws : List Value) → o ≡ Some ws → AllByRecursion (Passes p) ws)
      → option_map (λ (xs : List Value). v.Agg kind (record { low = low; items = xs })) o ≡ Some w → Passes p w
  elements_pass kind low None w all e = cc
  elements_pass kind low (Some ws) w all e =
      let same : v.Agg kind (record { low = low; items = ws }) ≡ w = cc in
      subst (Passes p) same (agg_passes p kind (record { low = low; items = ws }) (all ws refl))

  list_passes : (ms : List Meaning) → AllByRecursion Gives ms → (base : Base) (w : Value) → of_list types ms base ≡ Some w → Passes p w
  list_passes ms all (Aggregate kind low element) w e =
      elements_pass kind low (all_there (map (λ m. place m (target types element)) ms)) w (λ ws f. all_there_pass ms (target types element) ws all f) e
  list_passes ms all _ w e = cc

  -- ---- keywords

  module _ (m : Meaning) (gives : Gives m) where
    chosen_by : (k : ℕ) (t : Bool) (w : Value) → (if t then option_map (v.Named k) (m.fit (inside types k)) else None) ≡ Some w → Passes p w
    chosen_by k true w e = under (m.fit (inside types k)) (gives (inside types k)) e
      where
        under : (o : Option Value) → ((u : Value) → o ≡ Some u → Passes p u) → option_map (v.Named k) o ≡ Some w → Passes p w
        under None all e = cc
        under (Some u) all e = let same : v.Named k u ≡ w = cc in subst (Passes p) same (named_passes p k u (all u refl))
    chosen_by k false w e = cc

    chosen_passes : (k : ℕ) (base : Base) (w : Value) → chosen types m k base ≡ Some w → Passes p w
    chosen_passes k (Select number) w e = chosen_by k (is_among (choices types number) k) w e
    chosen_passes k _ w e = cc

    named_test : (k : ℕ) (t : Target) (w : Value) (own : Bool) → (if own then m.fit (inside types k) else chosen types m k t.base) ≡ Some w → Passes p w
    named_test k t w true e = gives (inside types k) w e
    named_test k t w false e = chosen_passes k t.base w e

    named_gives : (o : Option ℕ) (t : Target) (w : Value) → named_by types m o t ≡ Some w → Passes p w
    named_gives None t w e = cc
    named_gives (Some k) t w e = named_test k t w (is_that types t.name k) e

  -- ---- any

  abbrev IsGood : tree.Value → Type 0
  IsGood x = list_all p (spelled.references x) ≡ true → Gives (meaning types x)

  abbrev LayerGood : Value-F tree.Value → Type 0
  LayerGood z = list_all p (spelled.referred (trees.map-Value tree.Value (List ℕ) spelled.references z)) ≡ true → Gives (taking.layer types (trees.map-Value tree.Value Meaning (meaning types) z))

  abbrev trees_of : List ((x : tree.Value) × IsGood x) → List tree.Value
  trees_of qs = map (λ q. q.0) qs

  each_gives : (qs : List ((x : tree.Value) × IsGood x)) → list_all p (flat_map (λ found. found) (map spelled.references (trees_of qs))) ≡ true → AllByRecursion Gives (map (meaning types) (trees_of qs))
  each_gives [] e = tt
  each_gives (q ∷ qs) e =
      let others = flat_map (λ found. found) (map spelled.references (trees_of qs)) in
      let two = and_parts (list_all p (spelled.references q.0)) (list_all p others) (sym (list_all-append p (spelled.references q.0) others) ∙ e) in
      (q.1 two.0, each_gives qs two.1)

  layer_good : (y : Value-F ((x : tree.Value) × IsGood x)) → LayerGood (trees.map-Value ((x : tree.Value) × IsGood x) tree.Value (λ q. q.0) y)
  layer_good Value-F.Unset = λ all t w e. cc
  layer_good Value-F.Derived = λ all t w e. cc
  layer_good (Value-F.Integer token) = λ all t w e. bare_passes (of_integer token) (integer_passes token) t.base w e
  layer_good (Value-F.Real token) = λ all t w e. bare_passes (of_real token) (real_passes token) t.base w e
  layer_good (Value-F.Text token) = λ all t w e. bare_passes (of_text token) (text_passes token) t.base w e
  layer_good (Value-F.Item token) = λ all t w e. bare_passes (of_item types (str_to_ascii_uppercase token)) (item_passes (str_to_ascii_uppercase token)) t.base w e
  layer_good (Value-F.Binary token) = λ all t w e. bare_passes (of_binary token) (binary_passes token) t.base w e
  layer_good (Value-F.Reference n) = λ all t w e. reference_passes n (and_parts (p n) true all).0 t.base w e
  layer_good (Value-F.List qs) = λ all t w e.
      bare_passes (of_list types (map (meaning types) (trees_of qs))) (list_passes (map (meaning types) (trees_of qs)) (each_gives qs all)) t.base w e
  layer_good (Value-F.Typed keyword q) = λ all t w e. named_gives (meaning types q.0) (q.1 all) (type_named types keyword) t w e

  meaning_roll : (z : Value-F tree.Value) → meaning types (views.roll-Value z) ≡ taking.layer types (trees.map-Value tree.Value Meaning (meaning types) z)
  unfolding meaning
  meaning_roll z = trees.fold-roll-Value Meaning (taking.layer types) z

  references_roll : (z : Value-F tree.Value) → spelled.references (views.roll-Value z) ≡ spelled.referred (trees.map-Value tree.Value (List ℕ) spelled.references z)
  references_roll z = trees.fold-roll-Value (List ℕ) spelled.referred z

  rolled : (z : Value-F tree.Value) → LayerGood z → IsGood (views.roll-Value z)
  rolled z good all t w e = good (sym (ap (list_all p) (references_roll z)) ∙ all) t w (sym (ap (λ (m : Meaning). m.fit t) (meaning_roll z)) ∙ e)

  is_good : (x : tree.Value) → IsGood x
  is_good = trees.ind-Value IsGood (λ z y is. rolled z (subst LayerGood is (layer_good y)))

  -- where each name that is referred to passes, so does each that the value which is taken refers to
  pub bound_passes : (d : NamedDataType) (x : tree.Value) (w : Value) → bound types d x ≡ Some w → list_all p (spelled.references x) ≡ true → Passes p w
  unfolding bound
  bound_passes d x w e all = placed (meaning types x) (is_good x all) (target types d) w e
