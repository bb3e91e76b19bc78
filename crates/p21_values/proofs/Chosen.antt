-- What of a SELECT's choices takes a token, by those that stand for all of them.
use Rattle.std.proofs.Common.{◌≡◌, ℕ, true, false, List, Option, None, option_map, refl, sym, ◌∙◌, ap, subst}
use Rattle.std.specs.Prelude.{is_some}
use Rattle.std.specs.List.{filter_map}
use Rattle.std.specs.Option.{option_and_then}
use Rattle.std.specs.Str.{str_to_ascii_uppercase}
use Rattle.ex_tree.specs.declared.data_type.Width.{Width}
use Rattle.ex_tree.specs.declared.data_type.SimpleType.TheVariants as s
use Rattle.ex_named.specs.declared.declaration.NamedType.{NamedType}
use Rattle.p21_tree.specs.declared.value.Value as tree
use Rattle.p21_tree.specs.declared.value.Value.TheFolds as trees
use Rattle.p21_tree.specs.declared.value.Value.TheOpen.{Value-F}
use Rattle.p21_tree.specs.declared.value.Value.TheVariants as t
use Rattle.p21_tree.specs.declared.value.Value.TheViews as views
use Rattle.rp_value.specs.declared.value.Value.{Value}
use Rattle.rp_value.specs.declared.value.Value.TheVariants as v
use Rattle.ex_selects.specs.declared.sorts.Class.{Class}
use Rattle.ex_selects.specs.declared.sorts.Class.TheVariants as class
use Rattle.ex_selects.specs.declared.sorts.Sort.{Sort}
use Rattle.ex_selects.specs.declared.sorts.Sort.TheVariants as sort
use Rattle.ex_selects.specs.Ends.{Base, Plain, Instance, Aggregate, Enumeration, Select, Nothing, base_of, choices}
use Rattle.ex_selects.specs.Kept.{suffices, StandForClass, of_class}
use Rattle.ex_selects.specs.Shared.{shared, unrenamed}
use Rattle.ex_selects.specs.Sorts.{all_sorts, is_of, of_base, sort_at}
use Rattle.ex_selects.proofs.Chosen.{all_same, class_ascends, lone_same, sort_suffices}
use Rattle.p21_values.specs.Taking.{Meaning, by_choice, layer, meaning, of_binary, of_integer, of_item, of_list, of_real, of_text, only}
use Rattle.p21_values.specs.Deciding.{alone, alone_by, class_by, class_of}
use Rattle.p21_values.proofs.Decided.{mapped, picked}

-- ---- what tokens are taken by

module _ (types : List NamedType) where
  abbrev by_form : Value-F tree.Value → Base → Option Value
  by_form f = alone_by types f (layer types (trees.map-Value tree.Value Meaning (meaning types) f)).plain

  formed : (x : tree.Value) → alone types x ≡ by_form (tree.out-Value x)
  unfolding meaning
  formed x = ap (λ m. alone_by types (tree.out-Value x) m.plain) (ap (meaning types) (sym (views.roll-out-Value x)) ∙ trees.fold-roll-Value Meaning (layer types) (tree.out-Value x))

  no_integer : (token : List ℕ) (b : Base) → is_of class.Plain (of_base b) ≡ false → of_integer token b ≡ None
  no_integer token (Plain s.Integer) e = cc
  no_integer token (Plain s.Number) e = cc
  no_integer token (Plain s.Real) e = cc
  no_integer token (Plain (s.String w)) e = cc
  no_integer token (Plain (s.Binary w)) e = cc
  no_integer token (Plain s.Boolean) e = refl
  no_integer token (Plain s.Logical) e = refl
  no_integer token Instance e = refl
  no_integer token (Aggregate kind low inner) e = refl
  no_integer token (Enumeration n) e = refl
  no_integer token (Select n) e = refl
  no_integer token Nothing e = refl

  no_real : (token : List ℕ) (b : Base) → is_of class.Plain (of_base b) ≡ false → of_real token b ≡ None
  no_real token (Plain s.Integer) e = cc
  no_real token (Plain s.Number) e = cc
  no_real token (Plain s.Real) e = cc
  no_real token (Plain (s.String w)) e = cc
  no_real token (Plain (s.Binary w)) e = cc
  no_real token (Plain s.Boolean) e = refl
  no_real token (Plain s.Logical) e = refl
  no_real token Instance e = refl
  no_real token (Aggregate kind low inner) e = refl
  no_real token (Enumeration n) e = refl
  no_real token (Select n) e = refl
  no_real token Nothing e = refl

  no_text : (token : List ℕ) (b : Base) → is_of class.Plain (of_base b) ≡ false → of_text token b ≡ None
  no_text token (Plain s.Integer) e = cc
  no_text token (Plain s.Number) e = cc
  no_text token (Plain s.Real) e = cc
  no_text token (Plain (s.String w)) e = cc
  no_text token (Plain (s.Binary w)) e = cc
  no_text token (Plain s.Boolean) e = refl
  no_text token (Plain s.Logical) e = refl
  no_text token Instance e = refl
  no_text token (Aggregate kind low inner) e = refl
  no_text token (Enumeration n) e = refl
  no_text token (Select n) e = refl
  no_text token Nothing e = refl

  no_binary : (token : List ℕ) (b : Base) → is_of class.Plain (of_base b) ≡ false → of_binary token b ≡ None
  no_binary token (Plain s.Integer) e = cc
  no_binary token (Plain s.Number) e = cc
  no_binary token (Plain s.Real) e = cc
  no_binary token (Plain (s.String w)) e = cc
  no_binary token (Plain (s.Binary w)) e = cc
  no_binary token (Plain s.Boolean) e = refl
  no_binary token (Plain s.Logical) e = refl
  no_binary token Instance e = refl
  no_binary token (Aggregate kind low inner) e = refl
  no_binary token (Enumeration n) e = refl
  no_binary token (Select n) e = refl
  no_binary token Nothing e = refl

  no_item : (token : List ℕ) (b : Base) → is_of class.Items (of_base b) ≡ false → of_item types token b ≡ None
  no_item token (Plain s.Integer) e = refl
  no_item token (Plain s.Number) e = refl
  no_item token (Plain s.Real) e = refl
  no_item token (Plain (s.String w)) e = refl
  no_item token (Plain (s.Binary w)) e = refl
  no_item token (Plain s.Boolean) e = cc
  no_item token (Plain s.Logical) e = cc
  no_item token Instance e = refl
  no_item token (Aggregate kind low inner) e = refl
  no_item token (Enumeration n) e = cc
  no_item token (Select n) e = refl
  no_item token Nothing e = refl

  no_list : (ms : List Meaning) (b : Base) → is_of class.Lists (of_base b) ≡ false → of_list types ms b ≡ None
  no_list ms (Plain s.Integer) e = refl
  no_list ms (Plain s.Number) e = refl
  no_list ms (Plain s.Real) e = refl
  no_list ms (Plain (s.String w)) e = refl
  no_list ms (Plain (s.Binary w)) e = refl
  no_list ms (Plain s.Boolean) e = refl
  no_list ms (Plain s.Logical) e = refl
  no_list ms Instance e = refl
  no_list ms (Aggregate kind low inner) e = cc
  no_list ms (Enumeration n) e = refl
  no_list ms (Select n) e = refl
  no_list ms Nothing e = refl

  none_by_form : (f : Value-F tree.Value) (b : Base) → is_of (class_by f) (of_base b) ≡ false → by_form f b ≡ None
  none_by_form Value-F.Unset b e = refl
  none_by_form Value-F.Derived b e = refl
  none_by_form (Value-F.Integer token) b e = no_integer token b e
  none_by_form (Value-F.Real token) b e = no_real token b e
  none_by_form (Value-F.Text token) b e = no_text token b e
  none_by_form (Value-F.Item token) b e = no_item (str_to_ascii_uppercase token) b e
  none_by_form (Value-F.Binary token) b e = no_binary token b e
  none_by_form (Value-F.Reference name) b e = refl
  none_by_form (Value-F.List xs) b e = refl
  none_by_form (Value-F.Typed keyword x) b e = refl

  -- a type of the sort
  abbrev of_sort : Sort → Base
  of_sort sort.Integer = Plain s.Integer
  of_sort sort.Number = Plain s.Number
  of_sort sort.Real = Plain s.Real
  of_sort sort.Text = Plain (s.String None)
  of_sort sort.Binary = Plain (s.Binary None)
  of_sort _ = Nothing

  any_string : (f : Value-F tree.Value) (w : Option Width) → by_form f (Plain (s.String w)) ≡ by_form f (Plain (s.String None))
  any_string Value-F.Unset w = refl
  any_string Value-F.Derived w = refl
  any_string (Value-F.Integer token) w = refl
  any_string (Value-F.Real token) w = refl
  any_string (Value-F.Text token) w = refl
  any_string (Value-F.Item token) w = refl
  any_string (Value-F.Binary token) w = refl
  any_string (Value-F.Reference name) w = refl
  any_string (Value-F.List xs) w = refl
  any_string (Value-F.Typed keyword x) w = refl

  any_binary : (f : Value-F tree.Value) (w : Option Width) → by_form f (Plain (s.Binary w)) ≡ by_form f (Plain (s.Binary None))
  any_binary Value-F.Unset w = refl
  any_binary Value-F.Derived w = refl
  any_binary (Value-F.Integer token) w = refl
  any_binary (Value-F.Real token) w = refl
  any_binary (Value-F.Text token) w = refl
  any_binary (Value-F.Item token) w = refl
  any_binary (Value-F.Binary token) w = refl
  any_binary (Value-F.Reference name) w = refl
  any_binary (Value-F.List xs) w = refl
  any_binary (Value-F.Typed keyword x) w = refl

  as_its_sort : (f : Value-F tree.Value) (b : Base) → suffices (of_base b) ≡ true → by_form f b ≡ by_form f (of_sort (of_base b))
  as_its_sort f (Plain s.Integer) e = refl
  as_its_sort f (Plain s.Number) e = refl
  as_its_sort f (Plain s.Real) e = refl
  as_its_sort f (Plain (s.String w)) e = any_string f w
  as_its_sort f (Plain (s.Binary w)) e = any_binary f w
  as_its_sort f (Plain s.Boolean) e = cc
  as_its_sort f (Plain s.Logical) e = cc
  as_its_sort f Instance e = cc
  as_its_sort f (Aggregate kind low inner) e = cc
  as_its_sort f (Enumeration n) e = cc
  as_its_sort f (Select n) e = cc
  as_its_sort f Nothing e = cc

  -- ---- what takes a value

  module _ (sought : Class) (g : Base → Option Value) (selects : (n : ℕ) → g (Select n) ≡ None) (none : (b : Base) → is_of sought (of_base b) ≡ false → g b ≡ None)
      (alike : (b c : Base) → suffices (of_base b) ≡ true → of_base b ≡ of_base c → g b ≡ g c) where
    both_take : (j k : ℕ) → suffices (sort_at (all_sorts types) j) ≡ true → sort_at (all_sorts types) j ≡ sort_at (all_sorts types) k
        → is_some (by_choice types g j) ≡ is_some (by_choice types g k)
    both_take j k e same =
        let is_j = sort_suffices types j e in
        let is_k = sort_suffices types k (sym (ap suffices same) ∙ e) in
        mapped (v.Named j) (g (base_of types j))
        ∙ ap is_some (alike (base_of types j) (base_of types k) (sym (ap suffices is_j) ∙ e) (sym is_j ∙ same ∙ is_k))
        ∙ sym (mapped (v.Named k) (g (base_of types k)))

    kept_only : (n : ℕ) (kept : List ℕ) → StandForClass types sought n kept
        → only (filter_map (by_choice types g) (choices types n)) ≡ only (filter_map (by_choice types g) kept)
    kept_only n kept s =
        let f = by_choice types g in
        let all = of_class (shared types) (all_sorts types) sought (unrenamed types n) in
        ap only (all_same types sought f (λ k m is. ap (λ b. option_map (v.Named k) (g b)) is ∙ ap (option_map (v.Named k)) (selects m))
        (λ k e. ap (option_map (v.Named k)) (none (base_of types k) e)) n)
        ∙ picked f all
        ∙ ap (option_and_then f) (lone_same (all_sorts types) all kept s (λ k. is_some (f k)) both_take (class_ascends types sought (unrenamed types n)))
        ∙ sym (picked f kept)

  select_form : (f : Value-F tree.Value) (n : ℕ) → by_form f (Select n) ≡ None
  select_form Value-F.Unset n = refl
  select_form Value-F.Derived n = refl
  select_form (Value-F.Integer token) n = refl
  select_form (Value-F.Real token) n = refl
  select_form (Value-F.Text token) n = refl
  select_form (Value-F.Item token) n = refl
  select_form (Value-F.Binary token) n = refl
  select_form (Value-F.Reference name) n = refl
  select_form (Value-F.List xs) n = refl
  select_form (Value-F.Typed keyword x) n = refl

  pub tokens_kept : (x : tree.Value) (n : ℕ) (kept : List ℕ) → StandForClass types (class_of x) n kept
      → only (filter_map (by_choice types (alone types x)) (choices types n)) ≡ only (filter_map (by_choice types (alone types x)) kept)
  tokens_kept x n kept s =
      let f = tree.out-Value x in
      ap (λ g. only (filter_map (by_choice types g) (choices types n))) (formed x)
      ∙ kept_only (class_of x) (by_form f) (select_form f) (none_by_form f) (λ b c e same. as_its_sort f b e ∙ ap (λ t. by_form f (of_sort t)) same ∙ sym (as_its_sort f c (sym (ap suffices same) ∙ e))) n kept s
      ∙ ap (λ g. only (filter_map (by_choice types g) kept)) (sym (formed x))

  -- what is taken of an item, by its name
  pub items_kept_only : (x : tree.Value) (token : List ℕ) (n : ℕ) (kept : List ℕ) → x ≡ t.Item token → StandForClass types class.Items n kept
      → (alone types x ≡ of_item types (str_to_ascii_uppercase token))
      × (only (filter_map (by_choice types (alone types x)) (choices types n)) ≡ only (filter_map (by_choice types (alone types x)) kept))
  items_kept_only x token n kept is s =
      let form : tree.out-Value x ≡ Value-F.Item token = ap tree.out-Value (is ∙ sym (t.rolls-Item token)) ∙ views.out-roll-Value (Value-F.Item token) in
      (formed x ∙ ap by_form form, tokens_kept x n kept (subst (λ f. StandForClass types (class_by f) n kept) (sym form) s))
