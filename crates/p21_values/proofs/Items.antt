-- What is taken of an item, by its name.
use Rattle.std.proofs.Common.{◌≡◌, ℕ, Bool, true, false, ◌||◌, ◌==◌, if◌then◌else◌, List, [], ◌∷◌, filter, Some, None, refl, sym, ◌∙◌, ap, arith}
use Rattle.std.proofs.lemmas.Bool.Decides.{nat_tests}
use Rattle.std.specs.Prelude.{is_some}
use Rattle.std.specs.List.{filter_map}
use Rattle.std.specs.Option.{option_and_then}
use Rattle.std.specs.Str.{bytes_eq, str_to_ascii_uppercase}
use Rattle.ex_tree.specs.declared.data_type.SimpleType.TheVariants as s
use Rattle.ex_named.specs.declared.declaration.NamedType.{NamedType}
use Rattle.name_tables.specs.Names.{first_of, place_of}
use Rattle.p21_tree.specs.declared.value.Value as tree
use Rattle.p21_tree.specs.declared.value.Value.TheVariants as t
use Rattle.rp_numbers.specs.declared.Logical.TheVariants as l
use Rattle.rp_value.specs.declared.value.Value.TheVariants as v
use Rattle.ex_selects.specs.Ends.{Base, Plain, Instance, Aggregate, Enumeration, Select, Nothing, base_of, choices}
use Rattle.ex_selects.specs.Items.{has_item, is_boolean, is_logical, items}
use Rattle.ex_selects.specs.Takers.{lone_of, only_taker, ByName, takes_item, AreTakersOf}
use Rattle.ex_selects.proofs.Firsts.{only_first}
use Rattle.p21_values.specs.Deciding.{alone}
use Rattle.p21_values.specs.Taking.{by_choice, of_item, only}
use Rattle.p21_values.specs.Tokens.{boolean, logical}
use Rattle.p21_values.proofs.Chosen.{items_kept_only}
use Rattle.p21_values.proofs.Decided.{mapped, picked}

no_longer : (k x y : ℕ) (more : List ℕ) → bytes_eq (k ∷ []) (x ∷ y ∷ more) ≡ false
no_longer k x y more = grind (arith, nat_tests)

-- which letters BOOLEAN and LOGICAL take, by three tests of which at most one holds
one_letter : (f t u : Bool) → (u ≡ true → (f || t) ≡ false)
    → (f || t) ≡ is_some (if u then None else if t then Some l.True else if f then Some l.False else if u then Some l.Unknown else None)
one_letter false false false apart = refl
one_letter false true false apart = refl
one_letter true false false apart = refl
one_letter true true false apart = refl
one_letter f t true apart = apart refl

any_letter : (f t u : Bool) → (u ≡ true → (f || t) ≡ false)
    → (is_some (if u then None else if t then Some l.True else if f then Some l.False else if u then Some l.Unknown else None) || u)
    ≡ is_some (if t then Some l.True else if f then Some l.False else if u then Some l.Unknown else None)
any_letter false false false apart = refl
any_letter false true false apart = refl
any_letter true false false apart = refl
any_letter true true false apart = refl
any_letter false false true apart = refl
any_letter f true true apart = let no = apart refl in cc
any_letter true false true apart = let no = apart refl in cc

no_other : (x : ℕ) → (x == 85) ≡ true → ((x == 70) || (x == 84)) ≡ false
no_other x is = grind (arith, nat_tests, is)

letter_is : (k x : ℕ) → bytes_eq (k ∷ []) (x ∷ []) ≡ (x == k)
letter_is k x = grind (arith, nat_tests)

boolean_item : (name : List ℕ) → is_boolean name ≡ is_some (boolean name)
boolean_item [] = refl
boolean_item (x ∷ []) =
    ap (λ b. b || bytes_eq (84 ∷ []) (x ∷ [])) (letter_is 70 x) ∙ ap (λ b. (x == 70) || b) (letter_is 84 x)
    ∙ one_letter (x == 70) (x == 84) (x == 85) (no_other x)
boolean_item (x ∷ y ∷ more) =
    ap (λ b. b || bytes_eq (84 ∷ []) (x ∷ y ∷ more)) (no_longer 70 x y more) ∙ no_longer 84 x y more

logical_more : (name : List ℕ) → (is_some (boolean name) || bytes_eq (85 ∷ []) name) ≡ is_some (logical name)
logical_more [] = refl
logical_more (x ∷ []) =
    ap (λ b. is_some (boolean (x ∷ [])) || b) (letter_is 85 x) ∙ any_letter (x == 70) (x == 84) (x == 85) (no_other x)
logical_more (x ∷ y ∷ more) = no_longer 85 x y more

logical_item : (name : List ℕ) → is_logical name ≡ is_some (logical name)
logical_item name = ap (λ b. b || bytes_eq (85 ∷ []) name) (boolean_item name) ∙ logical_more name

-- ---- items of types

module _ (types : List NamedType) where
  pub has_item_takes : (name : List ℕ) (base : Base) → has_item types name base ≡ is_some (of_item types name base)
  has_item_takes name (Plain s.Boolean) = boolean_item name ∙ sym (mapped v.Log (boolean name))
  has_item_takes name (Plain s.Logical) = logical_item name ∙ sym (mapped v.Log (logical name))
  has_item_takes name (Plain s.Integer) = refl
  has_item_takes name (Plain s.Number) = refl
  has_item_takes name (Plain s.Real) = refl
  has_item_takes name (Plain (s.String w)) = refl
  has_item_takes name (Plain (s.Binary w)) = refl
  has_item_takes name (Enumeration number) = sym (mapped (v.Item number) (place_of name (items types number)))
  has_item_takes name Instance = refl
  has_item_takes name (Aggregate kind low inner) = refl
  has_item_takes name (Select number) = refl
  has_item_takes name Nothing = refl

-- ---- the only one that takes an item

filter_same : (p q : ℕ → Bool) (xs : List ℕ) → ((k : ℕ) → p k ≡ q k) → filter p xs ≡ filter q xs
filter_same p q [] same = refl
filter_same p q (x ∷ xs) same = cc (same x, filter_same p q xs same)

pub item_known : (types : List NamedType) (x : tree.Value) (token : List ℕ) (n : ℕ) (takers : ByName) → x ≡ t.Item token → AreTakersOf types n takers
    → option_and_then (by_choice types (alone types x)) (only_taker (str_to_ascii_uppercase token) takers)
    ≡ only (filter_map (by_choice types (alone types x)) (choices types n))
item_known types x token n takers is of =
    let name = str_to_ascii_uppercase token in
    let f = by_choice types (alone types x) in
    let kept = items_kept_only types x token n of.kept is of.stand in
    let takes : (k : ℕ) → takes_item types name k ≡ is_some (f k) = λ k.
    has_item_takes types name (base_of types k) ∙ ap (λ g. is_some (g (base_of types k))) (sym kept.0) ∙ sym (mapped (v.Named k) (alone types x (base_of types k))) in
    ap (λ o. option_and_then f (lone_of o)) (of.tell name ∙ ap first_of (filter_same (takes_item types name) (λ k. is_some (f k)) of.kept takes))
    ∙ ap (option_and_then f) (sym (only_first (filter (λ k. is_some (f k)) of.kept)))
    ∙ sym (picked f of.kept) ∙ sym kept.1
