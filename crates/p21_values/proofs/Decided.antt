-- Whether types take a value, from what is told of the types of elements.
use Rattle.std.proofs.Common.{◌≡◌, ℕ, zero, suc, ◌+◌, ◌<◌, min, Bool, true, false, ◌&&◌, ◌||◌, cond, if◌then◌else◌, List, [], ◌∷◌, ◌++◌, map, filter, length, take, drop, get_or, replicate, slice_get, Option, Some, None, option_map, refl, sym, ◌∙◌, ap, arith}
use Rattle.std.proofs.lemmas.List.{map-append, take_more, take_min}
use Rattle.std.specs.Prelude.{is_some}
use Rattle.std.specs.List.{filter_map, cons_option}
use Rattle.std.specs.Option.{option_map_or, option_and_then}
use Rattle.ex_named.specs.declared.declaration.NamedType.{NamedType}
use Rattle.p21_tree.specs.declared.value.Value as tree
use Rattle.rp_value.specs.declared.value.Value.{Value}
use Rattle.rp_value.specs.declared.value.Value.TheVariants as v
use Rattle.ex_selects.specs.declared.ends.Target as code
use Rattle.ex_selects.specs.Ends.{Target, Base, Plain, Instance, Aggregate, Enumeration, Select, Nothing, target, inside}
use Rattle.ex_selects.specs.Seen.{seen_target}
use Rattle.p21_values.specs.Taking.{Meaning, place, meaning, only, with_first, all_there, of_list, is_that, named_by, chosen}
use Rattle.ex_selects.specs.Kept.{single}
use Rattle.ex_selects.specs.Levels.{element}
use Rattle.p21_values.specs.Deciding.{takes, takes_each, both, at, chooses, may_name}

pub mapped : {A B : Type 0} (f : A → B) (o : Option A) → is_some (option_map f o) ≡ is_some o
mapped f None = refl
mapped f (Some x) = refl

and_true : (a : Bool) → (a && true) ≡ a
and_true true = refl
and_true false = refl

and_false : (a : Bool) → (a && false) ≡ false
and_false true = refl
and_false false = refl

and_assoc : (a b c : Bool) → (a && (b && c)) ≡ ((a && b) && c)
and_assoc true b c = refl
and_assoc false b c = refl

-- ---- keywords

under_name : (number : ℕ) (is_chosen : Bool) (o : Option Value)
    → is_some (if is_chosen then option_map (v.Named number) o else None) ≡ (is_some o && is_chosen)
under_name number true o = mapped (v.Named number) o ∙ sym (and_true (is_some o))
under_name number false o = sym (and_false (is_some o))

chosen_decided : (types : List NamedType) (m : Meaning) (number : ℕ) (base : Base)
    → is_some (chosen types m number base) ≡ (is_some (m.fit (inside types number)) && chooses types number base)
chosen_decided types m number (Select select) = under_name number _ (m.fit (inside types number))
chosen_decided types m number (Plain simple) = sym (and_false (is_some (m.fit (inside types number))))
chosen_decided types m number Instance = sym (and_false (is_some (m.fit (inside types number))))
chosen_decided types m number (Aggregate kind low inner) = sym (and_false (is_some (m.fit (inside types number))))
chosen_decided types m number (Enumeration other) = sym (and_false (is_some (m.fit (inside types number))))
chosen_decided types m number Nothing = sym (and_false (is_some (m.fit (inside types number))))

named_with : (types : List NamedType) (m : Meaning) (number : ℕ) (is_named : Bool) (base : Base)
    → is_some (if is_named then m.fit (inside types number) else chosen types m number base)
    ≡ (is_some (m.fit (inside types number)) && (is_named || chooses types number base))
named_with types m number true base = sym (and_true (is_some (m.fit (inside types number))))
named_with types m number false base = chosen_decided types m number base

named_decided : (types : List NamedType) (m : Meaning) (number : ℕ) (t : Target)
    → is_some (named_by types m (Some number) t) ≡ (is_some (m.fit (inside types number)) && may_name types (Some number) t)
named_decided types m number t = named_with types m number (is_that types t.name number) t.base

pub each_named : (types : List NamedType) (m : Meaning) (number : ℕ) (ts : List code.Target)
    → map (λ t. is_some (m.fit (inside types number)) && may_name types (Some number) (seen_target t)) ts
    ≡ map (λ t. is_some (named_by types m (Some number) (seen_target t))) ts
each_named types m number [] = refl
each_named types m number (t ∷ ts) = cc (named_decided types m number (seen_target t), each_named types m number ts)

pub none_named : (types : List NamedType) (m : Meaning) (ts : List code.Target)
    → map (λ t. false && may_name types (Some 0) (seen_target t)) ts ≡ map (λ t. is_some (named_by types m None (seen_target t))) ts
none_named types m [] = refl
none_named types m (t ∷ ts) = ap (λ bs. false ∷ bs) (none_named types m ts)

-- ---- a list

first_decided : (o : Option Value) (os : Option (List Value)) (b : Bool) → is_some os ≡ b → is_some (with_first o os) ≡ (is_some o && b)
first_decided None os b e = refl
first_decided (Some x) os b e = mapped (λ (xs : List Value). x ∷ xs) os ∙ e

all_decided : (ms : List Meaning) (t : Target) → is_some (all_there (map (λ m. place m t) ms)) ≡ takes_each ms t
all_decided [] t = refl
all_decided (m ∷ ms) t = first_decided (place m t) (all_there (map (λ m. place m t) ms)) (takes_each ms t) (all_decided ms t)

pub list_decided : (types : List NamedType) (ms : List Meaning) (base : Base)
    → is_some (of_list types ms base) ≡ option_map_or (takes_each ms) (element types base) false
list_decided types ms (Aggregate kind low inner) =
    mapped (λ (xs : List Value). v.Agg kind (record { low = low; items = xs })) (all_there (map (λ m. place m (target types inner)) ms))
    ∙ all_decided ms (target types inner)
list_decided types ms (Plain simple) = refl
list_decided types ms Instance = refl
list_decided types ms (Enumeration number) = refl
list_decided types ms (Select number) = refl
list_decided types ms Nothing = refl

-- ---- just one of several

abbrev pub is_empty : {A : Type 0} → List A → Bool
is_empty [] = true
is_empty (x ∷ xs) = false

-- what was found before others
abbrev pub single_after : {A : Type 0} → Option A → List A → Option A
single_after None ks = single ks
single_after (Some k) ks = single (k ∷ ks)

pub found_twice : {A : Type 0} (o : Option A) (k : A) (ks : List A) → is_some o ≡ true → single_after o (k ∷ ks) ≡ None
found_twice None k ks e = cc
found_twice (Some j) k ks e = refl

pub found_next : {A : Type 0} (o : Option A) (k : A) (ks : List A) → is_some o ≡ false → single_after (Some k) ks ≡ single_after o (k ∷ ks)
found_next None k ks e = refl
found_next (Some j) k ks e = cc

-- ---- groups

pub taken_group : (n : ℕ) (bs : List Bool) → take (min n (length bs)) bs ≡ take n bs
taken_group n bs = take_min n bs

pub after_group : (n : ℕ) (bs : List Bool) → drop (min n (length bs)) bs ≡ drop n bs
after_group zero bs = let none : min 0 (length bs) ≡ 0 = omega arith in ap (λ k. drop k bs) none
after_group (suc n) [] = let none : min (suc n) 0 ≡ 0 = omega arith in ap (λ k. drop k []) none
after_group (suc n) (b ∷ bs) =
    let less : min (suc n) (length (b ∷ bs)) ≡ suc (min n (length bs)) = omega arith in
    ap (λ k. drop k (b ∷ bs)) less ∙ after_group n bs

-- ---- places

pub at_found : (P : Target → Bool) (ds : List code.Target) (place : ℕ) (t : Target)
    → slice_get (map seen_target ds) place ≡ Some t → at (map (λ d. P (seen_target d)) ds) place ≡ P t
at_found P [] place t e = cc
at_found P (d ∷ ds) zero t e = let same : seen_target d ≡ t = cc in ap P same
at_found P (d ∷ ds) (suc place) t e = at_found P ds place t e

-- ---- one value more

pub all_true : {A : Type 0} (xs : List A) → replicate (length xs) true ≡ map (λ x. true) xs
all_true [] = refl
all_true (x ∷ xs) = ap (λ bs. true ∷ bs) (all_true xs)

each_more : (ms : List Meaning) (m : Meaning) (t : Target) → (takes_each ms t && takes m t) ≡ takes_each (ms ++ m ∷ []) t
each_more [] m t = sym (and_true (takes m t))
each_more (x ∷ ms) m t = sym (and_assoc (takes x t) (takes_each ms t) (takes m t)) ∙ ap (λ b. takes x t && b) (each_more ms m t)

both_more : (ms : List Meaning) (m : Meaning) (ts : List code.Target)
    → both (map (λ t. takes_each ms (seen_target t)) ts) (map (λ t. takes m (seen_target t)) ts)
    ≡ map (λ t. takes_each (ms ++ m ∷ []) (seen_target t)) ts
both_more ms m [] = refl
both_more ms m (t ∷ ts) = cc (each_more ms m (seen_target t), both_more ms m ts)

pub narrowed : (types : List NamedType) (vs : List tree.Value) (i : ℕ) (x : tree.Value) (ts : List code.Target) (taken also : List Bool)
    → i < length vs → x ≡ get_or vs i x → taken ≡ map (λ t. takes_each (map (meaning types) (take i vs)) (seen_target t)) ts
    → also ≡ map (λ t. takes (meaning types x) (seen_target t)) ts
    → both taken also ≡ map (λ t. takes_each (map (meaning types) (take (i + 1) vs)) (seen_target t)) ts
narrowed types vs i x ts taken also within is before now =
    let further : map (meaning types) (take (i + 1) vs) ≡ map (meaning types) (take i vs) ++ meaning types x ∷ [] =
    ap (map (meaning types)) (take_more vs i x within) ∙ map-append (meaning types) (take i vs) (get_or vs i x ∷ [])
    ∙ ap (λ y. map (meaning types) (take i vs) ++ meaning types y ∷ []) (sym is) in
    ap (λ bs. both bs also) before ∙ ap (both (map (λ t. takes_each (map (meaning types) (take i vs)) (seen_target t)) ts)) now
    ∙ both_more (map (meaning types) (take i vs)) (meaning types x) ts
    ∙ ap (λ ms. map (λ t. takes_each ms (seen_target t)) ts) (sym further)

-- ---- the only one of the defined types

module _ {A : Type 0} (f : A → Option Value) where
  same_empty_at : (k : A) (o : Option Value) (ys : List Value) (cs : List A) → is_empty ys ≡ is_empty cs → is_empty (cons_option o ys) ≡ is_empty (cond (is_some o) (k ∷ cs) cs)
  same_empty_at k None ys cs e = e
  same_empty_at k (Some x) ys cs e = refl

  same_empty : (ks : List A) → is_empty (filter_map f ks) ≡ is_empty (filter (λ k. is_some (f k)) ks)
  same_empty [] = refl
  same_empty (k ∷ ks) = same_empty_at k (f k) (filter_map f ks) (filter (λ k. is_some (f k)) ks) (same_empty ks)

  found_first : (k : A) (x : Value) (ys : List Value) (cs : List A) → f k ≡ Some x → is_empty ys ≡ is_empty cs → only (x ∷ ys) ≡ option_and_then f (single (k ∷ cs))
  found_first k x [] [] e n = sym e
  found_first k x [] (c ∷ cs) e n = cc
  found_first k x (y ∷ ys) [] e n = cc
  found_first k x (y ∷ ys) (c ∷ cs) e n = refl

  picked_at : (k : A) (o : Option Value) (ys : List Value) (cs : List A) → f k ≡ o → is_empty ys ≡ is_empty cs → only ys ≡ option_and_then f (single cs)
      → only (cons_option o ys) ≡ option_and_then f (single (cond (is_some o) (k ∷ cs) cs))
  picked_at k None ys cs h n e = e
  picked_at k (Some x) ys cs h n e = found_first k x ys cs h n

  pub picked : (ks : List A) → only (filter_map f ks) ≡ option_and_then f (single (filter (λ k. is_some (f k)) ks))
  picked [] = refl
  picked (k ∷ ks) = picked_at k (f k) (filter_map f ks) (filter (λ k. is_some (f k)) ks) refl (same_empty ks) (picked ks)
