-- What a set takes of two sayings that are joined, from what it takes of each.
use Rattle.std.proofs.Common.{if◌then◌else◌, ◌≡◌, ℕ, Bool, true, false, not, ◌&&◌, ◌||◌, ◌==◌, List, [], ◌∷◌, ◌++◌, map, ⊎_elim, refl, sym, ◌∙◌, ap}
use Rattle.std.proofs.lemmas.Bool.{cases_Bool, eq-eqb}
use Rattle.std.proofs.lemmas.List.Folds.{list_any-append, list_all-append}
use Rattle.std.specs.List.{AllByRecursion, list_any}
use Rattle.plain_data.specs.Numbers.{is_among}
use Rattle.plain_data.proofs.Numbers.{is_among-append}
use Rattle.graphs.proofs.Sets.{or_right, either as one_of_two}
use Rattle.ex_subtypes.specs.declared.choices.Choice.{Choice}
use Rattle.ex_subtypes.specs.declared.choices.Choice.TheVariants.{Nothing, Combination, Neither}
use Rattle.ex_subtypes.specs.Combinations.{Saying, unions, either, both, either_or_both, same, agrees, touches, is_combination, taken}
use Rattle.ex_subtypes.specs.Walks.{either_choice, both_choice, either_or_both_choice}

-- no number is in both
abbrev pub Apart : List ℕ → List ℕ → Type 0
Apart xs ys = (n : ℕ) → is_among xs n ≡ true → is_among ys n ≡ false

turned : (xs ys : List ℕ) → Apart xs ys → Apart ys xs
turned xs ys apart n h = ⊎_elim
    (λ (there : is_among xs n ≡ true). let none = apart n there in cc)
    (λ (other : is_among xs n ≡ false). other)
    (cases_Bool (is_among xs n))

-- a combination of some of the entities that are named
pub record IsOf (named combination : List ℕ) : Type 0 where
  pub within : (n : ℕ) → is_among combination n ≡ true → is_among named n ≡ true
  pub some : list_any (is_among combination) named ≡ true

-- ---- one combination, and the names of one side

not_or : (a b : Bool) → (not a && not b) ≡ not (a || b)
not_or true b = refl
not_or false b = refl

head : (x : ℕ) (xs : List ℕ) → is_among (x ∷ xs) x ≡ true
head x xs = rw (eq-eqb x x refl) refl

-- a combination that has none of the names agrees where the set has none of them
agrees-without : (set named c : List ℕ) → ((n : ℕ) → is_among named n ≡ true → is_among c n ≡ false) → agrees set named c ≡ not (list_any (is_among set) named)
agrees-without set [] c none = refl
agrees-without set (x ∷ named) c none =
    let rest = agrees-without set named c (λ n h. none n (or_right (x == n) (is_among named n) h)) in
    rw (none x (head x named), rest) (not_or (is_among set x) (list_any (is_among set) named))

-- combinations that have the same of the names agree alike
agrees-same : (set named c d : List ℕ) → ((n : ℕ) → is_among named n ≡ true → is_among c n ≡ is_among d n) → agrees set named c ≡ agrees set named d
agrees-same set [] c d alike = refl
agrees-same set (x ∷ named) c d alike =
    rw (alike x (head x named), agrees-same set named c d (λ n h. alike n (or_right (x == n) (is_among named n) h))) refl

or_false : (a b : Bool) → b ≡ false → (a || b) ≡ a
or_false true b e = refl
or_false false b e = e

-- what agrees and has some of the names has one that the set has
agrees-touches : (set named c : List ℕ) → agrees set named c ≡ true → list_any (is_among c) named ≡ true → list_any (is_among set) named ≡ true
agrees-touches set [] c e some = some
agrees-touches set (x ∷ named) c e some = by_head (is_among c x) (is_among set x) _ _ _ e some (agrees-touches set named c)
  where
    by_head : (a b rest tail seen : Bool) → (same a b && rest) ≡ true → (a || tail) ≡ true → (rest ≡ true → tail ≡ true → seen ≡ true) → (b || seen) ≡ true
    by_head true true rest tail seen e some go = refl
    by_head true false rest tail seen e some go = cc
    by_head false true rest tail seen e some go = refl
    by_head false false rest tail seen e some go = go e some

-- ---- all combinations of one side, against the names of both

module _ (set named others : List ℕ) (apart : Apart named others) where
  none_of : (c : List ℕ) → IsOf named c → (n : ℕ) → is_among others n ≡ true → is_among c n ≡ false
  none_of c is n there = ⊎_elim
      (λ (h : is_among c n ≡ true). let not_there = apart n (is.within n h) in cc)
      (λ (h : is_among c n ≡ false). h)
      (cases_Bool (is_among c n))

  agrees-first : (c : List ℕ) → IsOf named c → agrees set (named ++ others) c ≡ (agrees set named c && not (list_any (is_among set) others))
  agrees-first c is =
      list_all-append (λ n. same (is_among c n) (is_among set n)) named others
      ∙ ap (λ b. agrees set named c && b) (agrees-without set others c (none_of c is))

  agrees-second : (c : List ℕ) → IsOf named c → agrees set (others ++ named) c ≡ (agrees set named c && not (list_any (is_among set) others))
  agrees-second c is =
      list_all-append (λ n. same (is_among c n) (is_among set n)) others named
      ∙ ap (λ b. b && agrees set named c) (agrees-without set others c (none_of c is))
      ∙ and_turn (not (list_any (is_among set) others)) (agrees set named c)
    where
      and_turn : (a b : Bool) → (a && b) ≡ (b && a)
      and_turn true true = refl
      and_turn true false = refl
      and_turn false true = refl
      and_turn false false = refl

pub or_and : (a b k : Bool) → ((a && k) || (b && k)) ≡ ((a || b) && k)
or_and true true true = refl
or_and true true false = refl
or_and true false k = or_false k false refl
or_and false true k = refl
or_and false false k = refl

-- a test that is another and a third, for each element
list_any-and : {X : Type 0} (P : X → Type 0) (f g : X → Bool) (k : Bool) → ((x : X) → P x → f x ≡ (g x && k)) → (xs : List X) → AllByRecursion P xs → list_any f xs ≡ (list_any g xs && k)
list_any-and P f g k is [] all = refl
list_any-and P f g k is (x ∷ xs) all = rw (is x all.0, list_any-and P f g k is xs all.1) (or_and (g x) (list_any g xs) k)

and_or : (a b c : Bool) → ((a && b) || (a && c)) ≡ (a && (b || c))
and_or true b c = refl
and_or false b c = refl

-- ---- unions

module _ (f g h : List ℕ → Bool) where
  any_union_of : (P : List ℕ → Type 0) (a : List ℕ) → ((b : List ℕ) → P b → f (a ++ b) ≡ (g a && h b)) → (right : List (List ℕ)) → AllByRecursion P right
      → list_any f (map (λ b. a ++ b) right) ≡ (g a && list_any h right)
  any_union_of P a is [] all = sym (none (g a))
    where
      none : (b : Bool) → (b && false) ≡ false
      none true = refl
      none false = refl
  any_union_of P a is (b ∷ right) all = rw (is b all.0, any_union_of P a is right all.1) (and_or (g a) (h b) (list_any h right))

  any_unions : (P Q : List ℕ → Type 0) → ((a b : List ℕ) → P a → Q b → f (a ++ b) ≡ (g a && h b)) → (left right : List (List ℕ)) → AllByRecursion P left → AllByRecursion Q right
      → list_any f (unions left right) ≡ (list_any g left && list_any h right)
  any_unions P Q is [] right ps qs = refl
  any_unions P Q is (a ∷ left) right ps qs =
      rw (list_any-append f (map (λ b. a ++ b) right) (unions left right), any_union_of Q a (λ b q. is a b ps.0 q) right qs, any_unions P Q is left right ps.1 qs) (or_and (g a) (list_any g left) (list_any h right))

agrees-union : (set xs ys a b : List ℕ) → Apart xs ys → IsOf xs a → IsOf ys b → agrees set (xs ++ ys) (a ++ b) ≡ (agrees set xs a && agrees set ys b)
agrees-union set xs ys a b apart of_xs of_ys =
    list_all-append (λ n. same (is_among (a ++ b) n) (is_among set n)) xs ys
    ∙ ap (λ t. t && agrees set ys (a ++ b)) (agrees-same set xs (a ++ b) a (λ n h. is_among-append a b n ∙ or_false (is_among a n) (is_among b n) (none_of set ys xs (turned xs ys apart) b of_ys n h)))
    ∙ ap (λ t. agrees set xs a && t) (agrees-same set ys (a ++ b) b (λ n h. is_among-append a b n ∙ ap (λ t. t || is_among b n) (none_of set xs ys apart a of_xs n h)))

-- ---- sayings

-- every combination is some of the entities that are named
abbrev pub IsSound : Saying → Type 0
IsSound p = AllByRecursion (IsOf p.named) p.combinations

-- a combination is a choice among the names
combination-touches : (set named : List ℕ) (combinations : List (List ℕ)) → AllByRecursion (IsOf named) combinations → list_any (agrees set named) combinations ≡ true → list_any (is_among set) named ≡ true
combination-touches set named [] all e = cc
combination-touches set named (c ∷ combinations) all e = ⊎_elim
    (λ (here : agrees set named c ≡ true). agrees-touches set named c here all.0.some)
    (λ (there : list_any (agrees set named) combinations ≡ true). combination-touches set named combinations all.1 there)
    (one_of_two (agrees set named c) (list_any (agrees set named) combinations) e)

-- what the tests of two sayings give for the three ways to join them
abbrev by_tests : Bool → Bool → Choice
by_tests touched chosen = if touched then (if chosen then Combination else Neither) else Nothing

table_either : (tp cp tq cq : Bool) → (cp ≡ true → tp ≡ true) → (cq ≡ true → tq ≡ true) → by_tests (tp || tq) ((cp && not tq) || (cq && not tp)) ≡ either_choice (by_tests tp cp) (by_tests tq cq)
table_either true true true cq p q = elim cq as (λ v. by_tests true (v && false) ≡ either_choice Combination (by_tests true v)) [ true ↦ refl | false ↦ refl ]
table_either true true false true p q = let t = q refl in cc
table_either true true false false p q = refl
table_either true false true true p q = refl
table_either true false true false p q = refl
table_either true false false true p q = let t = q refl in cc
table_either true false false false p q = refl
table_either false true tq cq p q = let t = p refl in cc
table_either false false true true p q = refl
table_either false false true false p q = refl
table_either false false false true p q = let t = q refl in cc
table_either false false false false p q = refl

table_both : (tp cp tq cq : Bool) → (cp ≡ true → tp ≡ true) → (cq ≡ true → tq ≡ true) → by_tests (tp || tq) (cp && cq) ≡ both_choice (by_tests tp cp) (by_tests tq cq)
table_both true true true true p q = refl
table_both true true true false p q = refl
table_both true true false true p q = let t = q refl in cc
table_both true true false false p q = refl
table_both true false true true p q = refl
table_both true false true false p q = refl
table_both true false false true p q = let t = q refl in cc
table_both true false false false p q = refl
table_both false true tq cq p q = let t = p refl in cc
table_both false false true true p q = refl
table_both false false true false p q = refl
table_both false false false true p q = let t = q refl in cc
table_both false false false false p q = refl

table_either_or_both : (tp cp tq cq : Bool) → (cp ≡ true → tp ≡ true) → (cq ≡ true → tq ≡ true) → by_tests (tp || tq) ((cp && not tq) || (cq && not tp) || (cp && cq)) ≡ either_or_both_choice (by_tests tp cp) (by_tests tq cq)
table_either_or_both true true true true p q = refl
table_either_or_both true true true false p q = refl
table_either_or_both true true false true p q = let t = q refl in cc
table_either_or_both true true false false p q = refl
table_either_or_both true false true true p q = refl
table_either_or_both true false true false p q = refl
table_either_or_both true false false true p q = let t = q refl in cc
table_either_or_both true false false false p q = refl
table_either_or_both false true tq cq p q = let t = p refl in cc
table_either_or_both false false true true p q = refl
table_either_or_both false false true false p q = refl
table_either_or_both false false false true p q = let t = q refl in cc
table_either_or_both false false false false p q = refl

module _ (set : List ℕ) (p q : Saying) (sound_p : IsSound p) (sound_q : IsSound q) (apart : Apart p.named q.named) where
  touches-both : list_any (is_among set) (p.named ++ q.named) ≡ (touches set p || touches set q)
  touches-both = list_any-append (is_among set) p.named q.named

  of_first : list_any (agrees set (p.named ++ q.named)) p.combinations ≡ (is_combination set p && not (touches set q))
  of_first = list_any-and (IsOf p.named) (agrees set (p.named ++ q.named)) (agrees set p.named) (not (touches set q)) (agrees-first set p.named q.named apart) p.combinations sound_p

  of_second : list_any (agrees set (p.named ++ q.named)) q.combinations ≡ (is_combination set q && not (touches set p))
  of_second = list_any-and (IsOf q.named) (agrees set (p.named ++ q.named)) (agrees set q.named) (not (touches set p)) (agrees-second set q.named p.named (turned p.named q.named apart)) q.combinations sound_q

  of_unions : list_any (agrees set (p.named ++ q.named)) (unions p.combinations q.combinations) ≡ (is_combination set p && is_combination set q)
  of_unions = any_unions (agrees set (p.named ++ q.named)) (agrees set p.named) (agrees set q.named) (IsOf p.named) (IsOf q.named)
      (λ a b is_a is_b. agrees-union set p.named q.named a b apart is_a is_b) p.combinations q.combinations sound_p sound_q

  touched_p : is_combination set p ≡ true → touches set p ≡ true
  touched_p e = combination-touches set p.named p.combinations sound_p e

  touched_q : is_combination set q ≡ true → touches set q ≡ true
  touched_q e = combination-touches set q.named q.combinations sound_q e

  pub taken-either : taken set (either p q) ≡ either_choice (taken set p) (taken set q)
  taken-either =
      rw (touches-both, list_any-append (agrees set (p.named ++ q.named)) p.combinations q.combinations, of_first, of_second)
      (table_either (touches set p) (is_combination set p) (touches set q) (is_combination set q) touched_p touched_q)

  pub taken-both : taken set (both p q) ≡ both_choice (taken set p) (taken set q)
  taken-both = rw (touches-both, of_unions) (table_both (touches set p) (is_combination set p) (touches set q) (is_combination set q) touched_p touched_q)

  pub taken-either_or_both : taken set (either_or_both p q) ≡ either_or_both_choice (taken set p) (taken set q)
  taken-either_or_both =
      rw (
        touches-both,
        list_any-append (agrees set (p.named ++ q.named)) (p.combinations ++ q.combinations) (unions p.combinations q.combinations),
        list_any-append (agrees set (p.named ++ q.named)) p.combinations q.combinations,
        of_first,
        of_second,
        of_unions,
      )
      (table_either_or_both (touches set p) (is_combination set p) (touches set q) (is_combination set q) touched_p touched_q)
