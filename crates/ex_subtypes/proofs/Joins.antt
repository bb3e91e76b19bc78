-- What a set takes of several sayings that are joined, one after the other.
use Rattle.std.proofs.Common.{◌≡◌, ℕ, Bool, true, false, ◌||◌, ◌==◌, if◌then◌else◌, List, [], ◌∷◌, ◌++◌, map, fold, ⊎_elim, refl, sym, ◌∙◌, ap, subst, append_assoc, append-nil}
use Rattle.std.proofs.lemmas.Bool.{cases_Bool, eq-eqb, eqb-true}
use Rattle.std.specs.List.{flat_map}
use Rattle.plain_data.specs.Numbers.{is_among}
use Rattle.plain_data.proofs.Numbers.{is_among-append}
use Rattle.ex_subtypes.specs.declared.choices.Choice.{Choice}
use Rattle.ex_subtypes.specs.declared.choices.Choice.TheVariants.{Nothing, Combination}
use Rattle.ex_subtypes.specs.declared.choices.Connective.{Connective}
use Rattle.ex_subtypes.specs.declared.choices.Connective.TheVariants.{OneOf, And, AndOr}
use Rattle.ex_named.specs.declared.declaration.NamedSupertype.{NamedSupertype}
use Rattle.ex_named.specs.declared.declaration.NamedSupertype.TheOpen.{NamedSupertype-F}
use Rattle.ex_named.specs.declared.declaration.NamedSupertype.TheVariants as s
use Rattle.ex_named.specs.declared.declaration.NamedSupertype.TheFolds.{fold-roll-NamedSupertype, ind-NamedSupertype, map-NamedSupertype}
use Rattle.ex_named.specs.declared.declaration.NamedSupertype.TheViews.{roll-NamedSupertype}
use Rattle.ex_subtypes.specs.Combinations.{Saying, nothing, one, layer, saying, names, join, joined, taken, is_distinct}
use Rattle.ex_subtypes.specs.Walks.{join_choices, walk_layer, walked}
use Rattle.ex_subtypes.proofs.Taking.{Apart, IsSound, taken-either, taken-both, taken-either_or_both}
use Rattle.ex_subtypes.proofs.Soundness.{saying_roll, sound, sound-join}

-- ---- names that stand once

pub new_head : (x : ℕ) (xs : List ℕ) → is_distinct (x ∷ xs) ≡ true → (is_among xs x ≡ false) × (is_distinct xs ≡ true)
new_head x xs e = by_test (is_among xs x) (is_distinct xs) e
  where
    by_test : (a b : Bool) → (if a then false else b) ≡ true → (a ≡ false) × (b ≡ true)
    by_test true b e = cc
    by_test false b e = (refl, e)

neither : (a b : Bool) → (a || b) ≡ false → (a ≡ false) × (b ≡ false)
neither true b e = cc
neither false b e = (refl, e)

-- names that are distinct in both lists, and apart
pub record Parted (xs ys : List ℕ) : Type 0 where
  pub first : is_distinct xs ≡ true
  pub second : is_distinct ys ≡ true
  pub apart : Apart xs ys

pub parted : (xs ys : List ℕ) → is_distinct (xs ++ ys) ≡ true → Parted xs ys
parted [] ys e = record { first = refl; second = e; apart = λ n h. cc }
parted (x ∷ xs) ys e =
    let new = new_head x (xs ++ ys) e in
    let none = neither (is_among xs x) (is_among ys x) (sym (is_among-append xs ys x) ∙ new.0) in
    let rest = parted xs ys new.1 in
    record {
      first = rw none.0 rest.first;
      second = rest.second;
      apart = λ n h. ⊎_elim
          (λ (here : (x == n) ≡ true). rw (← eqb-true x n here) none.1)
          (λ (there : (x == n) ≡ false). rest.apart n (later (x == n) (is_among xs n) there h))
          (cases_Bool (x == n));
    }
  where
    later : (a b : Bool) → a ≡ false → (a || b) ≡ true → b ≡ true
    later true b e h = cc
    later false b e h = h

-- ---- joined

module _ (set : List ℕ) where
  pub taken-join : (way : Connective) (p q : Saying) → IsSound p → IsSound q → Apart p.named q.named → taken set (join way p q) ≡ join_choices way (taken set p) (taken set q)
  taken-join OneOf p q sp sq apart = taken-either set p q sp sq apart
  taken-join And p q sp sq apart = taken-both set p q sp sq apart
  taken-join AndOr p q sp sq apart = taken-either_or_both set p q sp sq apart

  pub named-join : (way : Connective) (p q : Saying) → (join way p q).named ≡ p.named ++ q.named
  named-join OneOf p q = refl
  named-join And p q = refl
  named-join AndOr p q = refl

  pub taken-fold : (way : Connective) (p : Saying) (xs : List NamedSupertype) → IsSound p → is_distinct (p.named ++ flat_map names xs) ≡ true
      → fold (join_choices way) (taken set p) (map (λ x. taken set (saying x)) xs) ≡ taken set (fold (join way) p (map saying xs))
  taken-fold way p [] sp e = refl
  taken-fold way p (x ∷ xs) sp e =
      let more : is_distinct ((p.named ++ names x) ++ flat_map names xs) ≡ true = rw append_assoc e in
      let apart = (parted p.named (names x) (parted (p.named ++ names x) (flat_map names xs) more).first).apart in
      let one = taken-join way p (saying x) sp (sound x) apart in
      let distinct : is_distinct ((join way p (saying x)).named ++ flat_map names xs) ≡ true = rw (named-join way p (saying x)) more in
      ap (λ c. fold (join_choices way) c (map (λ x. taken set (saying x)) xs)) (sym one)
      ∙ taken-fold way (join way p (saying x)) xs (sound-join way p (saying x) sp (sound x)) distinct

named-fold : (way : Connective) (p : Saying) (xs : List NamedSupertype) → (fold (join way) p (map saying xs)).named ≡ p.named ++ flat_map names xs
named-fold way p [] = sym (append-nil p.named)
named-fold way p (x ∷ xs) = named-fold way (join way p (saying x)) xs ∙ ap (λ l. l ++ flat_map names xs) (named-join [] way p (saying x)) ∙ append_assoc p.named (names x) (flat_map names xs)

pub named-joined : (way : Connective) (xs : List NamedSupertype) → (joined nothing (join way) (map saying xs)).named ≡ flat_map names xs
named-joined way [] = refl
named-joined way (x ∷ xs) = named-fold way (saying x) xs

taken-joined : (set : List ℕ) (way : Connective) (xs : List NamedSupertype) → is_distinct (flat_map names xs) ≡ true
    → joined Nothing (join_choices way) (map (λ x. taken set (saying x)) xs) ≡ taken set (joined nothing (join way) (map saying xs))
taken-joined set way [] e = refl
taken-joined set way (x ∷ xs) e = taken-fold set way (saying x) xs (sound x) e

-- ---- the walk

-- a walk through an expression that names no entity twice
abbrev IsTaken : List ℕ → NamedSupertype → Type 0
IsTaken set x = is_distinct (names x) ≡ true → walked set x ≡ taken set (saying x)

pub walked_roll : (set : List ℕ) (x : NamedSupertype-F NamedSupertype) → walked set (roll-NamedSupertype x) ≡ walk_layer set (map-NamedSupertype NamedSupertype Choice (walked set) x)
unfolding walked
walked_roll set x = fold-roll-NamedSupertype Choice (walk_layer set) x

module _ (set : List ℕ) where
  all_taken : (ps : List ((x : NamedSupertype) × IsTaken set x)) → is_distinct (flat_map names (map (λ e. e.0) ps)) ≡ true
      → map (walked set) (map (λ e. e.0) ps) ≡ map (λ x. taken set (saying x)) (map (λ e. e.0) ps)
  all_taken [] e = refl
  all_taken (p ∷ ps) e =
      let both = parted (names p.0) (flat_map names (map (λ e. e.0) ps)) e in
      rw (p.1 both.first, all_taken ps both.second) refl

  joined_taken : (way : Connective) (ps : List ((x : NamedSupertype) × IsTaken set x)) → is_distinct (joined nothing (join way) (map saying (map (λ e. e.0) ps))).named ≡ true
      → joined Nothing (join_choices way) (map (walked set) (map (λ e. e.0) ps)) ≡ taken set (joined nothing (join way) (map saying (map (λ e. e.0) ps)))
  joined_taken way ps e =
      let distinct : is_distinct (flat_map names (map (λ e. e.0) ps)) ≡ true = rw (named-joined way (map (λ e. e.0) ps)) at e in
      ap (joined Nothing (join_choices way)) (all_taken ps distinct) ∙ taken-joined set way (map (λ e. e.0) ps) distinct

  one_taken : (e : ℕ) → (b : Bool) → is_among set e ≡ b → (if is_among set e then Combination else Nothing) ≡ taken set (one e)
  one_taken e true has = rw (has, eq-eqb e e refl) refl
  one_taken e false has = rw has refl

  layer_taken : (y : NamedSupertype-F ((x : NamedSupertype) × IsTaken set x)) → (let x : NamedSupertype-F NamedSupertype = map-NamedSupertype ((x : NamedSupertype) × IsTaken set x) NamedSupertype (λ e. e.0) y in
      is_distinct (layer (map-NamedSupertype NamedSupertype Saying saying x)).named ≡ true → walk_layer set (map-NamedSupertype NamedSupertype Choice (walked set) x) ≡ taken set (layer (map-NamedSupertype NamedSupertype Saying saying x)))
  layer_taken (NamedSupertype-F.Entity e at) distinct = one_taken e (is_among set e) refl
  layer_taken (NamedSupertype-F.OneOf ps) distinct = joined_taken OneOf ps distinct
  layer_taken (NamedSupertype-F.And ps) distinct = joined_taken And ps distinct
  layer_taken (NamedSupertype-F.AndOr ps) distinct = joined_taken AndOr ps distinct

  pub walked_is : (x : NamedSupertype) → is_distinct (names x) ≡ true → walked set x ≡ taken set (saying x)
  walked_is = ind-NamedSupertype (IsTaken set) (λ x y is distinct.
      let P : NamedSupertype-F NamedSupertype → Type 0 = λ z.
      is_distinct (layer (map-NamedSupertype NamedSupertype Saying saying z)).named ≡ true → walk_layer set (map-NamedSupertype NamedSupertype Choice (walked set) z) ≡ taken set (layer (map-NamedSupertype NamedSupertype Saying saying z)) in
      let distinct_layer : is_distinct (layer (map-NamedSupertype NamedSupertype Saying saying x)).named ≡ true = ap (λ p. is_distinct p.named) (sym (saying_roll x)) ∙ distinct in
      walked_roll set x ∙ subst P is (layer_taken y) distinct_layer ∙ ap (taken set) (sym (saying_roll x)))

-- ---- the walk by the forms of an expression

module _ (set : List ℕ) where
  pub walked-Entity : (x : NamedSupertype) (e at : ℕ) (b : Bool) → x ≡ s.Entity e at → is_among set e ≡ b → walked set x ≡ (if b then Combination else Nothing)
  walked-Entity x e at b is has = ap (walked set) is ∙ ap (walked set) (sym (s.rolls-Entity e at)) ∙ walked_roll set (NamedSupertype-F.Entity e at) ∙ rw has refl

  pub walked-OneOf : (x : NamedSupertype) (parts : List NamedSupertype) → x ≡ s.OneOf parts → walked set x ≡ joined Nothing (join_choices OneOf) (map (walked set) parts)
  walked-OneOf x parts is = ap (walked set) is ∙ ap (walked set) (sym (s.rolls-OneOf parts)) ∙ walked_roll set (NamedSupertype-F.OneOf parts)

  pub walked-And : (x : NamedSupertype) (parts : List NamedSupertype) → x ≡ s.And parts → walked set x ≡ joined Nothing (join_choices And) (map (walked set) parts)
  walked-And x parts is = ap (walked set) is ∙ ap (walked set) (sym (s.rolls-And parts)) ∙ walked_roll set (NamedSupertype-F.And parts)

  pub walked-AndOr : (x : NamedSupertype) (parts : List NamedSupertype) → x ≡ s.AndOr parts → walked set x ≡ joined Nothing (join_choices AndOr) (map (walked set) parts)
  walked-AndOr x parts is = ap (walked set) is ∙ ap (walked set) (sym (s.rolls-AndOr parts)) ∙ walked_roll set (NamedSupertype-F.AndOr parts)
