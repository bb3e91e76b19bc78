-- The combinations of an expression are of the entities that it names.
use Rattle.std.proofs.Common.{◌≡◌, ℕ, Bool, true, false, ◌||◌, List, [], ◌∷◌, ◌++◌, map, fold, ⊎_elim, refl, sym, ◌∙◌, subst}
use Rattle.std.proofs.lemmas.Bool.{eq-eqb}
use Rattle.std.proofs.lemmas.List.Folds.{list_any-append}
use Rattle.std.specs.List.{AllByRecursion, list_any}
use Rattle.plain_data.specs.Numbers.{is_among}
use Rattle.graphs.proofs.Sets.{or_left, or_right, in_first, in_second, in_either}
use Rattle.ex_subtypes.specs.declared.choices.Connective.{Connective}
use Rattle.ex_subtypes.specs.declared.choices.Connective.TheVariants.{OneOf, And, AndOr}
use Rattle.ex_named.specs.declared.declaration.NamedSupertype.{NamedSupertype}
use Rattle.ex_named.specs.declared.declaration.NamedSupertype.TheFolds.{fold-roll-NamedSupertype, ind-NamedSupertype, map-NamedSupertype}
use Rattle.ex_named.specs.declared.declaration.NamedSupertype.TheViews.{roll-NamedSupertype}
use Rattle.ex_named.specs.declared.declaration.NamedSupertype.TheOpen.{NamedSupertype-F}
use Rattle.ex_subtypes.specs.Combinations.{Saying, nothing, either, both, either_or_both, unions, join, joined, saying, layer}
use Rattle.ex_subtypes.proofs.Taking.{IsOf, IsSound}

-- ---- a combination of more names

list_any-more : (f g : ℕ → Bool) → ((n : ℕ) → f n ≡ true → g n ≡ true) → (xs : List ℕ) → list_any f xs ≡ true → list_any g xs ≡ true
list_any-more f g more [] e = cc
list_any-more f g more (x ∷ xs) e = by_head (f x) (g x) (list_any f xs) (list_any g xs) e (more x) (list_any-more f g more xs)
  where
    by_head : (a b t u : Bool) → (a || t) ≡ true → (a ≡ true → b ≡ true) → (t ≡ true → u ≡ true) → (b || u) ≡ true
    by_head true b t u e here there = or_left b u (here refl)
    by_head false b t u e here there = or_right b u (there e)

of_first : (xs ys c : List ℕ) → IsOf xs c → IsOf (xs ++ ys) c
of_first xs ys c is = record {
  within = λ n h. in_first xs ys n (is.within n h);
  some = list_any-append (is_among c) xs ys ∙ or_left (list_any (is_among c) xs) (list_any (is_among c) ys) is.some;
}

of_second : (xs ys c : List ℕ) → IsOf ys c → IsOf (xs ++ ys) c
of_second xs ys c is = record {
  within = λ n h. in_second xs ys n (is.within n h);
  some = list_any-append (is_among c) xs ys ∙ or_right (list_any (is_among c) xs) (list_any (is_among c) ys) is.some;
}

of_union : (xs ys a b : List ℕ) → IsOf xs a → IsOf ys b → IsOf (xs ++ ys) (a ++ b)
of_union xs ys a b is_a is_b = record {
  within = λ n h. ⊎_elim (λ h. in_first xs ys n (is_a.within n h)) (λ h. in_second xs ys n (is_b.within n h)) (in_either a b n h);
  some =
      list_any-append (is_among (a ++ b)) xs ys
      ∙ or_left (list_any (is_among (a ++ b)) xs) (list_any (is_among (a ++ b)) ys) (list_any-more (is_among a) (is_among (a ++ b)) (λ n h. in_first a b n h) xs is_a.some);
}

-- ---- all of several

all_map : {X Y : Type 0} (P : X → Type 0) (Q : Y → Type 0) (f : X → Y) → ((x : X) → P x → Q (f x)) → (xs : List X) → AllByRecursion P xs → AllByRecursion Q (map f xs)
all_map P Q f go [] all = tt
all_map P Q f go (x ∷ xs) all = (go x all.0, all_map P Q f go xs all.1)

all_same : {X : Type 0} (P Q : X → Type 0) → ((x : X) → P x → Q x) → (xs : List X) → AllByRecursion P xs → AllByRecursion Q xs
all_same P Q go [] all = tt
all_same P Q go (x ∷ xs) all = (go x all.0, all_same P Q go xs all.1)

all_append : {X : Type 0} (P : X → Type 0) (xs ys : List X) → AllByRecursion P xs → AllByRecursion P ys → AllByRecursion P (xs ++ ys)
all_append P [] ys left right = right
all_append P (x ∷ xs) ys left right = (left.0, all_append P xs ys left.1 right)

-- ---- the three ways to join

all_unions : (xs ys : List ℕ) (left right : List (List ℕ)) → AllByRecursion (IsOf xs) left → AllByRecursion (IsOf ys) right → AllByRecursion (IsOf (xs ++ ys)) (unions left right)
all_unions xs ys [] right ps qs = tt
all_unions xs ys (a ∷ left) right ps qs =
    all_append (IsOf (xs ++ ys)) (map (λ b. a ++ b) right) (unions left right)
    (all_map (IsOf ys) (IsOf (xs ++ ys)) (λ b. a ++ b) (λ b q. of_union xs ys a b ps.0 q) right qs)
    (all_unions xs ys left right ps.1 qs)

module _ (p q : Saying) (sound_p : IsSound p) (sound_q : IsSound q) where
  all_first : AllByRecursion (IsOf (p.named ++ q.named)) p.combinations
  all_first = all_same (IsOf p.named) (IsOf (p.named ++ q.named)) (of_first p.named q.named) p.combinations sound_p

  all_second : AllByRecursion (IsOf (p.named ++ q.named)) q.combinations
  all_second = all_same (IsOf q.named) (IsOf (p.named ++ q.named)) (of_second p.named q.named) q.combinations sound_q

  pub sound-either : IsSound (either p q)
  sound-either = all_append (IsOf (p.named ++ q.named)) p.combinations q.combinations all_first all_second

  pub sound-both : IsSound (both p q)
  sound-both = all_unions p.named q.named p.combinations q.combinations sound_p sound_q

  pub sound-either_or_both : IsSound (either_or_both p q)
  sound-either_or_both = all_append (IsOf (p.named ++ q.named)) (p.combinations ++ q.combinations) (unions p.combinations q.combinations) sound-either sound-both

-- a way to join that keeps sayings sound
abbrev pub KeepsSound : (Saying → Saying → Saying) → Type 0
KeepsSound join = (p q : Saying) → IsSound p → IsSound q → IsSound (join p q)

pub sound-join : (way : Connective) → KeepsSound (join way)
sound-join OneOf = sound-either
sound-join And = sound-both
sound-join AndOr = sound-either_or_both

pub sound-fold : (join : Saying → Saying → Saying) → KeepsSound join → (p : Saying) (ps : List Saying) → IsSound p → AllByRecursion IsSound ps → IsSound (fold join p ps)
sound-fold join keeps p [] is all = is
sound-fold join keeps p (q ∷ ps) is all = sound-fold join keeps (join p q) ps (keeps p q is all.0) all.1

sound-joined : (join : Saying → Saying → Saying) → KeepsSound join → (ps : List Saying) → AllByRecursion IsSound ps → IsSound (joined nothing join ps)
sound-joined join keeps [] all = tt
sound-joined join keeps (p ∷ ps) all = sound-fold join keeps p ps all.0 all.1

-- ---- whole expressions

all_sound : (ps : List ((x : NamedSupertype) × IsSound (saying x))) → AllByRecursion IsSound (map saying (map (λ e. e.0) ps))
all_sound [] = tt
all_sound (p ∷ ps) = (p.1, all_sound ps)

of_one : (e : ℕ) → IsOf (e ∷ []) (e ∷ [])
of_one e = record { within = λ n h. h; some = rw (eq-eqb e e refl) refl }

-- one layer, whose parts are sound
layer_sound : (y : NamedSupertype-F ((x : NamedSupertype) × IsSound (saying x))) → IsSound (layer (map-NamedSupertype NamedSupertype Saying saying (map-NamedSupertype ((x : NamedSupertype) × IsSound (saying x)) NamedSupertype (λ e. e.0) y)))
layer_sound (NamedSupertype-F.Entity e at) = (of_one e, tt)
layer_sound (NamedSupertype-F.OneOf ps) = sound-joined (join OneOf) (sound-join OneOf) (map saying (map (λ e. e.0) ps)) (all_sound ps)
layer_sound (NamedSupertype-F.And ps) = sound-joined (join And) (sound-join And) (map saying (map (λ e. e.0) ps)) (all_sound ps)
layer_sound (NamedSupertype-F.AndOr ps) = sound-joined (join AndOr) (sound-join AndOr) (map saying (map (λ e. e.0) ps)) (all_sound ps)

-- an expression is the layer of what its parts say
pub saying_roll : (x : NamedSupertype-F NamedSupertype) → saying (roll-NamedSupertype x) ≡ layer (map-NamedSupertype NamedSupertype Saying saying x)
unfolding saying
saying_roll x = fold-roll-NamedSupertype Saying layer x

pub sound : (x : NamedSupertype) → IsSound (saying x)
sound = ind-NamedSupertype (λ x. IsSound (saying x)) (λ x y is.
    let P : NamedSupertype-F NamedSupertype → Type 0 = λ z. IsSound (layer (map-NamedSupertype NamedSupertype Saying saying z)) in
    subst IsSound (sym (saying_roll x)) (subst P is (layer_sound y)))
