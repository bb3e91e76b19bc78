-- What is seen of the declarations of an attribute's name.
use Rattle.std.proofs.Common.{◌≡◌, ◌<◌, ◌+◌, ◌||◌, Bool, true, false, ℕ, suc, length, get_or, drop-cons, List, [], ◌∷◌, ◌++◌, take, drop, filter, None, Some, if◌then◌else◌, is_some, refl, sym, ◌∙◌, ap, arith}
use Rattle.std.specs.List.{flat_map, list_any}
use Rattle.std.proofs.lemmas.List.{take-append-drop}
use Rattle.std.proofs.lemmas.List.Elements.{filter-append}
use Rattle.ex_named.specs.declared.reference.AttributeMeaning.TheVariants as m
use Rattle.ex_named.specs.declared.reference.AttributePlace.{AttributePlace}
use Rattle.ex_named.specs.declared.reference.AttributeSort.{AttributeSort}
use Rattle.ex_named.specs.Scopes.{first, meaning_of}
use Rattle.ex_scopes.specs.declared.seen.Seen.{Seen}
use Rattle.ex_scopes.specs.declared.seen.Seen.TheVariants as s
use Rattle.ex_scopes.specs.Attributes.{meaning_if, stands, and_seen, seen_after, is_settled, told}
use Rattle.ex_scopes.specs.Sorts.{any_sort}

pub any_meaning : (places : List AttributePlace) → meaning_if any_sort places ≡ meaning_of places
any_meaning [] = refl
any_meaning (a ∷ others) = refl

pub some_meaning : (places : List AttributePlace) → is_some (meaning_of places) ≡ is_some (first places)
some_meaning [] = refl
some_meaning (a ∷ []) = refl
some_meaning (a ∷ b ∷ others) = refl

module _ (can_stand : AttributeSort → Bool) where
  stays : (sort : AttributeSort) (xs : List AttributePlace) → seen_after can_stand (s.Several sort true) xs ≡ s.Several sort true
  stays sort [] = refl
  stays sort (x ∷ xs) = stays sort xs

  -- what is settled stays as it is
  pub settled : (seen : Seen) (xs : List AttributePlace) → is_settled seen ≡ true → seen_after can_stand seen xs ≡ seen
  settled s.Nothing xs h = absurd cc
  settled (s.One a) xs h = absurd cc
  settled (s.Several sort true) xs h = stays sort xs
  settled (s.Several sort false) xs h = absurd cc

  pub seen_append : (xs : List AttributePlace) (seen : Seen) (ys : List AttributePlace) → seen_after can_stand seen (xs ++ ys) ≡ seen_after can_stand (seen_after can_stand seen xs) ys
  seen_append [] seen ys = refl
  seen_append (x ∷ xs) seen ys = seen_append xs (and_seen can_stand seen x) ys

  -- what each of some numbers has, one number further
  pub seen_next : (f : ℕ → List AttributePlace) (es : List ℕ) (i e : ℕ) (seen : Seen) → i < length es → get_or es i 0 ≡ e
      → seen_after can_stand (seen_after can_stand seen (f e)) (flat_map f (drop (i + 1) es)) ≡ seen_after can_stand seen (flat_map f (drop i es))
  seen_next f es i e seen within is =
      let one : suc i ≡ i + 1 = omega arith in
      let parts : drop i es ≡ e ∷ drop (i + 1) es = drop-cons es i 0 within ∙ ap (λ y. y ∷ drop (suc i) es) is ∙ ap (λ k. e ∷ drop k es) one in
      sym (seen_append (f e) seen (flat_map f (drop (i + 1) es))) ∙ ap (λ (l : List ℕ). seen_after can_stand seen (flat_map f l)) (sym parts)

  told_several : (sort : AttributeSort) (admitted : Bool) (xs : List AttributePlace)
      → told can_stand (seen_after can_stand (s.Several sort admitted) xs) ≡ (if admitted || list_any (stands can_stand sort) xs then Some m.Several else None)
  told_several sort true [] = refl
  told_several sort false [] = refl
  told_several sort true (x ∷ xs) = told_several sort true xs
  told_several sort false (x ∷ xs) = told_several sort (stands can_stand sort x) xs

  told_one : (a : AttributePlace) (b : Bool) → (if b then Some (m.One a) else None) ≡ (if b || false then Some (m.One a) else None)
  told_one a true = refl
  told_one a false = refl

  or_in_turn : (a b c : Bool) → ((a || b) || c) ≡ (a || (b || c))
  or_in_turn true b c = refl
  or_in_turn false b c = refl

  -- what is told once all are seen
  pub told_all : (xs : List AttributePlace) → told can_stand (seen_after can_stand s.Nothing xs) ≡ meaning_if can_stand xs
  told_all [] = refl
  told_all (a ∷ []) = told_one a (can_stand a.sort)
  told_all (a ∷ b ∷ xs) =
      told_several a.sort (can_stand a.sort || stands can_stand a.sort b) xs
      ∙ ap (λ t. if t then Some m.Several else None) (or_in_turn (can_stand a.sort) (stands can_stand a.sort b) (list_any (stands can_stand a.sort) xs))

  -- the first so many, and then the others
  pub seen_split : (seen : Seen) (keep : AttributePlace → Bool) (xs : List AttributePlace) (n : ℕ)
      → seen_after can_stand (seen_after can_stand seen (filter keep (take n xs))) (filter keep (drop n xs)) ≡ seen_after can_stand seen (filter keep xs)
  seen_split seen keep xs n = sym (seen_append (filter keep (take n xs)) seen (filter keep (drop n xs)))
      ∙ ap (seen_after can_stand seen) (sym (filter-append keep (take n xs) (drop n xs)) ∙ ap (filter keep) (take-append-drop n xs))
