-- Rows whose items stand in one list: the last item of one, and one item more.
use Rattle.std.proofs.Common.{◌≡◌, ℕ, zero, suc, ◌<◌, ◌≤◌, ◌≢◌, Option, Some, None, List, [], ◌∷◌, ◌++◌, length, replicate, ◌-◌, get_or, slice_get, slice_set, IfSome, refl, sym, ◌∙◌, ap, arith, subst}
use Rattle.std.proofs.lemmas.List.{length_push, map-set}
use Rattle.std.proofs.lemmas.Option.{IfSome_then, slice_get-map, slice_get_past, slice_get_read}
use Rattle.std.specs.Option.{option_map, option_map_or}
use Rattle.rp_domain.specs.Chains.{chain, row_to, rows, AreLinked, AreEnds}
use Rattle.rp_domain.specs.Rows.{put, row}

same-part : {X Y : Type 0} (o : Option X) (f g : X → Y) (y : Y) → IfSome o (λ x. f x ≡ g x) → option_map_or f o y ≡ option_map_or g o y
same-part None f g y h = refl
same-part (Some x) f g y h = h

get-front : {X : Type 0} (xs : List X) (x : X) (k : ℕ) → k < length xs → slice_get (xs ++ x ∷ []) k ≡ slice_get xs k
get-front [] x k h = absurd (omega (arith, h))
get-front (y ∷ ys) x zero h = refl
get-front (y ∷ ys) x (suc k) h = get-front ys x k (omega (arith, h))

get-last : {X : Type 0} (xs : List X) (x : X) → slice_get (xs ++ x ∷ []) (length xs) ≡ Some x
get-last [] x = refl
get-last (y ∷ ys) x = get-last ys x

-- what holds of each by its place holds still where one more is kept of which it holds
kept-at : {X : Type 0} (P : ℕ → X → Type 0) (xs : List X) (x : X) → ((k : ℕ) → IfSome (slice_get xs k) (P k)) → P (length xs) x → (k : ℕ) → IfSome (slice_get (xs ++ x ∷ []) k) (P k)
kept-at P [] x all here zero = here
kept-at P [] x all here (suc k) = tt
kept-at P (y ∷ ys) x all here zero = all zero
kept-at P (y ∷ ys) x all here (suc k) = kept-at (λ j. P (suc j)) ys x (λ j. all (suc j)) here k

end-within : (count : ℕ) (ends : List ℕ) → AreEnds count ends → (number end : ℕ) → number < length ends → end ≡ get_or ends number end → end ≤ count
end-within count [] within number end h is = absurd (omega (arith, h))
end-within count (e ∷ ends) within zero end h is = let first : e ≤ count = within zero in omega (arith, is, first)
end-within count (e ∷ ends) within (suc number) end h is = end-within count ends (λ k. within (suc k)) number end (omega (arith, h)) is

module _ {A : Type 0} where
  -- more steps than items change nothing
  enough : (links : List (A × ℕ)) → AreLinked links → (n m end : ℕ) → end ≤ n → end ≤ m → chain links n end ≡ chain links m end
  unfolding chain
  enough links linked zero zero end h w = refl
  enough links linked zero (suc m) zero h w = refl
  enough links linked zero (suc m) (suc at) h w = absurd (omega (arith, h))
  enough links linked (suc n) zero zero h w = refl
  enough links linked (suc n) zero (suc at) h w = absurd (omega (arith, w))
  enough links linked (suc n) (suc m) zero h w = refl
  enough links linked (suc n) (suc m) (suc at) h w =
      same-part (slice_get links at) (λ x. chain links n x.1 ++ x.0 ∷ []) (λ x. chain links m x.1 ++ x.0 ∷ []) []
      (IfSome_then (slice_get links at) (linked at) (λ x k. ap (λ xs. xs ++ x.0 ∷ []) (enough links linked n m x.1 (omega (arith, h, k)) (omega (arith, w, k)))))

  last-item : (links : List (A × ℕ)) → AreLinked links → (at : ℕ) (x : A × ℕ) → slice_get links at ≡ Some x → (row_to links (suc at) ≡ row_to links x.1 ++ x.0 ∷ []) × (x.1 < suc at)
  unfolding chain
  last-item links linked at x is =
      let within : x.1 ≤ at = subst (λ o. IfSome o (λ y. y.1 ≤ at)) is (linked at) in
      (ap (λ o. option_map_or (λ y. chain links at y.1 ++ y.0 ∷ []) o []) is ∙ ap (λ xs. xs ++ x.0 ∷ []) (enough links linked at x.1 x.1 within (omega arith)), omega (arith, within))

  -- the last item of a row
  pub last_link : (links : List (A × ℕ)) → AreLinked links → (end at : ℕ) → at ≡ end - 1 → end ≢ 0 → end ≤ length links → (x : A × ℕ) → x ≡ get_or links at x
      → (row_to links end ≡ row_to links x.1 ++ x.0 ∷ []) × (x.1 < end)
  last_link links linked end at before some w x is =
      let next : end ≡ suc at = omega (arith, before, some) in
      rw next (last-item links linked at x (slice_get_read links (length links) at x refl (omega (arith, next, w)) is))

  -- behind all items there is none
  pub no_link : (links : List (A × ℕ)) (end : ℕ) → length links < end → row_to links end ≡ []
  unfolding chain
  no_link links zero h = absurd (omega (arith, h))
  no_link links (suc at) h = ap (λ o. option_map_or (λ y. chain links at y.1 ++ y.0 ∷ []) o []) (slice_get_past links at (omega (arith, h)))

  pub empty-row : (links : List (A × ℕ)) (end : ℕ) → end ≡ 0 → row_to links end ≡ []
  unfolding chain
  empty-row links end is = rw is refl

  -- one item more changes no row that ends before it
  more : (links : List (A × ℕ)) (x : A × ℕ) → AreLinked links → (n end : ℕ) → end ≤ length links → chain (links ++ x ∷ []) n end ≡ chain links n end
  unfolding chain
  more links x linked zero end h = refl
  more links x linked (suc n) zero h = refl
  more links x linked (suc n) (suc at) h =
      ap (λ o. option_map_or (λ y. chain (links ++ x ∷ []) n y.1 ++ y.0 ∷ []) o []) (get-front links x at (omega (arith, h)))
      ∙ same-part (slice_get links at) (λ y. chain (links ++ x ∷ []) n y.1 ++ y.0 ∷ []) (λ y. chain links n y.1 ++ y.0 ∷ []) []
      (IfSome_then (slice_get links at) (linked at) (λ y k. ap (λ ys. ys ++ y.0 ∷ []) (more links x linked n y.1 (omega (arith, h, k)))))

  pub linked-more : (links : List (A × ℕ)) (x : A) (end : ℕ) → AreLinked links → end ≤ length links → AreLinked (links ++ (x, end) ∷ [])
  linked-more links x end linked h = kept-at (λ k y. y.1 ≤ k) links (x, end) linked h

  rows-more : (links : List (A × ℕ)) (x : A × ℕ) → AreLinked links → (ends : List ℕ) → AreEnds (length links) ends → rows (links ++ x ∷ []) ends ≡ rows links ends
  rows-more links x linked [] within = refl
  rows-more links x linked (end ∷ ends) within =
      ap (λ r. r ∷ rows (links ++ x ∷ []) ends) (more links x linked end end (within zero)) ∙ ap (λ rs. row_to links end ∷ rs) (rows-more links x linked ends (λ k. within (suc k)))

  row-of : (links : List (A × ℕ)) (ends : List ℕ) (number end : ℕ) → number < length ends → end ≡ get_or ends number end → row (rows links ends) number ≡ row_to links end
  row-of links [] number end h is = absurd (omega (arith, h))
  row-of links (e ∷ ends) zero end h is = ap (row_to links) (sym is)
  row-of links (e ∷ ends) (suc number) end h is = row-of links ends number end (omega (arith, h)) is

  put-step : (links : List (A × ℕ)) (ends : List ℕ) (number end : ℕ) (x : A) → AreLinked links → AreEnds (length links) ends → end ≤ length links → number < length ends → end ≡ get_or ends number end
      → rows (links ++ (x, end) ∷ []) (slice_set ends number (suc (length links))) ≡ put (rows links ends) number x
  put-step links ends number end x linked within h w is =
      let all = links ++ (x, end) ∷ [] in
      let last : row_to all (suc (length links)) ≡ row (rows links ends) number ++ x ∷ [] =
      (last-item all (linked-more links x end linked h) (length links) (x, end) (get-last links (x, end))).0
      ∙ ap (λ xs. xs ++ x ∷ []) (more links (x, end) linked end end h ∙ sym (row-of links ends number end w is)) in
      map-set (row_to all) ends number (suc (length links))
      ∙ ap (λ rs. slice_set rs number (row_to all (suc (length links)))) (rows-more links (x, end) linked ends within)
      ∙ ap (slice_set (rows links ends) number) last

  pub put_more : (links all : List (A × ℕ)) (ends : List ℕ) (number end count : ℕ) (x : A) → AreLinked links → AreEnds (length links) ends → number < length ends → end ≡ get_or ends number end
      → all ≡ links ++ (x, end) ∷ [] → count ≡ length all → rows all (slice_set ends number count) ≡ put (rows links ends) number x
  put_more links all ends number end count x linked within w is grown many =
      let h : end ≤ length links = end-within (length links) ends within number end w is in
      let as-many : count ≡ suc (length links) = let n = ap length grown in let m = length_push links (x, end) in omega (arith, many, n, m) in
      rw (grown, as-many) (put-step links ends number end x linked within h w is)

  -- a row by its place
  pub row_at : (links : List (A × ℕ)) (ends : List ℕ) (at end : ℕ) → Some end ≡ slice_get ends at → Some (row_to links end) ≡ slice_get (rows links ends) at
  row_at links ends at end is = ap (option_map (row_to links)) is ∙ sym (slice_get-map (row_to links) ends at)

  pub no_row : (links : List (A × ℕ)) (ends : List ℕ) (at : ℕ) → None ≡ slice_get ends at → None ≡ slice_get (rows links ends) at
  no_row links ends at is = ap (option_map (row_to links)) is ∙ sym (slice_get-map (row_to links) ends at)

  pub no-links : (count : ℕ) → rows {A = A} [] (replicate count 0) ≡ replicate count []
  unfolding chain
  no-links zero = refl
  no-links (suc count) = ap (λ rs. [] ∷ rs) (no-links count)

pub ends-more : (count : ℕ) (ends : List ℕ) → AreEnds count ends → (number : ℕ) → AreEnds (suc count) (slice_set ends number (suc count))
ends-more count [] within number k = tt
ends-more count (e ∷ ends) within zero zero = omega arith
ends-more count (e ∷ ends) within zero (suc k) = IfSome_then (slice_get ends k) (within (suc k)) (λ end h. omega (arith, h))
ends-more count (e ∷ ends) within (suc number) zero = let first : e ≤ count = within zero in omega (arith, first)
ends-more count (e ∷ ends) within (suc number) (suc k) = ends-more count ends (λ j. within (suc j)) number k

pub no-ends : (count n : ℕ) → AreEnds count (replicate n 0)
no-ends count zero k = tt
no-ends count (suc n) zero = omega arith
no-ends count (suc n) (suc k) = no-ends count n k
