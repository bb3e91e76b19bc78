-- Things in buckets: among those of its bucket something is found where it is among all.
use Rattle.std.proofs.Common.{◌≡◌, ℕ, zero, suc, ◌<◌, ◌≢◌, ◌==◌, ◌%◌, ◌||◌, Bool, true, false, List, [], ◌∷◌, ◌++◌, filter, length, replicate, slice_set, if◌then◌else◌, refl, sym, ap, ◌∙◌, subst, append-nil, arith}
use Rattle.std.proofs.lemmas.Bool.{eqb-true, eq-eqb}
use Rattle.std.proofs.lemmas.Bool.Decides.{nat_tests}
use Rattle.std.proofs.lemmas.List.{get_or-set_same, get_or-set_other, length-set, map-append}
use Rattle.std.proofs.lemmas.List.Elements.{All-cons, All-head, All-nil, All-tail, filter-append}
use Rattle.std.proofs.lemmas.Nat.{mod_below}
use Rattle.std.specs.Borrow.{Bor}
use Rattle.std.specs.List.{All, list_any}
use Rattle.rp_operations.specs.Operations.{is_same}
use Rattle.rp_faults.specs.Buckets.{AreEmpty, Holds, all_now, bucket, is_in, put, sharing}
use Rattle.rp_faults.specs.Keys.{key_of}
use Rattle.rp_faults.proofs.Sharing.{same-key}
use Rattle.rp_value.specs.declared.value.Value.{Value}

pub bucket-empty : {A : Type 0} (n number : ℕ) → bucket {A = A} (replicate n []) number ≡ []
bucket-empty zero number = refl
bucket-empty (suc n) zero = refl
bucket-empty (suc n) (suc number) = bucket-empty n number

pub length-put : {A : Type 0} (bs : List (List A)) (key : ℕ) (x : A) → length (put bs key x) ≡ length bs
length-put bs key x = length-set bs (key % length bs) (sharing bs key ++ x ∷ [])

pub room-more : {A : Type 0} (bs new : List (List A)) (key : ℕ) (x : A) → new ≡ put bs key x → 0 < length bs → 0 < length new
room-more bs new key x is room = let many : length new ≡ length bs = ap length is ∙ length-put bs key x in omega (arith, many, room)

kept : {A : Type 0} (a b rest all : Bool) → (a ≡ true → b ≡ true) → rest ≡ all → (x : A) (p : A → Bool) (xs : List A) → p x ≡ a → list_any p xs ≡ rest → list_any p (if b then x ∷ xs else xs) ≡ (a || all)
kept true true rest all h is x p xs px at = rw px refl
kept true false rest all h is x p xs px at = let never : false ≡ true = h refl in absurd (cc)
kept false true rest all h is x p xs px at = rw px (at ∙ is)
kept false false rest all h is x p xs px at = at ∙ is

module _ {A : Type 0} (key : A → ℕ) where
  pub holds-none : (bs : List (List (Bor A))) → AreEmpty bs → Holds key bs []
  holds-none bs none number = ap all_now (none number)

  put-by : (bs : List (List (Bor A))) (n number : ℕ) (xs : List A) (x : Bor A) (t : Bool) → (n == number) ≡ t → n < length bs
      → all_now (bucket bs number) ≡ filter (is_in key (length bs) number) xs
      → all_now (bucket (slice_set bs n (bucket bs n ++ x ∷ [])) number) ≡ filter (is_in key (length bs) number) xs ++ (if t then x.now ∷ [] else [])
  put-by bs n number xs x true is h held =
      let same : n ≡ number = eqb-true n number is in
      ap all_now (ap (λ (k : ℕ). bucket (slice_set bs n (bucket bs n ++ x ∷ [])) k) (sym same) ∙ get_or-set_same bs n (bucket bs n ++ x ∷ []) [] h)
      ∙ map-append (λ (x : Bor A). x.now) (bucket bs n) (x ∷ [])
      ∙ ap (λ (k : ℕ). all_now (bucket bs k) ++ x.now ∷ []) same
      ∙ ap (λ (xs : List A). xs ++ x.now ∷ []) held
  put-by bs n number xs x false is h held =
      let other : number ≢ n = grind (arith, nat_tests, is) in
      ap all_now (get_or-set_other bs n number (bucket bs n ++ x ∷ []) [] other)
      ∙ held ∙ sym (append-nil (filter (is_in key (length bs) number) xs))

  one-if : (passes : A → Bool) (x : A) (t : Bool) → passes x ≡ t → (if t then x ∷ [] else []) ≡ filter passes (x ∷ [])
  one-if passes x true is = rw is refl
  one-if passes x false is = rw is refl

  pub holds-put : (bs : List (List (Bor A))) (xs : List A) (x : Bor A) → 0 < length bs → Holds key bs xs → Holds key (put bs (key x.now) x) (xs ++ x.now ∷ [])
  holds-put bs xs x room held number =
      put-by bs (key x.now % length bs) number xs x (key x.now % length bs == number) refl (mod_below (key x.now) (length bs) room) (held number)
      ∙ ap (λ (more : List A). filter (is_in key (length bs) number) xs ++ more) (one-if (is_in key (length bs) number) x.now (key x.now % length bs == number) refl)
      ∙ sym (filter-append (is_in key (length bs) number) xs (x.now ∷ []))
      ∙ ap (λ (n : ℕ). filter (is_in key n number) (xs ++ x.now ∷ [])) (sym (length-put bs (key x.now) x))

  -- with one more
  pub holds-more : (bs new : List (List (Bor A))) (k : ℕ) (x : Bor A) (xs more : List A) → new ≡ put bs k x → k ≡ key x.now → 0 < length bs → Holds key bs xs → xs ++ x.now ∷ [] ≡ more → Holds key new more
  holds-more bs new k x xs more is of-key room held all =
      subst (λ (made : List (List (Bor A))). Holds key made more) (sym (is ∙ ap (λ (k : ℕ). put bs k x) of-key))
      (subst (λ (ys : List A). Holds key (put bs (key x.now) x) ys) all (holds-put bs xs x room held))

  in-one : (n k : ℕ) (x : A) → key x ≡ k → is_in key n (k % n) x ≡ true
  in-one n k x is = ap (λ (m : ℕ). m % n == k % n) is ∙ eq-eqb (k % n) (k % n) refl

  -- where all that pass have this key
  pub any-sharing : (P : A → Type 0) (passes : A → Bool) (n k : ℕ) (xs : List A) → ((x : A) → P x → passes x ≡ true → key x ≡ k) → All P xs
      → list_any passes (filter (is_in key n (k % n)) xs) ≡ list_any passes xs
  any-sharing P passes n k [] h all = refl
  any-sharing P passes n k (x ∷ xs) h all =
      kept (passes x) (is_in key n (k % n) x) (list_any passes (filter (is_in key n (k % n)) xs)) (list_any passes xs) (λ is. in-one n k x (h x (All-head P x xs all) is))
      (any-sharing P passes n k xs h (All-tail P x xs all)) x passes (filter (is_in key n (k % n)) xs) refl refl

  pub any-among : (P : A → Type 0) (passes : A → Bool) (k : ℕ) (bs : List (List (Bor A))) (xs : List A) → ((x : A) → P x → passes x ≡ true → key x ≡ k) → All P xs → Holds key bs xs
      → list_any passes (all_now (sharing bs k)) ≡ list_any passes xs
  any-among P passes k bs xs h all held = ap (list_any passes) (held (k % length bs)) ∙ any-sharing P passes (length bs) k xs h all

always : {A : Type 0} (xs : List A) → All (λ x. x ≡ x) xs
always [] = All-nil (λ x. x ≡ x)
always (x ∷ xs) = All-cons (λ x. x ≡ x) x xs refl (always xs)

-- values are so in the buckets of their keys
pub among-sharing : (x : Value) (bs : List (List (Bor Value))) (xs : List Value) → Holds key_of bs xs → list_any (is_same x) (all_now (sharing bs (key_of x))) ≡ list_any (is_same x) xs
among-sharing x bs xs held = any-among key_of (λ y. y ≡ y) (is_same x) (key_of x) bs xs (λ y same h. sym (same-key x y h)) (always xs) held
