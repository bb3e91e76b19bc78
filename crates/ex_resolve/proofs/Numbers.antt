-- Marks by number, and lists whose elements are numbered.
use Rattle.std.proofs.Common.{◌≡◌, ℕ, zero, suc, ◌+◌, ◌-◌, ◌<◌, ◌≤◌, List, [], ◌∷◌, ◌++◌, map, length, refl, sym, ap, ◌∙◌, append_assoc, length-append, slice_index_or, get_or, drop, arith}
use Rattle.std.proofs.Math.Seq.{drop-cons}
use Rattle.std.proofs.lemmas.List.{length-map}
use Rattle.plain_data.specs.Numbers.{numbered, numbered_from}
use Rattle.ex_tree.specs.declared.declaration.Entity.{Entity}
use Rattle.ex_tree.specs.declared.declaration.TypeDeclaration.{TypeDeclaration}
use Rattle.ex_named.specs.Scopes.{Declarations}
use Rattle.graphs.specs.Graphs.{numbers_from}
use Rattle.ex_declarations.specs.Declared.{supertype_graph, type_graph}

pub length-numbers : {A : Type 0} (f : ℕ → A) (start n : ℕ) → length (map f (numbers_from start n)) ≡ n
length-numbers f start zero = refl
length-numbers f start (suc n) = rw (length-numbers f (suc start) n) refl

index-at : {A : Type 0} (f : ℕ → A) (start n k : ℕ) (d : A) → k < n → slice_index_or (map f (numbers_from start n)) k d ≡ f (start + k)
index-at f start zero k d less = absurd (grind (arith, less))
index-at f start (suc n) zero d less = ap f (grind (arith))
index-at f start (suc n) (suc k) d less = index-at f (suc start) n k d (grind (arith, less)) ∙ ap f (grind (arith))

pub mark-at : {A : Type 0} (f : ℕ → A) (n k : ℕ) (d : A) → k < n → slice_index_or (map f (numbers_from 0 n)) k d ≡ f k
mark-at f n k d less = let e : 0 + k ≡ k = omega arith in index-at f 0 n k d less ∙ ap f e

pub length_numbered : {A B : Type 0} (make : ℕ → A → B) (k : ℕ) (xs : List A) → length (numbered_from make k xs) ≡ length xs
length_numbered make k [] = refl
length_numbered make k (x ∷ xs) = ap suc (length_numbered make (suc k) xs)

-- what an element gives with its number
numbered_from_at : {A B : Type 0} (make : ℕ → A → B) (start : ℕ) (xs : List A) (k : ℕ) (x : A) (d : B) → k < length xs → x ≡ slice_index_or xs k x
    → slice_index_or (numbered_from make start xs) k d ≡ make (start + k) x
numbered_from_at make start [] k x d less is = absurd (grind (arith, less))
numbered_from_at make start (y ∷ ys) zero x d less is = ap (make start) (sym is) ∙ ap (λ n. make n x) (grind (arith))
numbered_from_at make start (y ∷ ys) (suc k) x d less is = numbered_from_at make (suc start) ys k x d (grind (arith, less)) is ∙ ap (λ n. make n x) (grind (arith))

pub numbered_at : {A B : Type 0} (make : ℕ → A → B) (xs : List A) (k : ℕ) (x : A) (d : B) → k < length xs → x ≡ slice_index_or xs k x → slice_index_or (numbered make xs) k d ≡ make k x
numbered_at make xs k x d less is = numbered_from_at make zero xs k x d less is ∙ ap (λ n. make n x) (grind (arith))

pub numbered_past : {A B : Type 0} (make : ℕ → A → B) (start : ℕ) (xs : List A) (k : ℕ) (d : B) → length xs ≤ k → slice_index_or (numbered_from make start xs) k d ≡ d
numbered_past make start [] k d past = refl
numbered_past make start (y ∷ ys) zero d past = absurd (grind (arith, past))
numbered_past make start (y ∷ ys) (suc k) d past = numbered_past make (suc start) ys k d (grind (arith, past))

-- one list behind another is numbered on
pub numbered_append : {A B : Type 0} (make : ℕ → A → B) (k : ℕ) (xs ys : List A)
    → numbered_from make k (xs ++ ys) ≡ numbered_from make k xs ++ numbered_from make (k + length xs) ys
numbered_append make k [] ys = ap (λ n. numbered_from make n ys) (grind (arith))
numbered_append make k (x ∷ xs) ys = ap (λ l. make k x ∷ l) (numbered_append make (suc k) xs ys
    ∙ ap (λ n. numbered_from make (suc k) xs ++ numbered_from make n ys) (grind (arith)))

length_more : {A B : Type 0} (make : ℕ → A → B) (start : ℕ) (places more : List B) (own : List A)
    → more ≡ places ++ numbered_from make (length places - start) own → length more ≡ length places + length own
length_more make start places more own is = ap length is ∙ length-append places (numbered_from make (length places - start) own)
    ∙ ap (λ n. length places + n) (length_numbered make (length places - start) own)

-- elements that are put behind others, numbered from where theirs begin
pub seam : {A B : Type 0} (make : ℕ → A → B) (start : ℕ) (places more : List B) (own rest : List A)
    → start ≤ length places → more ≡ places ++ numbered_from make (length places - start) own
    → more ++ numbered_from make (length more - start) rest ≡ places ++ numbered_from make (length places - start) (own ++ rest)
seam make start places more own rest h is =
    let n : length more - start ≡ length places - start + length own = grind (arith, h, length_more make start places more own is) in
    ap (λ k. more ++ numbered_from make k rest) n
    ∙ ap (λ l. l ++ numbered_from make (length places - start + length own) rest) is
    ∙ append_assoc places (numbered_from make (length places - start) own) (numbered_from make (length places - start + length own) rest)
    ∙ ap (λ l. places ++ l) (sym (numbered_append make (length places - start) own rest))

pub seam_bound : {A B : Type 0} (make : ℕ → A → B) (start : ℕ) (places more : List B) (own : List A)
    → start ≤ length places → more ≡ places ++ numbered_from make (length places - start) own → start ≤ length more
seam_bound make start places more own h is = grind (arith, h, length_more make start places more own is)

-- the elements from this one on
pub at_item : {A : Type 0} (xs : List A) (i : ℕ) (x : A) → i < length xs → x ≡ get_or xs i x → drop i xs ≡ x ∷ drop (i + 1) xs
at_item xs i x within is = let e : suc i ≡ i + 1 = omega arith in drop-cons xs i x within ∙ ap (λ y. y ∷ drop (suc i) xs) (sym is) ∙ ap (λ k. x ∷ drop k xs) e

-- ---- each graph has a list for each declaration

pub held_length : (schema : Declarations) (held : List (List ℕ)) (types : List TypeDeclaration) → held ≡ type_graph schema types → length held ≡ length types
unfolding type_graph
held_length schema held types is = ap length is ∙ length-map types _

pub above_length : (schema : Declarations) (graph : List (List ℕ)) (entities : List Entity) → graph ≡ supertype_graph schema entities → length graph ≡ length entities
unfolding supertype_graph
above_length schema graph entities is = ap length is ∙ length-map entities _
