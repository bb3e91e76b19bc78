-- Names that differ are declared once.
use Rattle.std.proofs.Common.{◌≡◌, ℕ, Bool, true, false, List, [], ◌∷◌, ◌++◌, map, None, Ok, is_some, refl, ap, ◌∙◌, subst, IsTrue, arith, Bor}
use Rattle.std.specs.Ordering.{is_lt, eq_by_cmp}
use Rattle.std.specs.declared.cmp.Ordering.{Ordering}
use Rattle.std.specs.declared.cmp.Ordering.TheVariants.{Less, Equal, Greater}
use Rattle.std.specs.Cmp.Lexicographic.{on_texts}
use Rattle.std.specs.Cmp.{IsTotalOrder}
use Rattle.std.specs.List.{IsDistinct, AllByRecursion, IsAllAdjacentAnswer, list_any}
use Rattle.std.specs.List.Sorted.{IsStrictlySortedBy, IsPermutation}
use Rattle.std.specs.Str.{bytes_eq}
use Rattle.std.proofs.lemmas.Map.Keys.{IsDistinct-from_sorted, IsDistinct-IsPermutation, IsDistinct-head, IsDistinct-tail, sorted_from_all_adjacent}
use Rattle.std.proofs.lemmas.List.Sorted.{IsPermutation-sym}
use Rattle.std.proofs.lemmas.Map.Text.{is_eq-slice_cmp}
use Rattle.std.proofs.lemmas.Cmp.{eq_by_cmp_equiv}
use Rattle.ex_tree.specs.declared.expression.Name.{Name}
use Rattle.name_tables.specs.Names.{place_of, bytes_of, by_lent_bytes}
use Rattle.name_tables.proofs.Places.{place_of-push}
use Rattle.ex_declarations.specs.Declared as spec

pub any_named : (name : List ℕ) (names : List (Bor Name)) → is_some (place_of name (map (λ n. n.now.text) names)) ≡ list_any (λ n. bytes_eq n.now.text name) names
any_named name [] = refl
any_named name (n ∷ names) = grind (arith, any_named name names)

name_order : IsTotalOrder by_lent_bytes
name_order = on_texts (λ n. n.now)

-- none of the texts stands before
IsNew : List (List ℕ) → List (Bor (List ℕ)) → Type 0
IsNew before texts = AllByRecursion (λ t. place_of t.now before ≡ None) texts

still_new : (before : List (List ℕ)) (t : Bor (List ℕ)) (texts : List (Bor (List ℕ))) → IsNew before texts → AllByRecursion (λ u. eq_by_cmp by_lent_bytes t u ≡ false) texts → IsNew (before ++ t.now ∷ []) texts
unfolding IsNew
still_new before t [] new differ = tt
still_new before t (u ∷ texts) new differ =
    let pushed = place_of-push u.now t.now before in
    let same = is_eq-slice_cmp t.now u.now in
    (grind (arith, pushed, same, new.0, differ.0), still_new before t texts new.1 differ.1)

fresh_each : (before : List (List ℕ)) (texts : List (Bor (List ℕ))) (names : List Name) → bytes_of texts ≡ map (λ n. n.text) names → IsNew before texts → IsDistinct (eq_by_cmp by_lent_bytes) texts → spec.once_after before (Ok tt) names ≡ Ok tt
unfolding IsNew
fresh_each before [] [] same new distinct = refl
fresh_each before [] (n ∷ names) same new distinct = cc
fresh_each before (t ∷ texts) [] same new distinct = cc
fresh_each before (t ∷ texts) (n ∷ names) same new distinct =
    let first : t.now ≡ n.text = cc in
    let others : bytes_of texts ≡ map (λ m. m.text) names = cc in
    let apart = IsDistinct-head (eq_by_cmp by_lent_bytes) t texts distinct in
    let rest = IsDistinct-tail (eq_by_cmp by_lent_bytes) t texts distinct in
    let fresh : place_of n.text before ≡ None = rw first at new.0 in
    let new_later : IsNew (before ++ t.now ∷ []) texts = still_new before t texts new.1 apart in
    let later = fresh_each (before ++ n.text ∷ []) texts names others (subst (λ bytes. IsNew (before ++ bytes ∷ []) texts) first new_later) rest in
    rw fresh later

all_new : (texts : List (Bor (List ℕ))) → IsNew [] texts
unfolding IsNew
all_new [] = tt
all_new (t ∷ texts) = (refl, all_new texts)

less : (o : Ordering) → true ≡ is_lt o → o ≡ Less
less Less is = refl
less Equal is = cc
less Greater is = cc

pub rising : (texts : List (Bor (List ℕ))) (told : Bool) → IsAllAdjacentAnswer (λ x y b. b ≡ is_lt (by_lent_bytes x y)) texts told → IsTrue told → IsStrictlySortedBy by_lent_bytes texts
rising texts true answer told =
    let d : Bor (List ℕ) = record { ref_ptr = (0, 0); now = [] } in
    sorted_from_all_adjacent name_order texts d (λ k within. less _ (answer k d within))
rising texts false answer told = cc

pub once_distinct : (names : List Name) (texts : List (Bor (List ℕ))) → bytes_of texts ≡ map (λ n. n.text) names → IsDistinct (eq_by_cmp by_lent_bytes) texts → spec.once names ≡ Ok tt
unfolding spec.once IsNew
once_distinct names texts same distinct = fresh_each [] texts names same (all_new texts) distinct

pub once_distinct_sorted : (names : List Name) (texts sorted : List (Bor (List ℕ))) → bytes_of texts ≡ map (λ n. n.text) names → IsPermutation texts sorted → IsStrictlySortedBy by_lent_bytes sorted → spec.once names ≡ Ok tt
once_distinct_sorted names texts sorted same moved ordered =
    once_distinct names texts same (IsDistinct-IsPermutation (eq_by_cmp by_lent_bytes) (eq_by_cmp_equiv name_order).symm sorted texts (IsPermutation-sym texts sorted moved) (IsDistinct-from_sorted by_lent_bytes sorted ordered))

texts_of_each : (names : List (Bor Name)) → map (λ n. n.now.text) names ≡ map (λ n. n.text) (map (λ n. n.now) names)
texts_of_each [] = refl
texts_of_each (n ∷ names) = ap (λ others. n.now.text ∷ others) (texts_of_each names)

pub texts_of : (names : List (Bor Name)) (texts : List (Bor (List ℕ))) → bytes_of texts ≡ map (λ n. n.now.text) names → bytes_of texts ≡ map (λ n. n.text) (map (λ n. n.now) names)
texts_of names texts same = same ∙ texts_of_each names
