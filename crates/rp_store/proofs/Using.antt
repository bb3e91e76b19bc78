-- Whether an instance is used is told by candidates for its users.
use Rattle.std.proofs.Common.{◌≡◌, ℕ, Bool, true, false, not, ◌&&◌, ◌||◌, ◌==◌, List, [], ◌∷◌, ◌++◌, Option, Some, None, if◌then◌else◌, refl, sym, ◌∙◌, ap, true≢false, ⊎_elim}
use Rattle.std.proofs.lemmas.Bool.{cases_Bool, eqb-true, eq-eqb}
use Rattle.std.specs.List.{flat_map, list_any}
use Rattle.std.specs.List.Sorted.{IsStrictlySortedBy}
use Rattle.std.specs.Option.{option_map_or}
use Rattle.std.specs.Ordering.{nat_cmp}
use Rattle.plain_data.specs.Numbers.{is_among}
use Rattle.rp_content.specs.declared.instance.Instance.{Instance}
use Rattle.rp_rows.specs.Contents.{references_of}
use Rattle.rp_rows.specs.Instances.{instance_of, is_user, is_used, refers_to, IsInOrder}
use Rattle.rp_index.specs.Index.{AreUsersAmong}
use Rattle.rp_index.specs.Told.{told, told_of, IsToldAmong}
use Rattle.rp_index.proofs.Telling.{told_by_candidates}

-- a user is told of in something
abbrev user : ℕ → Instance → List ℕ
user n i = if is_user n i then n ∷ [] else []

abbrev is_told : List ℕ → Bool
is_told [] = false
is_told (x ∷ xs) = true

one : (t : Bool) (n : ℕ) (xs : List ℕ) → is_told ((if t then n ∷ [] else []) ++ xs) ≡ (t || is_told xs)
one true n xs = refl
one false n xs = refl

one_at : (n : ℕ) (o : Option Instance) (xs : List ℕ) → is_told (told (user n) o ++ xs) ≡ (option_map_or (is_user n) o false || is_told xs)
one_at n None xs = refl
one_at n (Some i) xs = one (is_user n i) n xs

told_in_all : (n : ℕ) (is : List Instance) → is_told (flat_map (user n) is) ≡ is_used n is
told_in_all n [] = refl
told_in_all n (i ∷ is) = one (is_user n i) n (flat_map (user n) is) ∙ ap (λ t. is_user n i || t) (told_in_all n is)

told_in_each : (n : ℕ) (is : List Instance) (us : List ℕ) → is_told (flat_map (told_of (user n) is) us) ≡ list_any (λ u. option_map_or (is_user n) (instance_of u is) false) us
told_in_each n is [] = refl
told_in_each n is (u ∷ us) =
    one_at n (instance_of u is) (flat_map (told_of (user n) is) us) ∙ ap (λ t. option_map_or (is_user n) (instance_of u is) false || t) (told_in_each n is us)

turned : (n m : ℕ) → ((n == m) || false) ≡ (m == n)
turned n m = ⊎_elim
    (λ (same : (n == m) ≡ true). rw same (sym (eq-eqb m n (sym (eqb-true n m same)))))
    (λ (other : (n == m) ≡ false). ⊎_elim
    (λ (same : (m == n) ≡ true). absurd (true≢false (sym (eq-eqb n m (sym (eqb-true m n same))) ∙ other)))
    (λ (others : (m == n) ≡ false). rw other (sym others))
    (cases_Bool (m == n)))
    (cases_Bool (n == m))

same_names : (n : ℕ) (ms : List ℕ) → list_any (is_among (n ∷ [])) ms ≡ list_any (λ m. m == n) ms
same_names n [] = refl
same_names n (m ∷ ms) = ap (λ t. t || list_any (is_among (n ∷ [])) ms) (turned n m) ∙ ap (λ t. (m == n) || t) (same_names n ms)

not_user : (a b : Bool) → b ≡ false → (not a && b) ≡ false
not_user true b e = refl
not_user false b e = e

none_told : (n : ℕ) (i : Instance) → list_any (is_among (n ∷ [])) (references_of i) ≡ false → user n i ≡ []
none_told n i none =
    let others : is_user n i ≡ false = not_user (i.name == n) (refers_to n i) (sym (same_names n (references_of i)) ∙ none) in
    rw others refl

among : (n : ℕ) (us : List ℕ) (is : List Instance) → AreUsersAmong (n ∷ []) us is → IsToldAmong (user n) us is
among n us [] covered = tt
among n us (i ∷ is) covered = (λ gone. none_told n i (covered.0 gone), among n us is covered.1)

pub used_among : (n : ℕ) (us : List ℕ) (is : List Instance) → IsStrictlySortedBy nat_cmp us → IsInOrder is → AreUsersAmong (n ∷ []) us is
    → list_any (λ u. option_map_or (is_user n) (instance_of u is) false) us ≡ is_used n is
used_among n us is order named covered =
    sym (told_in_each n is us) ∙ ap is_told (told_by_candidates (user n) us is order named (among n us is covered)) ∙ told_in_all n is
