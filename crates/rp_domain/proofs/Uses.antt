-- Who uses whom, turn by turn.
use Rattle.std.proofs.Common.{◌≡◌, ℕ, zero, suc, slice_get, ◌+◌, ◌<◌, ◌≤◌, nat_lt, Bool, true, false, List, [], ◌∷◌, ◌++◌, map, length, drop, drop-cons, add-one, if◌then◌else◌, get_or, refl, sym, ◌∙◌, ap, arith}
use Rattle.std.proofs.lemmas.List.{map-append}
use Rattle.std.proofs.lemmas.List.Concat.{flat_map-append}
use Rattle.std.proofs.lemmas.List.Folds.{flat_map-map}
use Rattle.std.proofs.lemmas.Bool.Decides.{nat_tests}
use Rattle.std.specs.List.{flat_map, zip}
use Rattle.std.specs.Option.{option_to_list}
use Rattle.rp_value.specs.Elements.{Elements}
use Rattle.rp_value.specs.declared.value.AggregateKind.{AggregateKind}
use Rattle.rp_value.specs.declared.value.Value.{Value}
use Rattle.rp_value.specs.declared.value.Value.TheFolds.{fold-roll-Value}
use Rattle.rp_value.specs.declared.value.Value.TheOpen.{Value-F}
use Rattle.rp_value.specs.declared.value.Value.TheVariants as v
use Rattle.rp_code.specs.declared.role.Role.{Role}
use Rattle.rp_meaning.specs.Populations.{Instance, instances}
use Rattle.rp_meaning.specs.Uses.{User, Use, references, referred, uses_of, uses_from, uses_at, users, places_among}
use Rattle.rp_domain.specs.declared.combination.AttributeOf.{AttributeOf}
use Rattle.rp_domain.specs.Combinations.{used_of}
use Rattle.rp_domain.specs.Rows.{put_all, used_by, uses_by, uses_in}
use Rattle.rp_domain.proofs.Put.{put_all-append}

pub references-elements : (x : Value) (kind : AggregateKind) (elements : Elements Value) → x ≡ v.Agg kind elements → references x ≡ flat_map references elements.items
references-elements x kind elements is =
    ap references is ∙ ap references (sym (v.rolls-Agg kind elements)) ∙ fold-roll-Value (List ℕ) referred (Value-F.Agg kind elements)
    ∙ flat_map-map (λ found. found) references elements.items

used-append : (user : User) (xs ys : List ℕ) → used_by user (xs ++ ys) ≡ used_by user xs ++ used_by user ys
used-append user xs ys = map-append (λ place. (place, user)) xs ys

pub drop-read : {A : Type 0} (xs : List A) (i : ℕ) (x : A) → i < length xs → x ≡ get_or xs i x → drop i xs ≡ x ∷ drop (i + 1) xs
drop-read xs i x h is = rw (add-one) (drop-cons xs i x h ∙ ap (λ y. y ∷ drop (suc i) xs) (sym is))

pub values_step : (rows : List (List User)) (user : User) (xs : List Value) (i : ℕ) (x : Value) → i < length xs → x ≡ get_or xs i x
    → put_all rows (used_by user (flat_map references (drop i xs))) ≡ put_all (put_all rows (used_by user (references x))) (used_by user (flat_map references (drop (i + 1) xs)))
values_step rows user xs i x h is = rw (drop-read xs i x h is)
    (ap (put_all rows) (used-append user (references x) (flat_map references (drop (i + 1) xs))) ∙ put_all-append rows (used_by user (references x)) (used_by user (flat_map references (drop (i + 1) xs))))

abbrev pub uses_in_instance : ℕ → Instance → List Use
uses_in_instance place i = flat_map (uses_of place i) i.values

pub population_step : (rows : List (List User)) (xs : List Instance) (i : ℕ) (x : Instance) → i < length xs → x ≡ get_or xs i x
    → put_all rows (uses_from i (drop i xs)) ≡ put_all (put_all rows (uses_in_instance i x)) (uses_from (i + 1) (drop (i + 1) xs))
unfolding uses_from
population_step rows xs i x h is = rw (drop-read xs i x h is) (put_all-append rows (uses_in_instance i x) (uses_from (i + 1) (drop (i + 1) xs)))

-- the uses of an instance are those by its attributes and their values
pub uses-in : (place : ℕ) (i : Instance) → uses_in place (map (used_of i.entities) i.values) ≡ uses_in_instance place i
uses-in place i = flat_map-map (λ (a : AttributeOf × Value). uses_by place a.0 a.1) (used_of i.entities) i.values

zip-none : {A B : Type 0} (xs : List A) → zip {K = A} {X = B} xs [] ≡ []
zip-none [] = refl
zip-none (x ∷ xs) = refl

zip-at : {A B : Type 0} (x : A) (xs : List A) (ys : List B) (i : ℕ) → zip (x ∷ xs) (drop i ys) ≡ map (λ y. (x, y)) (option_to_list (slice_get ys i)) ++ zip xs (drop (suc i) ys)
zip-at x xs [] zero = sym (zip-none xs)
zip-at x xs [] (suc i) = sym (zip-none xs)
zip-at x xs (y ∷ ys) zero = refl
zip-at x xs (y ∷ ys) (suc i) = zip-at x xs ys i

-- what is left of two lists
pub zip_step : {A B : Type 0} (xs : List A) (ys : List B) (i : ℕ) (x : A) → i < length xs → x ≡ get_or xs i x
    → zip (drop i xs) (drop i ys) ≡ map (λ y. (x, y)) (option_to_list (slice_get ys i)) ++ zip (drop (i + 1) xs) (drop (i + 1) ys)
zip_step xs ys i x h is = rw (drop-read xs i x h is) (rw (add-one) (zip-at x (drop (suc i) xs) ys i))

pub attributes_step : (rows : List (List User)) (place : ℕ) (xs : List AttributeOf) (ys : List Value) (i : ℕ) (x : AttributeOf) → i < length xs → x ≡ get_or xs i x
    → put_all rows (uses_in place (zip (drop i xs) (drop i ys)))
    ≡ put_all (put_all rows (flat_map (λ y. uses_by place x y) (option_to_list (slice_get ys i)))) (uses_in place (zip (drop (i + 1) xs) (drop (i + 1) ys)))
attributes_step rows place xs ys i x h is =
    let here = option_to_list (slice_get ys i) in
    let others = zip (drop (i + 1) xs) (drop (i + 1) ys) in
    ap (λ zs. put_all rows (uses_in place zs)) (zip_step xs ys i x h is)
    ∙ ap (put_all rows) (flat_map-append (λ a. uses_by place a.0 a.1) (map (λ y. (x, y)) here) others)
    ∙ ap (λ us. put_all rows (us ++ uses_in place others)) (flat_map-map (λ (a : AttributeOf × Value). uses_by place a.0 a.1) (λ y. (x, y)) here)
    ∙ put_all-append rows (flat_map (λ y. uses_by place x y) here) (uses_in place others)

-- ---- the users of a place

pub users_at : (role : Role) (place : ℕ) (population : List Instance) → place < length population → users population role place ≡ instances (places_among role (uses_at place (uses_from 0 population)))
users_at role place population h = let is : nat_lt place (length population) ≡ true = grind (arith, nat_tests, h) in ap (λ (t : Bool). instances (if t then places_among role (uses_at place (uses_from 0 population)) else [])) is

pub no_users : (role : Role) (place : ℕ) (population : List Instance) → length population ≤ place → users population role place ≡ []
no_users role place population h = let is : nat_lt place (length population) ≡ false = grind (arith, nat_tests, h) in ap (λ (t : Bool). instances (if t then places_among role (uses_at place (uses_from 0 population)) else [])) is
