-- What is found in lists.
use Rattle.std.proofs.Common.{◌≡◌, ◌∙◌, pos, ℕ, zero, suc, ◌<◌, ◌≤◌, Bool, true, false, Option, Some, None, List, [], ◌∷◌, length, drop, get_or, set, refl, sym, ap, arith, cond, slice_get, slice_set, ◌==◌}
use Rattle.std.proofs.Math.ListN.{drop_of_length-le}
use Rattle.std.proofs.lemmas.Bool.Decides.{nat_tests}
use Rattle.ex_named.specs.declared.reference.AttributePlace.{AttributePlace}
use Rattle.rp_value.specs.declared.value.Value.{Value, out-Value}
use Rattle.rp_value.specs.declared.value.Value.TheVariants as v
use Rattle.std.proofs.lemmas.List.{length-map}
use Rattle.ex_tree.specs.declared.declaration.InverseAggregate.{InverseAggregate}
use Rattle.rp_meaning.specs.declared.schema.Inverse.{Inverse}
use Rattle.rp_meaning.specs.declared.schema.Schema.{Schema}
use Rattle.rp_meaning.specs.Attributes as spec
use Rattle.rp_meaning.specs.Attributes.{aggregate}
use Rattle.rp_meaning.specs.Operators.{count, count_in}
use Rattle.rp_operators.proofs.Sights.{bare-Agg}
use Rattle.rp_value.specs.declared.value.AggregateKind.TheVariants as k
use Rattle.rp_meaning.specs.TypeNames.{texts}
use Rattle.rp_meaning.specs.Bare.{aggregate_in, place_in}
use Rattle.rp_meaning.specs.declared.domain.ReadValue.{ReadValue}
use Rattle.rp_meaning.specs.Populations.{Instance, as_read, stored, instances}
use Rattle.rp_meaning.specs.Uses.{same_attribute}
use Rattle.rp_meaning.specs.Uses as uses
use Rattle.rp_eval_parts.specs.Counts as counts
use Rattle.rp_eval_parts.specs.Counts.{last_read, read_at, read_in, is_at, once_after, again_after, value_in}

-- ---- stored values

stored-unwritten : (xs : List AttributePlace) (read : List Value) → stored xs [] read ≡ []
stored-unwritten [] read = refl
stored-unwritten (x ∷ xs) read = refl

stored-unread : (xs : List AttributePlace) (written : List Value) → stored xs written [] ≡ []
stored-unread [] written = refl
stored-unread (x ∷ xs) [] = refl
stored-unread (x ∷ xs) (y ∷ written) = refl

read-none : (written : Option Value) → read_in written None ≡ v.Indet
read-none None = refl
read-none (Some w) = refl

-- the first of which the attribute is the one
pub value-hit : (a d : AttributePlace) (xs : List AttributePlace) (written read : List Value) (k : ℕ) → k < length xs → same_attribute (get_or xs k d) a ≡ true
    → value_in a (drop k xs) (drop k written) (drop k read) ≡ read_at written read k
value-hit a d [] written read k h same = absurd (omega (arith, h))
value-hit a d (y ∷ xs) [] read zero h same = refl
value-hit a d (y ∷ xs) (w ∷ written) [] zero h same = refl
value-hit a d (y ∷ xs) (w ∷ written) (r ∷ read) zero h same = rw same refl
value-hit a d (y ∷ xs) [] [] (suc k) h same = rw (stored-unwritten (drop k xs) []) refl
value-hit a d (y ∷ xs) [] (r ∷ read) (suc k) h same = rw (stored-unwritten (drop k xs) (drop k read)) refl
value-hit a d (y ∷ xs) (w ∷ written) [] (suc k) h same = rw (stored-unread (drop k xs) (drop k written)) (sym (read-none (slice_get written k)))
value-hit a d (y ∷ xs) (w ∷ written) (r ∷ read) (suc k) h same = value-hit a d xs written read k (omega (arith, h)) same

-- what is no such attribute is passed by
pub value-miss : (a d : AttributePlace) (xs : List AttributePlace) (written read : List Value) (k : ℕ) → k < length xs → same_attribute (get_or xs k d) a ≡ false
    → value_in a (drop k xs) (drop k written) (drop k read) ≡ value_in a (drop (suc k) xs) (drop (suc k) written) (drop (suc k) read)
value-miss a d [] written read k h same = absurd (omega (arith, h))
value-miss a d (y ∷ xs) [] read zero h same = rw (stored-unwritten xs (drop 1 read)) refl
value-miss a d (y ∷ xs) (w ∷ written) [] zero h same = rw (stored-unread xs written) refl
value-miss a d (y ∷ xs) (w ∷ written) (r ∷ read) zero h same = rw same refl
value-miss a d (y ∷ xs) [] read (suc k) h same = rw (stored-unwritten (drop k xs) (drop (suc k) read), stored-unwritten (drop (suc k) xs) (drop (suc (suc k)) read)) refl
value-miss a d (y ∷ xs) (w ∷ written) [] (suc k) h same = rw (stored-unread (drop k xs) (drop k written), stored-unread (drop (suc k) xs) (drop (suc k) written)) refl
value-miss a d (y ∷ xs) (w ∷ written) (r ∷ read) (suc k) h same = value-miss a d xs written read k (omega (arith, h)) same

-- past the end there is none
pub value-none : (a : AttributePlace) (xs : List AttributePlace) (written read : List Value) (k : ℕ) → length xs ≤ k → value_in a (drop k xs) (drop k written) (drop k read) ≡ v.Indet
value-none a xs written read k h = let e : drop k xs ≡ [] = drop_of_length-le xs h in rw e refl

-- ---- values that are read in place of others

get-set : (xs : List Value) (i k : ℕ) (x y : Value) → slice_get xs k ≡ Some x → slice_get (slice_set xs i y) k ≡ Some (cond (i == k) y x)
get-set [] i k x y h = absurd (cc)
get-set (z ∷ xs) zero zero x y h = refl
get-set (z ∷ xs) zero (suc k) x y h = let e : (zero == suc k) ≡ false = grind (arith, nat_tests) in rw e h
get-set (z ∷ xs) (suc i) zero x y h = let e : (suc i == zero) ≡ false = grind (arith, nat_tests) in rw e h
get-set (z ∷ xs) (suc i) (suc k) x y h = let e : (suc i == suc k) ≡ (i == k) = grind (arith, nat_tests) in rw e (get-set xs i k x y h)

get-read : (differing : List ReadValue) (xs : List Value) (k : ℕ) (x : Value) → slice_get xs k ≡ Some x → slice_get (as_read differing xs) k ≡ Some (last_read x differing k)
get-read [] xs k x h = h
get-read (r ∷ differing) xs k x h = get-read differing (slice_set xs r.place r.value) k (cond (r.place == k) r.value x) (get-set xs r.place k x r.value h)

pub read-last : (written : List Value) (differing : List ReadValue) (k : ℕ) (x : Value) → slice_get written k ≡ Some x → read_at written (as_read differing written) k ≡ last_read x differing k
read-last written differing k x h = rw (h, get-read differing written k x h) refl

pub read-nowhere : (written read : List Value) (k : ℕ) → slice_get written k ≡ None → read_at written read k ≡ v.Indet
read-nowhere written read k h = rw h refl

-- ---- instances that stand together

once-by : (same : Bool) (last x : ℕ) (xs : List ℕ) → once_after (Some last) (instances xs) ≡ instances (uses.once_after last xs) → once_after (Some x) (instances xs) ≡ instances (uses.once_after x xs)
    → cond same (once_after (Some last) (instances xs)) (v.Inst x ∷ once_after (Some x) (instances xs)) ≡ instances (cond same (uses.once_after last xs) (x ∷ uses.once_after x xs))
once-by true last x xs h k = h
once-by false last x xs h k = ap (λ ys. v.Inst x ∷ ys) k

once-after : (last : ℕ) (places : List ℕ) → once_after (Some last) (instances places) ≡ instances (uses.once_after last places)
unfolding out-Value denote.Hole.Carrier.out
once-after last [] = refl
once-after last (x ∷ xs) = once-by (x == last) last x xs (once-after last xs) (once-after x xs)

pub once : (places : List ℕ) → once_after None (instances places) ≡ instances (uses.each_once places)
unfolding out-Value denote.Hole.Carrier.out
once [] = refl
once (x ∷ xs) = ap (λ ys. v.Inst x ∷ ys) (once-after x xs)

unrepeated-by : (same : Bool) (x : Value) (xs here behind : List Value) (again : Bool) → cond same true again ≡ false → (again ≡ false → behind ≡ xs) → cond same here (x ∷ behind) ≡ x ∷ xs
unrepeated-by true x xs here behind again h k = absurd (cc)
unrepeated-by false x xs here behind again h k = ap (λ ys. x ∷ ys) (k h)

-- where none stands right behind itself, each stands there once
pub unrepeated : (last : Option ℕ) (xs : List Value) → again_after last xs ≡ false → once_after last xs ≡ xs
unrepeated last [] h = refl
unrepeated last (x ∷ xs) h =
    let place = place_in (out-Value x) in
    unrepeated-by (is_at last place) x xs (once_after last xs) (once_after place xs) (again_after place xs) h (unrepeated place xs)

pub instances_count : (places : List ℕ) → length (instances places) ≡ length places
instances_count places = length-map places (λ place. v.Inst place)

-- what users come to by their places
pub users_give : (kind : Option InverseAggregate) (places : List ℕ) → counts.of_users kind (instances places) ≡ spec.of_users kind places
users_give None [] = refl
users_give None (x ∷ []) = refl
users_give None (x ∷ y ∷ xs) = refl
users_give (Some a) places = refl

-- ---- names

pub texts_count : (schema : Schema) (population : List Instance) (names : List (List ℕ)) → length (texts schema population names) ≡ length names
texts_count schema population names = length-map names (λ text. v.Str text)

-- TYPEOF counts its names
pub names_count : (schema : Schema) (population : List Instance) (names : List (List ℕ)) (x : Value) → x ≡ aggregate k.Set (texts schema population names) → count x ≡ length names
names_count schema population names x h =
    ap (λ y. count_in (aggregate_in y)) (sym (bare-Agg x k.Set (record { low = pos 1; items = texts schema population names }) h)) ∙ texts_count schema population names

pub role_of_name : (schema : Schema) (name : List ℕ) → ¬ (name ≡ []) → spec.role_named schema.roles name ≡ counts.named_role schema.roles name
role_of_name schema [] h = absurd (h refl)
role_of_name schema (x ∷ xs) h = refl

-- each user once
pub inverse_set : (population : List Instance) (x : Inverse) (place : ℕ) (all found : List Value) → spec.is_bag x.aggregate ≡ false → all ≡ uses.users population x.role place → found ≡ once_after None all
    → found ≡ instances (spec.inverse_places population x place)
inverse_set population x place all found set from each = rw (each, from, set) (once (uses.user_places population x.role place))
