-- What is found of all types once tells what values of them may be.
use Rattle.std.proofs.Common.{◌≡◌, ℕ, zero, suc, Bool, true, false, ◌||◌, ◌&&◌, List, [], ◌∷◌, ◌++◌, map, filter, refl, sym, ◌∙◌, ap}
use Rattle.std.specs.Prelude.{Option, Some, None, slice_get, slice_index_or}
use Rattle.std.specs.List.{list_any, flat_map}
use Rattle.graphs.specs.Graphs.{family}
use Rattle.ex_kinds.specs.declared.kind.ValueKind.{ValueKind}
use Rattle.ex_kinds.specs.declared.kind.Sort.{Sort}
use Rattle.ex_kinds.specs.declared.kind.Sort.TheVariants as k
use Rattle.ex_kinds.specs.Kinds.{Kinds}
use Rattle.ex_renamings.specs.Leading.{is_marked}
use Rattle.ex_renamings.proofs.Marks.{any_same, leading_at}
use Rattle.ex_kinds.specs.Types.{declared, alternatives, alternative, held, own, stays, declares, has_instance, is_instance, declared_instance, meanings, meanings_by, plain, meeting, some_meaning, some_plain, holding, holds_by, holds_at, kind_holds_instance, type_holds_instance, may_hold_instance, mentioned, defined_of}

-- ---- tests on lists

any_append : {A : Type 0} → (p : A → Bool) (xs ys : List A) → list_any p (xs ++ ys) ≡ (list_any p xs || list_any p ys)
any_append p [] ys = refl
any_append p (x ∷ xs) ys = ap (λ b. p x || b) (any_append p xs ys) ∙ assoc (p x) (list_any p xs) (list_any p ys)
  where
    assoc : (a b c : Bool) → (a || (b || c)) ≡ ((a || b) || c)
    assoc true b c = refl
    assoc false b c = refl

any_flat : {A B : Type 0} → (p : B → Bool) (f : A → List B) (xs : List A) → list_any p (flat_map f xs) ≡ list_any (λ x. list_any p (f x)) xs
any_flat p f [] = refl
any_flat p f (x ∷ xs) = any_append p (f x) (flat_map f xs) ∙ ap (λ b. list_any p (f x) || b) (any_flat p f xs)

any_kept : {A : Type 0} → (keep p : A → Bool) (xs : List A) → list_any (λ x. keep x && p x) xs ≡ list_any p (filter keep xs)
any_kept keep p [] = refl
any_kept keep p (x ∷ xs) = (elim (keep x) as (λ t. keep x ≡ t → list_any (λ x. keep x && p x) (x ∷ xs) ≡ list_any p (filter keep (x ∷ xs))) [
  | true ↦ λ is. rw (is, any_kept keep p xs) refl
  | false ↦ λ is. rw (is, any_kept keep p xs) refl
]) refl

-- what a list of marks has at a place
at_map : {A : Type 0} → (f : A → Bool) (none : A) → f none ≡ false → (xs : List A) (n : ℕ) → is_marked (map f xs) n ≡ f (slice_index_or xs n none)
at_map f none not_it [] n = sym not_it
at_map f none not_it (x ∷ xs) zero = refl
at_map f none not_it (x ∷ xs) (suc n) = at_map f none not_it xs n

get_map : {A B : Type 0} → (f : A → B) (xs : List A) (n : ℕ) (x : A) → slice_get xs n ≡ Some x → slice_get (map f xs) n ≡ Some (f x)
get_map f [] n x is = cc
get_map f (y ∷ ys) zero x is = cc
get_map f (y ∷ ys) (suc n) x is = get_map f ys n x is

pub marks_got : {A B : Type 0} → (f : A → B) (xs : List A) (items : List B) (n : ℕ) (x : A) (found : B)
    → items ≡ map f xs → slice_get xs n ≡ Some x → slice_get items n ≡ Some found → found ≡ f x
marks_got f xs items n x found are is got =
    let same : Some (f x) ≡ Some found = sym (get_map f xs n x is) ∙ ap (λ l. slice_get l n) (sym are) ∙ got in
    cc

pub marks_missed : {A B : Type 0} → (f : A → B) (xs : List A) (items : List B) (n : ℕ) (x : A)
    → items ≡ map f xs → slice_get xs n ≡ Some x → slice_get items n ≡ None → ⊥
marks_missed f xs items n x are is missed =
    let same : Some (f x) ≡ None = sym (get_map f xs n x is) ∙ ap (λ l. slice_get l n) (sym are) ∙ missed in
    cc

-- ---- of types

module _ (types : List Kinds) where
  pub meeting_at : (test : ValueKind → Bool) (n : ℕ) → is_marked (meeting types test) n ≡ list_any test (flat_map (λ m. own (declared types m)) (family (alternatives types) n))
  unfolding meeting
  meeting_at test n =
      leading_at (alternatives types) (map (declares test) types) n
      ∙ any_same (is_marked (map (declares test) types)) (λ m. list_any test (own (declared types m)))
      (λ m. at_map (declares test) [] refl types m ∙ any_kept (λ kind. stays (alternative kind)) test (declared types m))
      (family (alternatives types) n)
      ∙ sym (any_flat test (λ m. own (declared types m)) (family (alternatives types) n))

  pub meaning_of_type : (test : ValueKind → Bool) (kind : ValueKind) (n : ℕ) → alternative kind ≡ Some n → is_marked (meeting types test) n ≡ some_meaning types test kind
  unfolding some_meaning
  meaning_of_type test kind n is = meeting_at test n ∙ ap (λ o. list_any test (meanings_by types kind o)) (sym is)

  pub meaning_of_itself : (test : ValueKind → Bool) (kind : ValueKind) → alternative kind ≡ None → test kind ≡ some_meaning types test kind
  unfolding some_meaning
  meaning_of_itself test kind is = sym (or_false (test kind)) ∙ ap (λ o. list_any test (meanings_by types kind o)) (sym is)
    where
      or_false : (b : Bool) → (b || false) ≡ b
      or_false true = refl
      or_false false = refl

  pub plain_by_meanings : (test : ValueKind → Bool) (kinds : Kinds) → list_any (some_meaning types test) kinds ≡ some_plain types test kinds
  unfolding some_meaning some_plain plain
  plain_by_meanings test kinds = sym (any_flat test (meanings types) kinds)

  -- ---- instances at any depth

  held_at : (sort : Sort) (o : Option ℕ) → defined_of sort ≡ o → holds_at (holding types) sort o ≡ (is_instance sort || type_holds_instance types o)
  unfolding holding
  held_at sort None is = sym (or_false (is_instance sort))
    where
      or_false : (b : Bool) → (b || false) ≡ b
      or_false true = refl
      or_false false = refl
  held_at sort (Some n) is = leading_at (held types) (map has_instance types) n
      ∙ any_same (is_marked (map has_instance types)) (declared_instance types) (λ m. at_map has_instance [] refl types m) (family (held types) n)
      ∙ no_instance sort is
    where
      no_instance : (s : Sort) → defined_of s ≡ Some n → list_any (declared_instance types) (family (held types) n) ≡ (is_instance s || list_any (declared_instance types) (family (held types) n))
      no_instance k.Integer h = cc
      no_instance k.Real h = cc
      no_instance k.String h = cc
      no_instance k.Binary h = cc
      no_instance k.Logical h = cc
      no_instance (k.Enumeration m) h = cc
      no_instance (k.Defined m) h = refl
      no_instance (k.Entity m) h = cc
      no_instance k.Instance h = cc
      no_instance k.Aggregate h = cc
      no_instance k.Generic h = cc

  pub holds_exact : (kinds : Kinds) → list_any (holds_by (holding types)) kinds ≡ may_hold_instance types kinds
  unfolding may_hold_instance
  holds_exact kinds = any_same (holds_by (holding types)) (kind_holds_instance types) (λ kind. held_at kind.sort (mentioned kind) refl) kinds

  pub plainly_exact : (kinds : Kinds) → some_plain types (holds_by (holding types)) kinds ≡ may_hold_instance types (plain types kinds)
  unfolding some_plain
  plainly_exact kinds = holds_exact (plain types kinds)
