-- What is asked of operands, and of what they are made.
use Rattle.std.proofs.Common.{◌≡◌, ℕ, zero, suc, ◌≤◌, get_or, Bool, true, false, ◌||◌, ◌&&◌, ◌==◌, nat_lt, List, [], ◌∷◌, length, refl, sym, true≢false, ◌∙◌, ap, arith}
use Rattle.std.specs.Prelude.{Some, None}
use Rattle.std.specs.List.{list_any, filter_map}
use Rattle.std.proofs.lemmas.Bool.Decides.{nat_tests}
use Rattle.plain_data.specs.Numbers.{is_among}
use Rattle.ex_kinds.specs.declared.kind.Sort.{Sort}
use Rattle.ex_kinds.specs.declared.kind.Sort.TheVariants as k
use Rattle.ex_kinds.specs.declared.kind.PlainSort.{PlainSort}
use Rattle.ex_kinds.specs.declared.kind.PlainSort.TheVariants as p
use Rattle.ex_kinds.specs.Kinds.{Kinds, elements, shallower, joined}
use Rattle.ex_kinds.specs.declared.kind.ValueKind.{ValueKind}
use Rattle.ex_operators.specs.Fitting.{is_nothing}
use Rattle.ex_kinds.specs.Types.{alternative, alternative_at, stays, possible, plain, some_plain, is_value, is_sort, can_be, enumeration, has_elements}

some_there : {A : Type 0} → (xs : List A) → nat_lt zero (suc (length xs)) ≡ true
some_there xs = grind (arith, nat_tests)

-- one kind more, at its depth and of its sort
enumeration_next : (kinds : Kinds) → list_any (is_value p.Enumeration) kinds ≡ nat_lt zero (length (filter_map enumeration kinds)) → (depth : ℕ) (sort : Sort)
    → (((depth == zero) && is_sort p.Enumeration sort) || list_any (is_value p.Enumeration) kinds)
    ≡ nat_lt zero (length (filter_map enumeration (record { depth = depth; sort = sort } ∷ kinds)))
enumeration_next kinds rest zero k.Integer = rest
enumeration_next kinds rest zero k.Real = rest
enumeration_next kinds rest zero k.String = rest
enumeration_next kinds rest zero k.Binary = rest
enumeration_next kinds rest zero k.Logical = rest
enumeration_next kinds rest zero (k.Enumeration n) = sym (some_there (filter_map enumeration kinds))
enumeration_next kinds rest zero (k.Defined n) = rest
enumeration_next kinds rest zero (k.Entity n) = rest
enumeration_next kinds rest zero k.Instance = rest
enumeration_next kinds rest zero k.Aggregate = rest
enumeration_next kinds rest zero k.Generic = rest
enumeration_next kinds rest (suc depth) sort = let deep : (suc depth == zero) ≡ false = grind (arith, nat_tests) in rw deep rest

any_enumeration : (kinds : Kinds) → list_any (is_value p.Enumeration) kinds ≡ nat_lt zero (length (filter_map enumeration kinds))
any_enumeration [] = refl
any_enumeration (kind ∷ kinds) = enumeration_next kinds (any_enumeration kinds) kind.depth kind.sort

pub can_be_exact : (types : List Kinds) (kinds : Kinds) (sort : PlainSort) → some_plain types (is_value sort) kinds ≡ can_be (possible (plain types kinds)) sort
unfolding some_plain possible
can_be_exact types kinds p.Integer = refl
can_be_exact types kinds p.Real = refl
can_be_exact types kinds p.String = refl
can_be_exact types kinds p.Binary = refl
can_be_exact types kinds p.Logical = refl
can_be_exact types kinds p.Enumeration = any_enumeration (plain types kinds)
can_be_exact types kinds p.Instance = refl
can_be_exact types kinds p.Aggregate = refl
can_be_exact types kinds p.Generic = refl

none_shallower : (kinds : Kinds) → list_any has_elements kinds ≡ false → filter_map shallower kinds ≡ []
none_shallower [] none = refl
none_shallower (kind ∷ kinds) none = (elim (shallower kind) as (λ o. shallower kind ≡ o → filter_map shallower (kind ∷ kinds) ≡ []) [
  | None ↦ λ is. rw is (none_shallower kinds (rw is at none))
  | Some found ↦ λ is. let there = rw is at none in absurd cc
]) refl

pub no_elements : (types : List Kinds) (kinds : Kinds) → some_plain types has_elements kinds ≡ false → elements (plain types kinds) ≡ []
unfolding some_plain
no_elements types kinds none = ap (joined []) (none_shallower (plain types kinds) none)

-- ---- numbers that two lists share

any_same : (p q : ℕ → Bool) → ((x : ℕ) → p x ≡ q x) → (xs : List ℕ) → list_any p xs ≡ list_any q xs
any_same p q same [] = refl
any_same p q same (x ∷ xs) = ap (λ b. b || list_any p xs) (same x) ∙ ap (λ b. q x || b) (any_same p q same xs)

pub shared_by_set : (keys second first : List ℕ) → ((k : ℕ) → is_among keys k ≡ is_among second k) → list_any (λ n. is_among keys n) first ≡ list_any (λ n. is_among second n) first
shared_by_set keys second first same = any_same (is_among keys) (is_among second) same first

none_among : (xs : List ℕ) → list_any (λ n. is_among [] n) xs ≡ false
none_among [] = refl
none_among (x ∷ xs) = none_among xs

pub none_first : (first second : List ℕ) → nat_lt zero (length first) ≡ false → list_any (λ n. is_among second n) first ≡ false
none_first [] second none = refl
none_first (x ∷ xs) second none = let there = some_there xs in absurd cc

pub none_second : (first second : List ℕ) → nat_lt zero (length second) ≡ false → list_any (λ n. is_among second n) first ≡ false
none_second first [] none = none_among first
none_second first (y ∷ ys) none = let there = some_there ys in absurd cc

pub enumerations_are : (kinds : Kinds) → filter_map enumeration kinds ≡ (possible kinds).enumerations
unfolding possible
enumerations_are kinds = refl

-- ---- a first kind of no defined type

something : (types : List Kinds) (more : Kinds) (depth : ℕ) (sort : Sort) → ((depth == zero) && stays (alternative_at depth sort)) ≡ true
    → is_nothing (possible (plain types (record { depth = depth; sort = sort } ∷ more))) ≡ false
unfolding plain possible
something types more zero k.Integer own = refl
something types more zero k.Real own = grind arith
something types more zero k.String own = grind arith
something types more zero k.Binary own = grind arith
something types more zero k.Logical own = grind arith
something types more zero (k.Enumeration n) own = let there = some_there (filter_map enumeration (plain types more)) in grind arith
something types more zero (k.Defined n) own = absurd (true≢false (sym own))
something types more zero (k.Entity n) own = grind arith
something types more zero k.Instance own = grind arith
something types more zero k.Aggregate own = grind arith
something types more zero k.Generic own = grind arith
something types more (suc depth) sort own = absurd (grind (arith, nat_tests))

pub plain_first : (types : List Kinds) (kinds : Kinds) (d : ValueKind) → 1 ≤ length kinds → (((get_or kinds 0 d).depth == zero) && stays (alternative (get_or kinds 0 d))) ≡ true → is_nothing (possible (plain types kinds)) ≡ false
plain_first types [] d some own = absurd (omega (arith, some))
plain_first types (kind ∷ more) d some own = something types more kind.depth kind.sort own
