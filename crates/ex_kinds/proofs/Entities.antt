-- The entities of kinds, as one kind more comes.
use Rattle.std.proofs.Common.{◌≡◌, ℕ, zero, suc, Bool, false, ◌==◌, ◌||◌, List, [], ◌∷◌, ◌++◌, Option, Some, None, refl, sym, ◌∙◌, ap, arith}
use Rattle.std.proofs.lemmas.Bool.Decides.{nat_tests}
use Rattle.std.proofs.lemmas.List.Folds.{list_any-append}
use Rattle.std.specs.List.{list_any}
use Rattle.plain_data.specs.Numbers.{is_among}
use Rattle.plain_data.proofs.Disjunctions.{or_last}
use Rattle.ex_kinds.specs.Indexed.{entity_at, AreEntities}
use Rattle.ex_kinds.specs.Kinds.{itself, same}
use Rattle.ex_kinds.specs.declared.kind.Sort.{Sort}
use Rattle.ex_kinds.specs.declared.kind.Sort.TheVariants as k
use Rattle.ex_kinds.specs.declared.kind.ValueKind.{ValueKind}

abbrev is_number : Option ℕ → ℕ → Bool
is_number None n = false
is_number (Some m) n = m == n

abbrev kind_at : ℕ → Sort → ValueKind
kind_at depth sort = record { depth = depth; sort = sort }

same_at : (depth : ℕ) (sort : Sort) (n : ℕ) → same (kind_at depth sort) (itself (k.Entity n)) ≡ is_number (entity_at depth sort) n
same_at zero (k.Entity m) n = refl
same_at zero k.Integer n = refl
same_at zero k.Real n = refl
same_at zero k.String n = refl
same_at zero k.Binary n = refl
same_at zero k.Logical n = refl
same_at zero (k.Enumeration m) n = refl
same_at zero (k.Defined m) n = refl
same_at zero k.Instance n = refl
same_at zero k.Aggregate n = refl
same_at zero k.Generic n = refl
same_at (suc depth) sort n = let apart : (suc depth == 0) ≡ false = grind (arith, nat_tests) in rw apart refl

entity_is : (depth : ℕ) (sort : Sort) (m : ℕ) → entity_at depth sort ≡ Some m → kind_at depth sort ≡ itself (k.Entity m)
entity_is zero (k.Entity n) m e = ap (λ o. itself (k.Entity (the o))) e
  where
    the : Option ℕ → ℕ
    the None = 0
    the (Some x) = x
entity_is zero k.Integer m e = absurd cc
entity_is zero k.Real m e = absurd cc
entity_is zero k.String m e = absurd cc
entity_is zero k.Binary m e = absurd cc
entity_is zero k.Logical m e = absurd cc
entity_is zero (k.Enumeration n) m e = absurd cc
entity_is zero (k.Defined n) m e = absurd cc
entity_is zero k.Instance m e = absurd cc
entity_is zero k.Aggregate m e = absurd cc
entity_is zero k.Generic m e = absurd cc
entity_is (suc depth) sort m e = absurd cc

pub the_entity : (kind : ValueKind) (m : ℕ) → entity_at kind.depth kind.sort ≡ Some m → kind ≡ itself (k.Entity m)
the_entity kind m e = entity_is kind.depth kind.sort m e

with_last : (kinds : List ValueKind) (kind : ValueKind) (n : ℕ)
    → list_any (λ other. same other (itself (k.Entity n))) (kinds ++ kind ∷ []) ≡ (is_number (entity_at kind.depth kind.sort) n || list_any (λ other. same other (itself (k.Entity n))) kinds)
with_last kinds kind n =
    list_any-append (λ other. same other (itself (k.Entity n))) kinds (kind ∷ [])
    ∙ ap (λ b. list_any (λ other. same other (itself (k.Entity n))) kinds || (b || false)) (same_at kind.depth kind.sort n)
    ∙ or_last (list_any (λ other. same other (itself (k.Entity n))) kinds) (is_number (entity_at kind.depth kind.sort) n)

-- a kind of no entity changes nothing
pub of_none : (entities : List ℕ) (kinds : List ValueKind) (kind : ValueKind) → entity_at kind.depth kind.sort ≡ None → AreEntities entities kinds → AreEntities entities (kinds ++ kind ∷ [])
of_none entities kinds kind none are n = are n ∙ sym (with_last kinds kind n ∙ ap (λ o. is_number o n || list_any (λ other. same other (itself (k.Entity n))) kinds) none)

-- one of an entity adds this
pub of_one : (entities more : List ℕ) (kinds : List ValueKind) (kind : ValueKind) (m : ℕ) → entity_at kind.depth kind.sort ≡ Some m
    → ((n : ℕ) → is_among more n ≡ ((m == n) || is_among entities n)) → AreEntities entities kinds → AreEntities more (kinds ++ kind ∷ [])
of_one entities more kinds kind m one added are n =
    added n ∙ ap (λ b. (m == n) || b) (are n)
    ∙ sym (with_last kinds kind n ∙ ap (λ o. is_number o n || list_any (λ other. same other (itself (k.Entity n))) kinds) one)
