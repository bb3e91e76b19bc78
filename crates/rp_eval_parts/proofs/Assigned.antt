-- Variables that get one value, several of them.
use Rattle.std.proofs.Common.{◌≡◌, ℕ, zero, suc, ◌+◌, ◌-◌, ◌<◌, ◌≤◌, List, length, refl, ap, arith, slice_set}
use Rattle.std.proofs.lemmas.List.{set_past}
use Rattle.rp_value.specs.declared.value.Value.{Value}
use Rattle.rp_meaning.specs.Expressions.{Scope}
use Rattle.rp_meaning.specs.Statements.{all_assigned, assigned}

set-past : (xs : List Value) (slot : ℕ) (x : Value) → length xs ≤ slot → slice_set xs slot x ≡ xs
set-past xs slot x h = set_past xs slot x h

-- of slots behind the last variable
pub assigned-past : (slot n : ℕ) (x : Value) (s : Scope) → length s.variables ≤ slot → all_assigned slot n x s ≡ s
assigned-past slot zero x s h = refl
assigned-past slot (suc n) x s h =
    let e : assigned s slot x ≡ s = ap (λ xs. record { itself = s.itself; variables = xs }) (set-past s.variables slot x h) in
    rw e (assigned-past (slot + 1) n x s (omega (arith, h)))

-- the first of those that are left
pub assigned-next : (slot count i : ℕ) (x : Value) (s : Scope) → i < count → all_assigned slot (count - i) x s ≡ all_assigned (slot + 1) (count - (i + 1)) x (assigned s slot x)
assigned-next slot count i x s h = let e : count - i ≡ suc (count - (i + 1)) = omega arith in rw e refl
