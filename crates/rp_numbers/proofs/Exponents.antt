-- Exponents in and out of reach.
use Rattle.std.proofs.Common.{◌≡◌, ℕ, ℤ, pos, ◌+ℤ◌, ◌-ℤ◌, ◌<◌, ◌^◌, Bool, true, false, Option, Some, None, if◌then◌else◌, subst, sym, ap, arith, ◌+◌, ◌-◌, ◌≤◌, ◌≤ℤ◌, negsuc, to_z, of_z}
use mir.Syntax.{w128}
use Rattle.std.proofs.lemmas.Int.{ints}
use Rattle.rp_numbers.specs.Spelling.{fits, signed}

-- as many digits as fit in memory do not bring it back
pub far : (b : Bool) (n behind zeros : ℕ) → 2 ^ 70 < n → behind < 2 ^ 64 → zeros < 2 ^ 65 → fits (signed b n -ℤ pos behind +ℤ pos zeros) ≡ false
far true n behind ended large short few = grind (arith, ints)
far false n behind ended large short few = grind (arith, ints)

pub refused : (x : ℤ) → fits x ≡ false → None ≡ (if fits x then Some x else None)
refused x out = sym (ap (λ b. if b then Some x else None) out)

pub given : (x y : ℤ) (result : Option ℤ) → result ≡ (if fits x then Some x else None) → x ≡ y → result ≡ (if fits y then Some y else None)
given x y result is same = subst (λ n. result ≡ (if fits n then Some n else None)) same is

pub near : (b : Bool) (n : ℕ) (p : ℤ) → n ≤ 2 ^ 70 → p ≡ signed b n → (negsuc (2 ^ 70) ≤ℤ p) × (p ≤ℤ pos (2 ^ 70))
near true n p small is = (omega (arith, ints), omega (arith, ints))
near false n p small is = (omega (arith, ints), omega (arith, ints))

-- the sum as 128 bits hold it
pub sum : (p : ℤ) (f behind before all : ℕ) → (negsuc (2 ^ 70) ≤ℤ p) × (p ≤ℤ pos (2 ^ 70)) → behind ≤ f → f < 2 ^ 64 → before < 2 ^ 64 → before + behind ≡ all → to_z w128 (of_z w128 (to_z w128 (of_z w128 (to_z w128 (of_z w128 p) -ℤ to_z w128 (f - behind))) +ℤ to_z w128 before)) ≡ p -ℤ pos f +ℤ pos all
sum p f behind before all small within short few whole = omega (arith, ints)
