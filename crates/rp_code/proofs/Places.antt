-- What begins further on, and what stays where instructions are written before others.
use Rattle.std.proofs.Common.{◌≡◌, ℕ, zero, suc, ◌+◌, ◌-◌, List, [], ◌∷◌, drop, length, refl, sym, ap, ◌∙◌, arith, zero-add}
use Rattle.rp_code.specs.declared.instruction.Instruction.{Instruction}
use Rattle.rp_code.specs.Denoted.{at}
use Rattle.rp_code.specs.Written.{Keeps}

-- what begins so far on is what the rest of the list denotes
pub begins : (code : List Instruction) (distance : ℕ) → at code distance ≡ at (drop distance code) 0
begins [] zero = refl
begins [] (suc distance) = refl
begins (x ∷ others) zero = refl
begins (x ∷ others) (suc distance) = begins others distance

abbrev none : List Instruction
none = []

drop_none : (k : ℕ) → drop k none ≡ none
drop_none zero = refl
drop_none (suc k) = refl

drop_sum : (a b : ℕ) (xs : List Instruction) → drop (a + b) xs ≡ drop b (drop a xs)
drop_sum zero b xs = ap (λ n. drop n xs) (zero-add b)
drop_sum (suc a) b [] = drop_none (suc a + b) ∙ sym (drop_none b)
drop_sum (suc a) b (x ∷ xs) =
    let e : suc a + b ≡ suc (a + b) = omega arith in
    ap (λ n. drop n (x ∷ xs)) e ∙ drop_sum a b xs

pub keeps_all : (code : List Instruction) → Keeps code code
keeps_all code =
    let e : length code - length code ≡ 0 = omega arith in
    record { more = omega arith; kept = ap (λ n. drop n code) e }

pub keeps_one : (x : Instruction) (code : List Instruction) → Keeps code (x ∷ code)
keeps_one x code =
    let e : length (x ∷ code) - length code ≡ 1 = omega arith in
    record { more = omega arith; kept = ap (λ n. drop n (x ∷ code)) e }

pub keeps_then : (old mid new : List Instruction) → Keeps old mid → Keeps mid new → Keeps old new
keeps_then old mid new first then_these =
    let e : length new - length old ≡ (length new - length mid) + (length mid - length old) = omega (arith, first.more, then_these.more) in
    record {
      more = omega (arith, first.more, then_these.more);
      kept = ap (λ n. drop n new) e ∙ (drop_sum (length new - length mid) (length mid - length old) new ∙ (ap (drop (length mid - length old)) then_these.kept ∙ first.kept));
    }
