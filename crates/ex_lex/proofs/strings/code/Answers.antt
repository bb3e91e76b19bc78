use Rattle.std.proofs.Common.{◌≡◌, ℕ, suc, ◌+◌, ◌*◌, ◌^◌, ◌<◌, ◌≤◌, ◌∙◌, ap, take, get_or, inl, inr, arith}
use Rattle.std.specs.Char.{is_ascii_hexdigit}
use Rattle.std.proofs.Math.Nat.{pow-suc, pow-le-pow_right}
use Rattle.std.proofs.lemmas.Bool.{cases_Bool}
use Rattle.std.proofs.lemmas.List.{take_more}
use Rattle.std.proofs.lemmas.List.Folds.{list_all_at}
use Rattle.std.proofs.lemmas.Int.Digits.{digits_value_push}
use Rattle.std.specs.Str.Parse.{digits_value}
use Rattle.ex_lex.proofs.strings.code.Goals as goal

sixteenfold : (i : ℕ) → 16 ^ (i + 1) ≡ 16 * 16 ^ i
sixteenfold i = let next : i + 1 ≡ suc i = omega arith in ap (λ n. 16 ^ n) next ∙ pow-suc 16 i ∙ omega arith

eight_digits : (i : ℕ) → i < 8 → 16 * 16 ^ i ≤ 4294967296
eight_digits i less =
    let most : 16 ^ (i + 1) ≤ 16 ^ 8 = pow-le-pow_right {n = 16} (omega arith) {i = i + 1} {j = 8} (omega arith) in
    omega (arith, sixteenfold i)

pub digit-requires : goal.digit-requires
digit-requires c =
    let ds = c.args.digits.now in
    let i = c.digits.b-index in
    elim (cases_Bool (is_ascii_hexdigit (get_or ds i 0))) [
      | inl is ↦ is
      | inr unlike ↦ let none = list_all_at is_ascii_hexdigit ds i 0 c.digits-test.true unlike in cc (none, c.requires.hexadecimal)
    ]

pub overflow_mul-value : goal.overflow_mul-value
overflow_mul-value c = omega (arith, eight_digits c.digits.b-index (omega arith), c.digits.invariant.1)

pub overflow_add-value : goal.overflow_add-value
overflow_add-value c = omega (arith, eight_digits c.digits.b-index (omega arith), c.digits.invariant.1, c.digit.ensures.below)

pub digits-preserved : goal.digits-preserved
digits-preserved c =
    let ds = c.args.digits.now in
    let i = c.digits.b-index in
    let more = ap (digits_value 16) (take_more ds i 0 c.digits-test.true) ∙ digits_value_push 16 (take i ds) (get_or ds i 0) in (
      omega (arith, more, c.digits.invariant.0, c.digit.ensures.value),
      omega (arith, sixteenfold i, c.digits.invariant.1, c.digit.ensures.below),
    )
