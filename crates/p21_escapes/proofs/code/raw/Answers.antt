use Rattle.std.proofs.Common.{◌≡◌, ◌≤◌, ◌-◌, ℕ, List, Bool, true, false, ◌==◌, nat_le, take, drop, length, length-drop, Ok, Err, refl, ap, sym, ◌∙◌, arith}
use Rattle.std.proofs.lemmas.Bool.{eqb-true}
use Rattle.std.proofs.lemmas.Bool.Decides.{nat_tests}
use Rattle.std.proofs.lemmas.Str.{is_utf8-from_IsUtf8, IsUtf8-from_is_utf8}
use Rattle.std.specs.Str.{is_utf8, IsUtf8}
use Rattle.p21_escapes.specs.declared.fault.StringFault.TheVariants.{NotUtf8}
use Rattle.p21_escapes.specs.Decoding.{raw}
use Rattle.p21_escapes.specs.LineEnds.{four}
use Rattle.p21_escapes.proofs.LineEnds.{window, some_left}
use Rattle.p21_escapes.proofs.code.raw.Goals as goal

fits : (n m : ℕ) → n ≤ m → nat_le n m ≡ true
fits n m h = grind (arith, nat_tests)

no_fit : (n m : ℕ) → m ≤ n - 1 → 1 ≤ n → nat_le n m ≡ false
no_fit n m h some = grind (arith, nat_tests)

raw_ok : (n : ℕ) (z bytes text : List ℕ) → n ≤ 4 → n ≤ length z → bytes ≡ four z → IsUtf8 (take n bytes) → text ≡ take n bytes → raw n z ≡ Ok (n, text)
unfolding raw
raw_ok n z bytes text few h are utf8 is =
    let same : take n bytes ≡ take n z = ap (take n) are ∙ window n z few h in
    let utf8' : IsUtf8 (take n z) = rw (sym same) utf8 in
    rw (fits n (length z) h, is_utf8-from_IsUtf8 (take n z) utf8') (ap (λ l. Ok (n, l)) (sym (is ∙ same)))

no_text : (z : List ℕ) (t : Bool) → is_utf8 z ≡ t → (IsUtf8 z → ⊥) → t ≡ false
no_text z false is no_utf8 = refl
no_text z true is no_utf8 = absurd (no_utf8 (IsUtf8-from_is_utf8 z is))

raw_err : (n : ℕ) (z bytes : List ℕ) → n ≤ 4 → n ≤ length z → bytes ≡ four z → (IsUtf8 (take n bytes) → ⊥) → raw n z ≡ Err NotUtf8
unfolding raw
raw_err n z bytes few h are no_utf8 =
    let same : take n bytes ≡ take n z = ap (take n) are ∙ window n z few h in
    let no_utf8' : IsUtf8 (take n z) → ⊥ = rw (sym same) no_utf8 in
    rw (fits n (length z) h, no_text (take n z) (is_utf8 (take n z)) refl no_utf8') refl

raw_short : (n : ℕ) (z : List ℕ) → 1 ≤ n → length (drop (n - 1) z) ≡ 0 → raw n z ≡ Err NotUtf8
unfolding raw
raw_short n z some none =
    let few : length z ≤ n - 1 = omega (arith, length-drop (n - 1) z) in
    rw (no_fit n (length z) few some) refl

there : (n : ℕ) (z rest : List ℕ) → 1 ≤ n → rest ≡ drop (n - 1) z → (length rest == 0) ≡ false → n ≤ length z
there n z rest some is more = omega (arith, length-drop (n - 1) z, ap length is, some_left rest more)

pub returns-then-is_empty : goal.returns-then-is_empty
returns-then-is_empty c =
    raw_short c.args.n c.args.z.now c.requires.n.0 (sym (ap length c.after.ensures.value) ∙ eqb-true (length c.after.result) 0 (sym c.is_empty.ensures ∙ c.if-is_empty.true))

pub returns-in-Ok : goal.returns-in-Ok
returns-in-Ok c =
    raw_ok c.args.n c.args.z.now c.args.four.now c.in-Ok.text.now c.requires.n.1
    (there c.args.n c.args.z.now c.after.result c.requires.n.0 c.after.ensures.value (sym c.is_empty.ensures ∙ c.if-is_empty.false))
    c.requires.four c.in-Ok.ensures.cases.1 c.in-Ok.ensures.cases.0

pub returns-in-Err : goal.returns-in-Err
returns-in-Err c =
    raw_err c.args.n c.args.z.now c.args.four.now c.requires.n.1
    (there c.args.n c.args.z.now c.after.result c.requires.n.0 c.after.ensures.value (sym c.is_empty.ensures ∙ c.if-is_empty.false))
    c.requires.four c.in-Err.ensures.cases.0
