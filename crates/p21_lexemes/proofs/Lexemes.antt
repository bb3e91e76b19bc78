-- What the tokens of a text are, by what stands at its front.
use Rattle.std.proofs.Common.{◌≡◌, ℕ, zero, suc, ◌+◌, ◌-◌, ◌<◌, ◌≤◌, Bool, true, false, cond, List, [], ◌∷◌, length, take, drop, refl, sym, ap, ◌∙◌, arith, add-zero}
use Rattle.std.proofs.lemmas.List.{length-drop}
use Rattle.std.specs.List.{prefix_len}
use Rattle.p21_lexemes.specs.declared.token.TokenKind.{TokenKind}
use Rattle.p21_tree.specs.declared.fault.FaultKind.{FaultKind}
use Rattle.p21_lexemes.specs.declared.front.Start.TheVariants.{Blank, Token, Fault}
use Rattle.p21_lexemes.specs.Lexical.{front, is_blank}
use Rattle.p21_lexemes.specs.Tokens.{before, faulty, ended, lexemes_from, lexemes}

lexemes_from-drop : (n at : ℕ) (z : List ℕ) → n ≤ length z → lexemes_from at n z ≡ lexemes_from (at + n) 0 (drop n z)
lexemes_from-drop zero at z h = rw add-zero refl
lexemes_from-drop (suc n) at [] h = absurd (omega arith)
lexemes_from-drop (suc n) at (b ∷ z) h =
    let there : at + 1 + n ≡ at + suc n = omega arith in
    lexemes_from-drop n (at + 1) z (omega arith) ∙ ap (λ k. lexemes_from k 0 (drop n z)) there

-- after the n bytes in front, of which there is one at least
after_front : (n at b : ℕ) (z : List ℕ) → 1 ≤ n → n ≤ length (b ∷ z) → lexemes_from (at + 1) (n - 1) z ≡ lexemes_from (at + n) 0 (drop n (b ∷ z))
after_front zero at b z some fits = absurd (omega arith)
after_front (suc n) at b z some fits =
    let less : suc n - 1 ≡ n = omega arith in
    let there : at + 1 + n ≡ at + suc n = omega arith in
    ap (λ k. lexemes_from (at + 1) k z) less ∙ lexemes_from-drop n (at + 1) z (omega arith) ∙ ap (λ k. lexemes_from k 0 (drop n z)) there

pub lexemes-end : (at : ℕ) (z : List ℕ) → length z ≡ 0 → lexemes at z ≡ ended at
unfolding lexemes
lexemes-end at [] none = refl
lexemes-end at (b ∷ z) none = absurd (omega arith)

pub lexemes-blank : (at n : ℕ) (z : List ℕ) → front z ≡ Blank n → 1 ≤ n → n ≤ length z → lexemes at z ≡ lexemes (at + n) (drop n z)
unfolding lexemes
lexemes-blank at n [] e some fits = absurd (omega arith)
lexemes-blank at n (b ∷ z) e some fits = rw e (after_front n at b z some fits)

pub lexemes-token : (at n : ℕ) (kind : TokenKind) (z : List ℕ) → front z ≡ Token kind n → 1 ≤ n → n ≤ length z
    → lexemes at z ≡ before (record { kind = kind; at = at; text = take n z }) (lexemes (at + n) (drop n z))
unfolding lexemes
lexemes-token at n kind [] e some fits = absurd (omega arith)
lexemes-token at n kind (b ∷ z) e some fits = rw e (ap (before (record { kind = kind; at = at; text = take n (b ∷ z) })) (after_front n at b z some fits))

pub lexemes-fault : (at : ℕ) (kind : FaultKind) (z : List ℕ) → 0 < length z → front z ≡ Fault kind → lexemes at z ≡ faulty kind at
unfolding lexemes
lexemes-fault at kind [] some e = absurd (omega arith)
lexemes-fault at kind (b ∷ z) some e = rw e refl

-- ---- blanks in front

one_more : (at b : ℕ) (z : List ℕ) (t : Bool) → is_blank b ≡ t → lexemes (at + 1) z ≡ lexemes (at + 1 + prefix_len is_blank z) (drop (prefix_len is_blank z) z)
    → lexemes at (b ∷ z) ≡ lexemes (at + cond t (1 + prefix_len is_blank z) 0) (drop (cond t (1 + prefix_len is_blank z) 0) (b ∷ z))
unfolding front
one_more at b z true is more =
    let n = prefix_len is_blank z in
    let blank : front (b ∷ z) ≡ Blank 1 = rw is refl in
    let there : at + 1 + n ≡ at + (1 + n) = omega arith in
    let same : suc n ≡ 1 + n = omega arith in
    lexemes-blank at 1 (b ∷ z) blank (omega arith) (omega arith) ∙ more ∙ ap (λ k. lexemes k (drop n z)) there ∙ ap (λ k. lexemes (at + (1 + n)) (drop k (b ∷ z))) same
one_more at b z false is more = rw add-zero refl

lexemes-blanks : (at : ℕ) (z : List ℕ) → lexemes at z ≡ lexemes (at + prefix_len is_blank z) (drop (prefix_len is_blank z) z)
lexemes-blanks at [] = rw add-zero refl
lexemes-blanks at (b ∷ z) = one_more at b z (is_blank b) refl (lexemes-blanks (at + 1) z)

pub place-drop : (end n : ℕ) (z : List ℕ) → n ≤ length z → length z ≤ end → end - length (drop n z) ≡ end - length z + n
place-drop end n z fits within = rw (length-drop n z) (omega arith)

-- the same, of a text that ends at the place `end`
pub lexemes_after_blanks : (end n : ℕ) (z : List ℕ) → n ≡ prefix_len is_blank z → n ≤ length z → length z ≤ end
    → lexemes (end - length (drop n z)) (drop n z) ≡ lexemes (end - length z) z
lexemes_after_blanks end n z is fits within =
    ap (λ k. lexemes k (drop n z)) (place-drop end n z fits within) ∙ ap (λ k. lexemes (end - length z + k) (drop k z)) is ∙ sym (lexemes-blanks (end - length z) z)
