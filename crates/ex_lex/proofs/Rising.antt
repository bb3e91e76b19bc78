-- Each token of a text begins behind the first byte of the one before it.
use Rattle.std.proofs.Common.{◌≡◌, ℕ, zero, suc, ◌+◌, ◌-◌, ◌≤◌, List, [], ◌∷◌, map, take, Ok, Err, refl, subst, arith}
use Rattle.ex_lex.specs.declared.front.Start.{Start}
use Rattle.ex_lex.specs.declared.front.Start.TheVariants.{Blank, Token, Fault}
use Rattle.ex_lex.specs.Lexeme.{Lexeme}
use Rattle.ex_lex.specs.Lexical.{front}
use Rattle.ex_lex.specs.Spelling.{Lexemes, behind, with_front, lexemes_from, lexemes, Rise}

earlier : (from before : ℕ) (ns : List ℕ) → before ≤ from → Rise from ns → Rise before ns
earlier from before [] less rise = tt
earlier from before (n ∷ ns) less rise = (omega (arith, rise.0), rise.1)

found : (t : Lexeme) (after : Lexemes) (ts : List Lexeme) → behind (t ∷ []) after ≡ Ok ts
    → ((more : List Lexeme) → after ≡ Ok more → Rise (t.at + 1) (map (λ u. u.at) more)) → Rise t.at (map (λ u. u.at) ts)
found t (Err fault) ts is each = cc
found t (Ok more) [] is each = cc
found t (Ok more) (u ∷ us) is each =
    let same : t ∷ more ≡ u ∷ us = cc in
    subst (λ l. Rise t.at (map (λ u. u.at) l)) same (omega arith, each more refl)

from_front : (at : ℕ) (z : List ℕ) (s : Start) (after : ℕ → Lexemes) (ts : List Lexeme)
    → ((n : ℕ) (more : List Lexeme) → after n ≡ Ok more → Rise (at + 1 + (n - 1)) (map (λ u. u.at) more))
    → with_front s after at z ≡ Ok ts → Rise at (map (λ u. u.at) ts)
from_front at z (Blank n) after ts each goes = earlier (at + 1 + (n - 1)) at (map (λ u. u.at) ts) (omega arith) (each n ts goes)
from_front at z (Token kind n) after ts each goes =
    found (record { kind = kind; at = at; text = take n z }) (after n) ts goes
    (λ more then. earlier (at + 1 + (n - 1)) (at + 1) (map (λ u. u.at) more) (omega arith) (each n more then))
from_front at z (Fault kind) after ts each goes = cc

rise : (at left : ℕ) (z : List ℕ) (ts : List Lexeme) → lexemes_from at left z ≡ Ok ts → Rise (at + left) (map (λ u. u.at) ts)
rise at left [] [] goes = tt
rise at left [] (t ∷ ts) goes = cc
rise at (suc left) (b ∷ z) ts goes =
    let there : at + 1 + left ≡ at + suc left = omega arith in
    subst (λ n. Rise n (map (λ u. u.at) ts)) there (rise (at + 1) left z ts goes)
rise at zero (b ∷ z) ts goes =
    let there : at ≡ at + 0 = omega arith in
    subst (λ n. Rise n (map (λ u. u.at) ts)) there (
    from_front at (b ∷ z) (front (b ∷ z)) (λ n. lexemes_from (at + 1) (n - 1) z) ts
    (λ n more then. rise (at + 1) (n - 1) z more then) goes)

pub tokens_rise : (text : List ℕ) (ts : List Lexeme) → lexemes 0 text ≡ Ok ts → Rise 0 (map (λ t. t.at) ts)
unfolding lexemes
tokens_rise text ts goes = rise 0 0 text ts goes
