-- The tokens of a text are slices of it, in order.
use Rattle.std.proofs.Common.{◌≡◌, ℕ, zero, suc, ◌+◌, ◌-◌, ◌≤◌, List, [], ◌∷◌, length, take, drop, Ok, Err, refl, sym, ap, subst, ◌∙◌, arith}
use Rattle.ex_lex.specs.declared.front.Start.{Start}
use Rattle.ex_lex.specs.declared.front.Start.TheVariants.{Blank, Token, Fault}
use Rattle.ex_lex.specs.Lexeme.{Lexeme}
use Rattle.ex_lex.specs.Lexical.{front}
use Rattle.ex_lex.specs.Spelling.{Lexemes, behind, with_front, lexemes_from, lexemes, AreSlices}

earlier : (text : List ℕ) (from before : ℕ) (ts : List Lexeme) → before ≤ from → AreSlices text from ts → AreSlices text before ts
earlier text from before [] less are = tt
earlier text from before (t ∷ ts) less are = (omega (arith, are.0), are.1, are.2)

take-again : (n : ℕ) (z : List ℕ) → take (length (take n z)) z ≡ take n z
take-again zero z = refl
take-again (suc n) [] = refl
take-again (suc n) (b ∷ z) = ap (λ r. b ∷ r) (take-again n z)

length-take-le : (n : ℕ) (z : List ℕ) → length (take n z) ≤ n
length-take-le zero z = omega arith
length-take-le (suc n) [] = omega arith
length-take-le (suc n) (b ∷ z) = omega (arith, length-take-le n z)

rest : (at b : ℕ) (z text : List ℕ) → drop at text ≡ b ∷ z → drop (at + 1) text ≡ z
rest zero b z text is = ap (drop 1) is
rest (suc at) b z [] is = cc
rest (suc at) b z (c ∷ text) is = let there : suc at + 1 ≡ suc (at + 1) = omega arith in ap (λ n. drop n (c ∷ text)) there ∙ rest at b z text is

-- what follows a token that was found
found : (text : List ℕ) (t : Lexeme) (after : Lexemes) (ts : List Lexeme) → behind (t ∷ []) after ≡ Ok ts
    → ((more : List Lexeme) → after ≡ Ok more → AreSlices text (t.at + length t.text) more)
    → t.text ≡ take (length t.text) (drop t.at text) → AreSlices text t.at ts
found text t (Err fault) ts is each slice = cc
found text t (Ok more) [] is each slice = cc
found text t (Ok more) (u ∷ us) is each slice =
    let same : t ∷ more ≡ u ∷ us = cc in
    subst (AreSlices text t.at) same (omega arith, slice, each more refl)

from_front : (text : List ℕ) (at : ℕ) (z : List ℕ) (s : Start) (after : ℕ → Lexemes) (ts : List Lexeme) → drop at text ≡ z
    → ((n : ℕ) (more : List Lexeme) → after n ≡ Ok more → AreSlices text (at + 1 + (n - 1)) more)
    → with_front s after at z ≡ Ok ts → AreSlices text at ts
from_front text at z (Blank n) after ts is each goes = earlier text (at + 1 + (n - 1)) at ts (omega arith) (each n ts goes)
from_front text at z (Token kind n) after ts is each goes =
    found text (record { kind = kind; at = at; text = take n z }) (after n) ts goes
    (λ more then. earlier text (at + 1 + (n - 1)) (at + length (take n z)) more (omega (arith, length-take-le n z)) (each n more then))
    (rw is (sym (take-again n z)))
from_front text at z (Fault kind) after ts is each goes = cc

are_slices : (text : List ℕ) (at left : ℕ) (z : List ℕ) (ts : List Lexeme) → drop at text ≡ z → lexemes_from at left z ≡ Ok ts → AreSlices text (at + left) ts
are_slices text at left [] [] is goes = tt
are_slices text at left [] (t ∷ ts) is goes = cc
are_slices text at (suc left) (b ∷ z) ts is goes =
    let there : at + 1 + left ≡ at + suc left = omega arith in
    subst (λ n. AreSlices text n ts) there (are_slices text (at + 1) left z ts (rest at b z text is) goes)
are_slices text at zero (b ∷ z) ts is goes =
    let there : at ≡ at + 0 = omega arith in
    subst (λ n. AreSlices text n ts) there (
    from_front text at (b ∷ z) (front (b ∷ z)) (λ n. lexemes_from (at + 1) (n - 1) z) ts is
    (λ n more then. are_slices text (at + 1) (n - 1) z more (rest at b z text is) then) goes)

pub tokens_are_slices : (text : List ℕ) (ts : List Lexeme) → lexemes 0 text ≡ Ok ts → AreSlices text 0 ts
unfolding lexemes
tokens_are_slices text ts goes = are_slices text 0 0 text ts refl goes
