-- What the tokens of a text are, by what stands at its front.
use Rattle.std.proofs.Common.{◌≡◌, ℕ, zero, suc, ◌+◌, ◌-◌, ◌<◌, ◌≤◌, List, [], ◌∷◌, ◌++◌, length, map, take, drop, Ok, Err, refl, sym, ap, ◌∙◌, arith, add-zero, append_assoc, rules}
use Rattle.ex_tree.specs.declared.kind.TokenKind.{TokenKind}
use Rattle.ex_tree.specs.declared.fault.LexFaultKind.{LexFaultKind}
use Rattle.ex_lex.specs.declared.front.Start.TheVariants.{Blank, Token, Fault}
use Rattle.ex_lex.specs.Lexeme.{Lexeme, lexeme}
use Rattle.ex_tree.specs.declared.token.Token.{Token as Slice}
use Rattle.std.proofs.lemmas.List.{map_push}
use Rattle.ex_lex.specs.Lexical.{front}
use Rattle.ex_lex.specs.Spelling.{Lexemes, behind, lexemes_from, lexemes}

lexemes_from-drop : (n at : ℕ) (z : List ℕ) → n ≤ length z → lexemes_from at n z ≡ lexemes_from (at + n) 0 (drop n z)
lexemes_from-drop zero at z h = rw add-zero refl
lexemes_from-drop (suc n) at [] h = absurd (omega arith)
lexemes_from-drop (suc n) at (b ∷ z) h =
    let there : at + 1 + n ≡ at + suc n = omega arith in
    lexemes_from-drop n (at + 1) z (omega arith) ∙ ap (λ k. lexemes_from k 0 (drop n z)) there

-- after the n bytes in front, of which there is one at least
after_front : (n at b : ℕ) (z : List ℕ) → 1 ≤ n → n ≤ length (b ∷ z) → lexemes_from (at + 1) (n - 1) z ≡ lexemes_from (at + n) 0 (drop n (b ∷ z))
after_front zero at b z some fits = absurd (omega arith)
after_front (suc n) at b z some fits =
    let less : suc n - 1 ≡ n = omega arith in
    let there : at + 1 + n ≡ at + suc n = omega arith in
    ap (λ k. lexemes_from (at + 1) k z) less ∙ lexemes_from-drop n (at + 1) z (omega arith) ∙ ap (λ k. lexemes_from k 0 (drop n z)) there

pub lexemes-end : (at : ℕ) (z : List ℕ) → length z ≡ 0 → lexemes at z ≡ Ok []
unfolding lexemes
lexemes-end at [] none = refl
lexemes-end at (b ∷ z) none = absurd (omega arith)

pub lexemes-blank : (at n : ℕ) (z : List ℕ) → front z ≡ Blank n → 1 ≤ n → n ≤ length z → lexemes at z ≡ lexemes (at + n) (drop n z)
unfolding lexemes
lexemes-blank at n [] e some fits = absurd (omega arith)
lexemes-blank at n (b ∷ z) e some fits = rw e (after_front n at b z some fits)

pub lexemes-token : (at n : ℕ) (kind : TokenKind) (z : List ℕ) → front z ≡ Token kind n → 1 ≤ n → n ≤ length z
    → lexemes at z ≡ behind (record { kind = kind; at = at; text = take n z } ∷ []) (lexemes (at + n) (drop n z))
unfolding lexemes
lexemes-token at n kind [] e some fits = absurd (omega arith)
lexemes-token at n kind (b ∷ z) e some fits = rw e (ap (behind (record { kind = kind; at = at; text = take n (b ∷ z) } ∷ [])) (after_front n at b z some fits))

pub lexemes-fault : (at : ℕ) (kind : LexFaultKind) (z : List ℕ) → 0 < length z → front z ≡ Fault kind → lexemes at z ≡ Err (record { kind = kind; at = at })
unfolding lexemes
lexemes-fault at kind [] some e = absurd (omega arith)
lexemes-fault at kind (b ∷ z) some e = rw e refl

pub behind-behind : (found more : List Lexeme) (s : Lexemes) → behind found (behind more s) ≡ behind (found ++ more) s
behind-behind found more (Ok ts) = ap Ok (rw append_assoc refl)
behind-behind found more (Err fault) = refl

pub behind-nothing : (found : List Lexeme) → behind found (Ok []) ≡ Ok found
behind-nothing found = search rules

-- one token more is found
pub lexemes-found : (found new : List Slice) (t : Slice) (s rest : Lexemes) → new ≡ found ++ t ∷ [] → s ≡ behind (lexeme t ∷ []) rest
    → behind (map lexeme new) rest ≡ behind (map lexeme found) s
lexemes-found found new t s rest grown goes =
    ap (λ ts. behind (map lexeme ts) rest) grown
    ∙ ap (λ ls. behind ls rest) (map_push lexeme found t)
    ∙ sym (behind-behind (map lexeme found) (lexeme t ∷ []) rest)
    ∙ ap (behind (map lexeme found)) (sym goes)
