-- The tokens of a text, in order, or its first lexical fault (ISO 10303-11:1994, clause 7).
use Rattle.std.specs.Prelude.{ℕ, zero, suc, ◌+◌, ◌-◌, ◌≡◌, ◌≤◌, List, [], ◌∷◌, length, ◌++◌, take, drop, Result, Ok, Err}
use Rattle.ex_tree.specs.declared.fault.LexFault.{LexFault}
use Rattle.ex_lex.specs.declared.front.Start.{Start}
use Rattle.ex_lex.specs.declared.front.Start.TheVariants as start
use Rattle.ex_lex.specs.Lexeme.{Lexeme, Lexed}
use Rattle.ex_lex.specs.Lexical.{front}

abbrev pub Lexemes : Type 0
Lexemes = Result (List Lexeme) LexFault

-- what follows these tokens
abbrev pub behind : List Lexeme → Lexemes → Lexemes
behind found (Ok ts) = Ok (found ++ ts)
behind found (Err fault) = Err fault

-- What stands in front, and then what `after` says of the place that comes so many bytes later.
abbrev pub with_front : Start → (ℕ → Lexemes) → ℕ → List ℕ → Lexemes
with_front (start.Blank n) after at z = after n
with_front (start.Token kind n) after at z = behind (record { kind = kind; at = at; text = take n z } ∷ []) (after n)
with_front (start.Fault kind) after at z = Err (record { kind = kind; at = at })

-- The tokens from the place `at` on. The second number counts the bytes left of what stands in front.
abbrev pub lexemes_from : ℕ → ℕ → List ℕ → Lexemes
lexemes_from at left [] = Ok []
lexemes_from at (suc left) (b ∷ z) = lexemes_from (at + 1) left z
lexemes_from at zero (b ∷ z) = with_front (front (b ∷ z)) (λ n. lexemes_from (at + 1) (n - 1) z) at (b ∷ z)

-- the tokens of a text that begins at the place `at`
unfoldable pub lexemes : ℕ → List ℕ → Lexemes
lexemes at z = lexemes_from at 0 z

abbrev pub of_length : ℕ → Lexemes → Result Lexed LexFault
of_length n (Ok ts) = Ok (record { lexemes = ts; length = n })
of_length n (Err fault) = Err fault

-- the tokens of a whole text, and its length
unfoldable pub tokens : List ℕ → Result Lexed LexFault
tokens text = of_length (length text) (lexemes 0 text)

-- each is the slice of the text at its place, and begins no earlier than the one before it ends
abbrev pub AreSlices : List ℕ → ℕ → List Lexeme → Type 0
AreSlices text from [] = Unit {0}
AreSlices text from (t ∷ ts) = (from ≤ t.at) × (t.text ≡ take (length t.text) (drop t.at text)) × AreSlices text (t.at + length t.text) ts

-- numbers of which each is greater than the one before it; the first is no less than `from`
abbrev pub Rise : ℕ → List ℕ → Type 0
Rise from [] = Unit {0}
Rise from (n ∷ ns) = (from ≤ n) × Rise (n + 1) ns
