-- Values in parentheses, with commas between, are read again where each of them is.
use Rattle.std.proofs.Common.{◌≡◌, ℕ, Bool, true, false, if◌then◌else◌, List, [], ◌∷◌, ◌++◌, map, Ok, refl, sym, ◌∙◌, ap, le_refl, append_assoc, append-nil, arith, ◌≤◌}
use Rattle.text_forms.specs.Forms.{repeat, ◌>>=◌, ◌>>◌, pure}
use Rattle.p21_lexemes.specs.declared.token.TokenKind.TheVariants as k
use Rattle.p21_lexemes.specs.Tokens.{Lexemes, Parser, lexemes, expect, sees, sees_next, same_kind}
use Rattle.p21_grammar.specs.Grammar as grammar
use Rattle.p21_spelling.specs.Tokens.{enclosed, is_cut}
use Rattle.p21_spelling.specs.Values.{Spelling, more, listed, all_spelled, deepest}
use Rattle.p21_spelling.specs.Again.{Again, ReadsAgain, ReadsAnywhere}
use Rattle.p21_spelling.proofs.Runs.{first_holds, second_holds}
use Rattle.p21_spelling.proofs.Steps.{Reads, done, weak, first_then, also, no_turn, one_turn, comma_mark, close_mark, takes-open, takes-comma, closes}

no_comma : (at : ℕ) (rest : List ℕ) → sees k.Comma (lexemes at (41 ∷ rest)) ≡ false
unfolding same_kind
no_comma at rest = ap (sees k.Comma) (close_mark at rest)

a_comma : (at : ℕ) (rest : List ℕ) → sees k.Comma (lexemes at (44 ∷ rest)) ≡ true
unfolding same_kind
a_comma at rest = ap (sees k.Comma) (comma_mark at rest)

a_close : (at : ℕ) (rest : List ℕ) → sees k.Close (lexemes at (41 ∷ rest)) ≡ true
unfolding same_kind
a_close at rest = ap (sees k.Close) (close_mark at rest)

looks : (b : Bool) (at : ℕ) (rest : List ℕ) → sees k.Close (lexemes at rest) ≡ b → Reads (sees_next k.Close) [] b at rest
looks b at rest e = record { to = at; reads = ap (λ b. Ok (b, lexemes at rest)) e; no_more = le_refl _ }

pub more_cut : (vs : List Spelling) (rest : List ℕ) → is_cut (more vs ++ 41 ∷ rest) ≡ true
more_cut [] rest = refl
more_cut (v ∷ vs) rest = refl

-- what no value begins with
abbrev pub NoClose : {A : Type 0} → Parser A → Type 0
NoClose {A} item = (s after : Lexemes) (a : A) → item s ≡ Ok (a, after) → sees k.Close s ≡ false

module _ {E A : Type 0} (value : E → A) (spell : A → Spelling) (item : Parser A) (n : ℕ)
    (each : (e : E) → (spell (value e)).is_spelled ≡ true → (spell (value e)).levels ≤ n → ReadsAgain item (spell (value e)).text (value e)) (no_close : NoClose item) where
  abbrev spellings : List E → List Spelling
  spellings es = map spell (map value es)

  first_within : (e : E) (es : List E) → deepest (spellings (e ∷ es)) ≤ n → (spell (value e)).levels ≤ n
  first_within e es fits = omega arith

  others_within : (e : E) (es : List E) → deepest (spellings (e ∷ es)) ≤ n → deepest (spellings es) ≤ n
  others_within e es fits = omega arith

  one : (e : E) (es : List E) → all_spelled (spellings (e ∷ es)) ≡ true → deepest (spellings (e ∷ es)) ≤ n → ReadsAgain item (spell (value e)).text (value e)
  one e es good fits = each e (first_holds (spell (value e)).is_spelled (all_spelled (spellings es)) good) (first_within e es fits)

  pub more_again : (es : List E) (found : List A) (at : ℕ) (rest : List ℕ) → all_spelled (spellings es) ≡ true → deepest (spellings es) ≤ n
      → Reads (repeat (sees k.Comma) (expect k.Comma >> item) found) (more (spellings es)) (found ++ map value es) at (41 ∷ rest)
  more_again [] found at rest good fits = rw (append-nil found) (no_turn (sees k.Comma) (expect k.Comma >> item) found at (41 ∷ rest) (no_comma at rest))
  more_again (e ∷ es) found at rest good fits =
      let t = (spell (value e)).text in
      let u = more (spellings es) in
      let step : Again (expect k.Comma >> item) (44 ∷ t) (value e) at (u ++ 41 ∷ rest) =
      first_then (44 ∷ []) t (u ++ 41 ∷ rest) (λ _. item) (value e) (takes-comma at (t ++ (u ++ 41 ∷ rest))) (weak (one e es good fits _ (u ++ 41 ∷ rest) (more_cut (spellings es) rest))) in
      let others = more_again es (found ++ value e ∷ []) step.to rest (second_holds (spell (value e)).is_spelled (all_spelled (spellings es)) good) (others_within e es fits) in
      one_turn (sees k.Comma) (expect k.Comma >> item) found (found ++ value e ∷ map value es) (44 ∷ t) u (41 ∷ rest) (a_comma at (t ++ (u ++ 41 ∷ rest))) step
      (rw (sym (append_assoc found (value e ∷ []) (map value es))) others)

  separated_again : (e : E) (es : List E) (at : ℕ) (rest : List ℕ) → all_spelled (spellings (e ∷ es)) ≡ true → deepest (spellings (e ∷ es)) ≤ n
      → Again (grammar.separated item) (listed (spellings (e ∷ es))) (map value (e ∷ es)) at (41 ∷ rest)
  separated_again e es at rest good fits =
      let u = more (spellings es) in
      let first = one e es good fits at (u ++ 41 ∷ rest) (more_cut (spellings es) rest) in
      first_then (spell (value e)).text u (41 ∷ rest) _ (map value (e ∷ es)) first
      (more_again es (value e ∷ []) first.to rest (second_holds (spell (value e)).is_spelled (all_spelled (spellings es)) good) (others_within e es fits))

  abbrev closed : List A → Parser (List A)
  closed found = expect k.Close >> pure found

  -- where a closing parenthesis comes next, or doesn't
  abbrev behind_open : Bool → Parser (List A)
  behind_open is_empty = (if is_empty then pure [] else grammar.separated item) >>= closed

  inside : (es : List E) (at : ℕ) (rest : List ℕ) → all_spelled (spellings es) ≡ true → deepest (spellings es) ≤ n → Reads (sees_next k.Close >>= behind_open) (listed (spellings es) ++ 41 ∷ []) (map value es) at rest
  inside [] at rest good fits =
      let look = looks true at (41 ∷ rest) (a_close at rest) in
      let none : Reads (pure {A = List A} []) [] [] look.to (41 ∷ rest) = done [] look.to (41 ∷ rest) in
      also [] (41 ∷ []) rest behind_open [] look (also [] (41 ∷ []) rest closed [] none (closes [] none.to rest))
  inside (e ∷ es) at rest good fits =
      let t = (spell (value e)).text in
      let u = more (spellings es) in
      let joined : ((t ++ u) ++ 41 ∷ []) ++ rest ≡ t ++ (u ++ 41 ∷ rest) = append_assoc (t ++ u) (41 ∷ []) rest ∙ append_assoc t u (41 ∷ rest) in
      let first = one e es good fits at (u ++ 41 ∷ rest) (more_cut (spellings es) rest) in
      let apart = ap (λ l. sees k.Close (lexemes at l)) joined ∙ no_close _ _ (value e) first.reads in
      let look = looks false at (((t ++ u) ++ 41 ∷ []) ++ rest) apart in
      let all = separated_again e es look.to rest good fits in
      also [] ((t ++ u) ++ 41 ∷ []) rest behind_open (map value (e ∷ es)) look
      (also (t ++ u) (41 ∷ []) rest closed (map value (e ∷ es)) (weak all) (closes (map value (e ∷ es)) all.to rest))

  -- `(value,value,..)`
  pub listed_again : (es : List E) → all_spelled (spellings es) ≡ true → deepest (spellings es) ≤ n → ReadsAnywhere (grammar.listed item) (enclosed (listed (spellings es))) (map value es)
  unfolding grammar.listed
  listed_again es good fits = λ at rest.
      let t = listed (spellings es) ++ 41 ∷ [] in
      let first = takes-open at (t ++ rest) in
      first_then (40 ∷ []) t rest _ (map value es) first (inside es first.to rest good fits)
