-- What is made of the bytes of a string, where the lexer passes over it and where its content is read.
use Rattle.std.proofs.Common.{◌≡◌, ℕ, zero, suc, ◌+◌, ◌-◌, ◌<◌, ◌≤◌, Bool, true, false, cond, ◌==◌, List, [], ◌∷◌, ◌++◌, length, take, drop, get_or, min, Option, Some, None, option_and_then, String, Global, string_bytes, refl, sym, ap, ◌∙◌, arith, rules}
use Rattle.std.proofs.lemmas.Bool.{ne_eqb, le-ltb, false≢true}
use Rattle.std.proofs.lemmas.List.{drop_more, drop-drop, length-drop, append_assoc, append-nil, drop_all}
use Rattle.std.specs.List.{fold}
use Rattle.memchr.specs.Find.{is_byte2}
use Rattle.json.specs.Text.{content, plain, after_backslash, after_u, prepend, short_escape}
use Rattle.json.specs.Word.{is_operator, is_space}
use Rattle.json.specs.Token.{Token, begin_object, end_object, key, string}
use Rattle.json.specs.Json.{read_key, members}
use Rattle.json.specs.Json as json
use Rattle.json.specs.Lex.{Lexeme, token, comma, colon, Mode, lex, lex_byte, between, in_string, in_escape, operator, space, other, quote, backslash, string_token}
use Rattle.json.specs.Lex.{Place, fresh, after_value, after_comma, after_key, may_begin, punctuate, tokens}
use Rattle.json.proofs.Grammar.{value_is}
use Rattle.serde_json.specs.Data as json_data
use Rattle.serde_json.specs.Data.{Members, put}
use Rattle.serde_json.specs.Read.{of_json, of_members, converted}
use Rattle.serde_json.specs.View.{view}
use Rattle.serde_json.specs.declared.value.Value as value
use Rattle.serde_json.specs.declared.value.Value.{the_lemmas}
use Rattle.shallow_json.proofs.Reading.{member_read}
use Rattle.shallow_json.specs.Texts.{HasNoControl}

-- ---- no control characters

least : (a x : ℕ) (xs : List ℕ) → 32 ≤ fold min a xs → 32 ≤ a
least a x [] h = h
least a x (y ∷ ys) h = let m = least (min a y) x ys h in omega (arith, m)

pub no_control : (a : ℕ) (xs : List ℕ) → 32 ≤ fold min a xs → HasNoControl xs
no_control a [] h = tt
no_control a (x ∷ xs) h = let m = least (min a x) x xs h in (omega (arith, m), no_control (min a x) xs h)

pub no_control-drop : (n : ℕ) (xs : List ℕ) → HasNoControl xs → HasNoControl (drop n xs)
no_control-drop zero xs h = h
no_control-drop (suc n) [] h = tt
no_control-drop (suc n) (x ∷ xs) h = no_control-drop n xs h.1

-- ---- the steps of `content`

prepend-prepend : (a b : List ℕ) (r : Option (List ℕ)) → prepend a (prepend b r) ≡ prepend (a ++ b) r
prepend-prepend a b None = refl
prepend-prepend a b (Some s) = ap Some (sym (append_assoc a b s))

prepend-nil : (r : Option (List ℕ)) → prepend [] r ≡ r
prepend-nil None = refl
prepend-nil (Some s) = refl

pub more_read : (a b c : List ℕ) (r : Option (List ℕ)) → c ≡ a ++ b → prepend a (prepend b r) ≡ prepend c r
more_read a b c r e = prepend-prepend a b r ∙ ap (λ l. prepend l r) (sym e)

pub at_quote : (d : List ℕ) (i : ℕ) → i < length d → get_or d i 0 ≡ 34 → content plain (drop i d) ≡ Some []
unfolding content
at_quote d i h e = ap (content plain) (drop_more d i 0 h ∙ ap (λ x. x ∷ drop (i + 1) d) e)

at_backslash : (d : List ℕ) (i : ℕ) → i < length d → get_or d i 0 ≡ 92 → content plain (drop i d) ≡ content after_backslash (drop (i + 1) d)
unfolding content
at_backslash d i h e = ap (content plain) (drop_more d i 0 h ∙ ap (λ x. x ∷ drop (i + 1) d) e)

content-after_backslash : (d : List ℕ) (i : ℕ) → i < length d → content after_backslash (drop i d)
    ≡ cond (get_or d i 0 == 117) (content after_u (drop (i + 1) d)) (option_and_then (λ c. prepend (c ∷ []) (content plain (drop (i + 1) d))) (short_escape (get_or d i 0)))
unfolding content
content-after_backslash d i h = ap (content after_backslash) (drop_more d i 0 h)

-- ---- a run

passes : (a b : Bool) (x : ℕ) (xs : List ℕ) (k : Mode → List Lexeme) → lex_byte in_string (cond a operator (cond b space other)) x xs k ≡ k in_string
passes true b x xs k = refl
passes false true x xs k = refl
passes false false x xs k = refl

-- what both readers make of the bytes xs up to the n-th
abbrev Passed : List ℕ → ℕ → Type 0
Passed xs n = (content plain xs ≡ prepend (take n xs) (content plain (drop n xs))) × (lex in_string xs ≡ lex in_string (drop n xs))

step : (x : ℕ) (xs : List ℕ) (n : ℕ) → (x ≡ 34 → ⊥) → (x ≡ 92 → ⊥) → 32 ≤ x → Passed xs n → Passed (x ∷ xs) (suc n)
unfolding content lex
step x xs n q s c ih = (
  (λ i. cond (ne_eqb x 34 q i) (Some []) (cond (ne_eqb x 92 s i) (content after_backslash xs) (cond (le-ltb x 32 c i) None (prepend (x ∷ []) (ih.0 i))))) ∙ prepend-prepend (x ∷ []) (take n xs) _,
  (λ i. lex_byte in_string (cond (ne_eqb x 34 q i) quote (cond (ne_eqb x 92 s i) backslash (cond (is_operator x) operator (cond (is_space x) space other)))) x xs (λ next. lex next xs))
      ∙ passes (is_operator x) (is_space x) x xs (λ next. lex next xs) ∙ ih.1,
)

pub run : (n : ℕ) (xs : List ℕ) → n ≤ length xs → HasNoControl xs → ((k : ℕ) → 0 ≤ k → k < n → is_byte2 34 92 (get_or xs k 0) ≡ true → ⊥) → Passed xs n
run zero xs room clean none = (sym (prepend-nil _), refl)
run (suc n) [] room clean none = absurd (omega arith)
run (suc n) (x ∷ xs) room clean none =
    step x xs n (λ e. none 0 (omega arith) (omega arith) (ap (is_byte2 34 92) e)) (λ e. none 0 (omega arith) (omega arith) (ap (is_byte2 34 92) e)) clean.0
    (run n xs (omega (arith, room)) clean.1 (λ k l u e. none (suc k) (omega arith) (omega (arith, u)) e))

pub run_from : (d : List ℕ) (at n : ℕ) → at + n ≤ length d → HasNoControl d → ((k : ℕ) → 0 ≤ k → k < n → is_byte2 34 92 (get_or (drop at d) k 0) ≡ true → ⊥)
    → (content plain (drop at d) ≡ prepend (take n (drop at d)) (content plain (drop (at + n) d))) × (lex in_string (drop at d) ≡ lex in_string (drop (at + n) d))
run_from d at n room clean none =
    let r = run n (drop at d) (omega (arith, length-drop at d)) (no_control-drop at d clean) none in
    (r.0 ∙ ap (λ l. prepend (take n (drop at d)) (content plain l)) (drop-drop n at d), r.1 ∙ ap (lex in_string) (drop-drop n at d))

pub run_read : (d r : List ℕ) (at n : ℕ) → at + n ≤ length d → HasNoControl d → ((k : ℕ) → 0 ≤ k → k < n → is_byte2 34 92 (get_or (drop at d) k 0) ≡ true → ⊥)
    → r ≡ take (at + n - at) (drop at d) → length r + at ≡ at + n
    → (content plain (drop at d) ≡ prepend r (content plain (drop (at + length r) d))) × (lex in_string (drop at d) ≡ lex in_string (drop (at + length r) d))
run_read d r at n room clean none same long =
    let p = run_from d at n room clean none in
    let count : n ≡ length r = omega (arith, long) in
    let less : at + n - at ≡ n = omega arith in
    let piece : take n (drop at d) ≡ r = sym (same ∙ ap (λ k. take k (drop at d)) less) in
    (p.0 ∙ (λ i. prepend (piece i) (content plain (drop (at + count i) d))), p.1 ∙ (λ i. lex in_string (drop (at + count i) d)))

-- ---- an escape, and the end

pub escape_read : (d : List ℕ) (at c : ℕ) → at + 2 ≤ length d → get_or d at 0 ≡ 92 → (get_or d (at + 1) 0 ≡ 117 → ⊥) → short_escape (get_or d (at + 1) 0) ≡ Some c
    → content plain (drop at d) ≡ prepend (c ∷ []) (content plain (drop (at + 2) d))
escape_read d at c room slash unlike e =
    let x = get_or d (at + 1) 0 in
    let two : at + 1 + 1 ≡ at + 2 = omega arith in
    at_backslash d at (omega (arith, room)) slash ∙ content-after_backslash d (at + 1) (omega (arith, room))
    ∙ (λ i. cond (ne_eqb x 117 unlike i) (content after_u (drop (at + 1 + 1) d)) (option_and_then (λ y. prepend (y ∷ []) (content plain (drop (two i) d))) (e i)))

pub escape_passed : (d : List ℕ) (at : ℕ) → at + 2 ≤ length d → get_or d at 0 ≡ 92 → lex in_string (drop at d) ≡ lex in_string (drop (at + 2) d)
unfolding lex
escape_passed d at room slash =
    let two : at + 1 + 1 ≡ at + 2 = omega arith in
    ap (lex in_string) (drop_more d at 0 (omega (arith, room)) ∙ ap (λ x. x ∷ drop (at + 1) d) slash) ∙ ap (lex in_escape) (drop_more d (at + 1) 0 (omega (arith, room)) ∙ ap (λ n. get_or d (at + 1) 0 ∷ drop n d) two)

pub quote_passed : (d : List ℕ) (at : ℕ) → at < length d → get_or d at 0 ≡ 34 → lex in_string (drop at d) ≡ lex between (drop (at + 1) d)
unfolding lex
quote_passed d at room e = ap (lex in_string) (drop_more d at 0 room ∙ ap (λ x. x ∷ drop (at + 1) d) e)

pub space_passed : (d : List ℕ) (at : ℕ) → at < length d → get_or d at 0 ≡ 32 → lex between (drop at d) ≡ lex between (drop (at + 1) d)
unfolding lex
space_passed d at room e = ap (lex between) (drop_more d at 0 room ∙ ap (λ x. x ∷ drop (at + 1) d) e)

pub string_read : (d s r t : List ℕ) (stop : ℕ) (o p : Option (List ℕ)) → o ≡ prepend s p → p ≡ prepend r (content plain (drop stop d)) → stop < length d → get_or d stop 0 ≡ 34 → t ≡ s ++ r → o ≡ Some t
string_read d s r t stop o p e f room quoted all =
    e ∙ ap (prepend s) (f ∙ ap (prepend r) (at_quote d stop room quoted)) ∙ ap (λ l. Some (s ++ l)) (append-nil r) ∙ ap Some (sym all)

-- ---- from bytes to lexemes

pub string_lexed : (d s : List ℕ) (from end : ℕ) → content plain (drop from d) ≡ Some s → lex in_string (drop from d) ≡ lex between (drop end d) → lex between (34 ∷ drop from d) ≡ token (string s) ∷ lex between (drop end d)
unfolding lex
string_lexed d s from end e f = λ i. token (string_token (e i)) ∷ f i

pub operator_lexed : (xs : List ℕ) → (lex between (58 ∷ xs) ≡ colon ∷ lex between xs) × (lex between (44 ∷ xs) ≡ comma ∷ lex between xs) × (lex between (125 ∷ xs) ≡ token end_object ∷ lex between xs) × (lex between (123 ∷ xs) ≡ token begin_object ∷ lex between xs)
unfolding lex
operator_lexed xs = (refl, refl, refl, refl)

pub nothing_lexed : (d : List ℕ) (at : ℕ) → length d ≤ at → lex between (drop at d) ≡ []
unfolding lex
nothing_lexed d at h = ap (lex between) (drop_all at d h)

-- ---- from lexemes to tokens

pub member_punctuated : (p : Place) (k v : List ℕ) (ls : List Lexeme) → may_begin p ≡ true
    → punctuate p (token (string k) ∷ colon ∷ token (string v) ∷ comma ∷ ls) ≡ key k ∷ string v ∷ punctuate after_comma ls
unfolding punctuate
member_punctuated fresh k v ls e = refl
member_punctuated after_value k v ls e = absurd (false≢true e)
member_punctuated after_comma k v ls e = refl
member_punctuated after_key k v ls e = absurd (false≢true e)

pub last_punctuated : (p : Place) (k v : List ℕ) → may_begin p ≡ true
    → punctuate p (token (string k) ∷ colon ∷ token (string v) ∷ token end_object ∷ []) ≡ key k ∷ string v ∷ end_object ∷ []
unfolding punctuate
last_punctuated fresh k v e = refl
last_punctuated after_value k v e = absurd (false≢true e)
last_punctuated after_comma k v e = refl
last_punctuated after_key k v e = absurd (false≢true e)

pub opened : (text : List ℕ) (from : ℕ) → lex between (drop 0 text) ≡ lex between (123 ∷ drop from text) → tokens text ≡ begin_object ∷ punctuate fresh (lex between (drop from text))
unfolding lex punctuate
opened text from e = ap (punctuate fresh) e

-- ---- from tokens to members

pub string_member : (old : Members) (n : ℕ) (k v : List ℕ) (ts r : List Token) → 0 < n → ts ≡ key k ∷ string v ∷ r
    → converted (λ ms. of_members ms old) (members (json.value 126) n ts) ≡ converted (λ ms. of_members ms (put k (json_data.string v) old)) (members (json.value 126) (n - 1) r)
string_member old n k v ts r some e =
    member_read (json.value 126) old n k ts (string v ∷ r) r (json_data.string v) some (ap read_key e) (ap (converted of_json) (value_is 126 (string v ∷ r)))

pub view-String : (s : String Global) → view (value.String s) ≡ json_data.string (string_bytes s)
view-String s = search (rules, the_lemmas)
