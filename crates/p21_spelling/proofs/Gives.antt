-- What holds of whatever a form gives, where it reads from tokens of a text.
use Rattle.std.proofs.Common.{◌≡◌, ℕ, zero, suc, ◌&&◌, Bool, true, false, nat_lt, if◌then◌else◌, List, [], ◌∷◌, ◌++◌, Ok, Err, refl, ◌∙◌, ap, subst, rules}
use denote.Enum.Bare.{same_true}
use Rattle.std.specs.List.{AllByRecursion}
use Rattle.std.specs.Str.{str_eq_ignore_ascii_case}
use Rattle.text_forms.specs.Forms.{Outcome, turns, repeat, repeat_from, and_then, ◌>>=◌, ◌>>◌, ◌<$>◌, pure}
use Rattle.p21_lexemes.specs.contracts.token.TokenKind.{the_type}
use Rattle.p21_lexemes.specs.declared.token.TokenKind.{TokenKind}
use Rattle.p21_lexemes.specs.declared.token.TokenKind.TheVariants as k
use Rattle.p21_lexemes.specs.Tokens.{Lexeme, Lexemes, Parser, expect, sees, sees_next, word, peek, same_kind, ends_by, finish}
use Rattle.p21_tree.specs.declared.fault.FaultKind.{FaultKind}
use Rattle.p21_tree.specs.declared.fault.FaultKind.TheVariants as fault
use Rattle.p21_tree.specs.declared.fault.FileFault.{FileFault}
use Rattle.p21_grammar.specs.Grammar.{listed, separated}
use Rattle.p21_spelling.proofs.Found.{is_token, IsLexeme, AreTokens}

abbrev pub Gives : {A : Type 0} → Parser A → (A → Type 0) → Type 0
Gives {A} form Q = (s after : Lexemes) (a : A) → AreTokens s → form s ≡ Ok (a, after) → Q a × AreTokens after

-- of what nothing is said
abbrev pub Any : {A : Type 0} → A → Type 0
Any a = Unit {0}

abbrev Out : Type 0 → Type 0
Out A = Outcome Lexemes FileFault A

abbrev tree_or : {A : Type 0} → A → Out A → A
tree_or a (Ok p) = p.0
tree_or a (Err fault) = a

abbrev left_or : {A : Type 0} → Lexemes → Out A → Lexemes
left_or {A} s (Ok p) = p.1
left_or {A} s (Err fault) = s

-- ---- one form after the other

by_outcome : {A B : Type 0} (o : Out A) (q : A → Parser B) (P : A → Type 0) (Q : B → Type 0) → ((a : A) (t : Lexemes) → o ≡ Ok (a, t) → P a × AreTokens t) → ((a : A) → P a → Gives (q a) Q)
    → (b : B) (after : Lexemes) → and_then o q ≡ Ok (b, after) → Q b × AreTokens after
by_outcome (Ok p) q P Q first later b after e = let one = first p.0 p.1 refl in later p.0 one.0 p.1 after b one.1 e
by_outcome (Err fault) q P Q first later b after e = cc

pub gives_then : {A B : Type 0} (p : Parser A) (q : A → Parser B) (P : A → Type 0) (Q : B → Type 0) → Gives p P → ((a : A) → P a → Gives (q a) Q) → Gives (p >>= q) Q
gives_then p q P Q first later = λ s after b good e. by_outcome (p s) q P Q (λ a t is. first s t a good is) later b after e

-- whatever the first gives
pub gives_after : {A B : Type 0} (p : Parser A) (q : A → Parser B) (Q : B → Type 0) → Gives p Any → ((a : A) → Gives (q a) Q) → Gives (p >>= q) Q
gives_after p q Q keeps later = gives_then p q Any Q keeps (λ a _. later a)

pub gives_more : {A : Type 0} (form : Parser A) (P Q : A → Type 0) → Gives form P → ((a : A) → P a → Q a) → Gives form Q
gives_more form P Q each go = λ s after a good e. let one = each s after a good e in (go a one.0, one.1)

pub gives_any : {A : Type 0} (form : Parser A) (P : A → Type 0) → Gives form P → Gives form Any
gives_any form P each = gives_more form P Any each (λ a _. tt)

pub gives_pure : {A : Type 0} (a : A) (Q : A → Type 0) → Q a → Gives (pure a) Q
gives_pure a Q holds = λ s after b good e. (subst Q (ap (tree_or a) e) holds, subst AreTokens (ap (left_or s) e) good)

pub gives_map : {A B : Type 0} (f : A → B) (p : Parser A) (P : A → Type 0) (Q : B → Type 0) → Gives p P → ((a : A) → P a → Q (f a)) → Gives (f <$> p) Q
gives_map f p P Q first go = gives_then p (λ a. pure (f a)) P Q first (λ a holds. gives_pure (f a) Q (go a holds))

by_test : {A : Type 0} {R : Type 0} (t : Bool) (x y o : Out A) → (t ≡ true → x ≡ o → R) → (t ≡ false → y ≡ o → R) → (if t then x else y) ≡ o → R
by_test true x y o here there e = here refl e
by_test false x y o here there e = there refl e

pub gives_if : {A : Type 0} (test : Lexemes → Bool) (p q : Parser A) (Q : A → Type 0) → Gives p Q → Gives q Q → Gives (λ s. if test s then p s else q s) Q
gives_if test p q Q here there = λ s after b good e. by_test (test s) (p s) (q s) (Ok (b, after)) (λ _ is. here s after b good is) (λ _ is. there s after b good is) e

-- ---- one token

pub gives_peek : Gives peek Any
gives_peek = λ s after a good e. (tt, subst AreTokens (ap (left_or s) e) good)

gives_look : (kind : TokenKind) → Gives (sees_next kind) Any
gives_look kind = λ s after a good e. (tt, subst AreTokens (ap (left_or s) e) good)

no_fault : {A R : Type 0} (fault : FileFault) (p : A × Lexemes) → Err fault ≡ Ok p → R
no_fault fault p e = cc

expect_in : (kind : TokenKind) (ts : List Lexeme) (s after : Lexemes) (a : List ℕ) → AllByRecursion IsLexeme ts → expect kind (record s { tokens = ts }) ≡ Ok (a, after) → (is_token kind a ≡ true) × AreTokens after
unfolding expect same_kind
expect_in kind [] s after a good e = cc
expect_in kind (t ∷ ts) s after a good e =
    let rest : Lexemes = record s { tokens = ts } in
    by_test (same_kind t.kind kind) (Ok (t.text, rest)) (Err (record { kind = fault.Syntax; at = t.at })) (Ok (a, after))
    (λ same is. (subst (λ u. is_token kind u ≡ true) (ap (tree_or []) is) (subst (λ k. is_token k t.text ≡ true) (same_true the_type (search rules) t.kind kind same) good.0), subst AreTokens (ap (left_or rest) is) good.1))
    (λ _ is. no_fault _ _ is) e

pub gives_expect : (kind : TokenKind) → Gives (expect kind) (λ t. is_token kind t ≡ true)
gives_expect kind = λ s after a good e. expect_in kind s.tokens s after a good e

pub takes_any : (kind : TokenKind) → Gives (expect kind) Any
takes_any kind = gives_any (expect kind) (λ t. is_token kind t ≡ true) (gives_expect kind)

word_in : (w : List ℕ) (ts : List Lexeme) (s after : Lexemes) (a : Unit {0}) → AllByRecursion IsLexeme ts → word w (record s { tokens = ts }) ≡ Ok (a, after) → Unit {0} × AreTokens after
unfolding word
word_in w [] s after a good e = cc
word_in w (t ∷ ts) s after a good e =
    let rest : Lexemes = record s { tokens = ts } in
    by_test (same_kind t.kind k.Word && str_eq_ignore_ascii_case t.text w) (Ok (tt, rest)) (Err (record { kind = fault.Syntax; at = t.at })) (Ok (a, after))
    (λ _ is. (tt, subst AreTokens (ap (left_or rest) is) good.1))
    (λ _ is. no_fault _ _ is) e

pub gives_word : (w : List ℕ) → Gives (word w) Any
gives_word w = λ s after a good e. word_in w s.tokens s after a good e

-- ---- the end

ends_in : (kind : FaultKind) (s after : Lexemes) (a : Unit {0}) → AreTokens s → ends_by kind s ≡ Ok (a, after) → Unit {0} × AreTokens after
ends_in fault.Syntax s after a good e = (tt, subst AreTokens (ap (left_or s) e) good)
ends_in _ s after a good e = cc

finish_in : (ts : List Lexeme) (s after : Lexemes) (a : Unit {0}) → finish (record s { tokens = ts }) ≡ Ok (a, after) → Unit {0} × AreTokens after
finish_in [] s after a e = ends_in s.end.kind (record s { tokens = [] }) after a tt e
finish_in (t ∷ ts) s after a e = cc

pub gives_finish : Gives finish Any
gives_finish = λ s after a good e. finish_in s.tokens s after a e

-- ---- item after item

module _ {A : Type 0} (begins : Lexemes → Bool) (item : Parser A) (P : A → Type 0) (R : List A → Type 0) (each : Gives item P) (more : (l : List A) (a : A) → R l → P a → R (l ++ a ∷ [])) where
  gives_from : (n : ℕ) (found : List A) → R found → Gives (repeat_from turns begins item n found) R
  unfolding repeat_from
  gives_from zero found holds = gives_pure found R holds
  gives_from (suc n) found holds = λ s after l good e.
      by_test (begins s) _ (Ok (found, s)) (Ok (l, after))
      (λ _ is. by_outcome (item s) _ P R (λ a t it. each s t a good it)
      (λ a one t u m fine it. by_test (nat_lt (turns t) (turns s)) (repeat_from turns begins item n (found ++ a ∷ []) t) (Ok (found ++ a ∷ [], t)) (Ok (m, u))
      (λ _ is. gives_from n (found ++ a ∷ []) (more found a holds one) t u m fine is)
      (λ _ is. gives_pure (found ++ a ∷ []) R (more found a holds one) t u m fine is)
      (same_if (nat_lt (turns t) (turns s)) (repeat_from turns begins item n (found ++ a ∷ [])) (pure (found ++ a ∷ [])) t ∙ it)) l after is)
      (λ _ is. gives_pure found R holds s after l good is) e
    where
      same_if : {B : Type 0} (b : Bool) (p q : Parser B) (t : Lexemes) → (if b then p t else q t) ≡ (if b then p else q) t
      same_if true p q t = refl
      same_if false p q t = refl

  pub gives_repeat : (found : List A) → R found → Gives (repeat begins item found) R
  gives_repeat found holds = λ s after l good e. gives_from (suc (turns s)) found holds s after l good e

module _ {A : Type 0} (item : Parser A) (P : A → Type 0) (R : List A → Type 0) (each : Gives item P) (none : R []) (more : (l : List A) (a : A) → R l → P a → R (l ++ a ∷ [])) where
  behind_comma : Gives (expect k.Comma >> item) P
  behind_comma = gives_then (expect k.Comma) (λ _. item) Any P (takes_any k.Comma) (λ _ _. each)

  gives_separated : Gives (separated item) R
  gives_separated =
      gives_then item (λ first. repeat (sees k.Comma) (expect k.Comma >> item) (first ∷ [])) P R each
      (λ first good. gives_repeat (sees k.Comma) (expect k.Comma >> item) P R behind_comma more (first ∷ []) (more [] first none good))

  abbrev closed : List A → Parser (List A)
  closed found = expect k.Close >> pure found

  abbrev behind_open : Bool → Parser (List A)
  behind_open is_empty = (if is_empty then pure [] else separated item) >>= closed

  inside : (is_empty : Bool) → Gives (if is_empty then pure [] else separated item) R
  inside true = gives_pure [] R none
  inside false = gives_separated

  gives_closed : (found : List A) → R found → Gives (closed found) R
  gives_closed found good = gives_then (expect k.Close) (λ _. pure found) Any R (takes_any k.Close) (λ _ _. gives_pure found R good)

  -- values in parentheses
  pub gives_listed : Gives (listed item) R
  unfolding listed
  gives_listed =
      gives_then (expect k.Open) (λ _. sees_next k.Close >>= behind_open) Any R (takes_any k.Open)
      (λ _ _. gives_then (sees_next k.Close) behind_open Any R (gives_look k.Close)
      (λ is_empty _. gives_then (if is_empty then pure [] else separated item) closed R R (inside is_empty) gives_closed))
