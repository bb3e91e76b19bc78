-- One form after the other, and forms of one token.
use Rattle.std.proofs.Common.{◌≡◌, ◌<◌, ◌≤◌, ℕ, ◌+◌, ◌-◌, Bool, true, false, List, [], ◌∷◌, ◌++◌, length, take, Ok, refl, sym, ◌∙◌, ap, subst, le_refl, nat_lt, cond, if◌then◌else◌, arith, length-append, append_assoc}
use Rattle.std.proofs.Math.Seq.{take-append_seam, drop-append_seam}
use Rattle.std.proofs.lemmas.Bool.Decides.{nat_tests}
use denote.Enum.Bare.{true_same}
use Rattle.text_forms.specs.Forms.{turns, repeat, and_then, ◌>>=◌, ◌>>◌, ◌<$>◌, pure}
use Rattle.text_forms.proofs.Repeat.{next, repeat_turn, repeat_done}
use Rattle.p21_lexemes.specs.contracts.token.TokenKind.{the_type}
use Rattle.p21_lexemes.specs.declared.token.TokenKind.{TokenKind}
use Rattle.p21_lexemes.specs.declared.token.TokenKind.TheVariants as k
use Rattle.p21_lexemes.specs.declared.front.Start.TheVariants.{Token}
use Rattle.p21_lexemes.specs.Lexical.{front, punctuation}
use Rattle.p21_lexemes.specs.Tokens.{Lexeme, Lexemes, Parser, lexemes, before, sees, expect, same_kind}
use Rattle.p21_lexemes.proofs.Lexemes.{lexemes-blank, lexemes-token}
use Rattle.p21_grammar.specs.Grammar.{inner, quoted}
use Rattle.p21_spelling.specs.Tokens as spec
use Rattle.p21_spelling.specs.Tokens.{is_cut, is_string}
use Rattle.p21_spelling.specs.Again.{Again, ReadsAgain, ReadsAnywhere}
use Rattle.p21_spelling.proofs.Fronts.{Stands, stands-string}

-- ---- what is first

abbrev pub lexeme : TokenKind → ℕ → List ℕ → Lexeme
lexeme kind at text = record { kind = kind; at = at; text = text }

-- a token in front is the first
pub token : (kind : TokenKind) (t : List ℕ) → Stands kind t → 0 < length t → (at : ℕ) (rest : List ℕ) → is_cut rest ≡ true → lexemes at (t ++ rest) ≡ before (lexeme kind at t) (lexemes (at + length t) rest)
token kind t stands some at rest cut =
    let fits : length t ≤ length (t ++ rest) = omega (arith, length-append t rest) in
    lexemes-token at (length t) kind (t ++ rest) (stands rest cut) some fits ∙ rw (take-append_seam t rest, drop-append_seam t rest) refl

-- so is a mark of one byte
mark : (kind : TokenKind) (b : ℕ) (z : List ℕ) → front (b ∷ z) ≡ Token kind 1 → (at : ℕ) → lexemes at (b ∷ z) ≡ before (lexeme kind at (b ∷ [])) (lexemes (at + 1) z)
mark kind b z is at = lexemes-token at 1 kind (b ∷ z) is (omega arith) (omega arith)

pub open_mark : (at : ℕ) (z : List ℕ) → lexemes at (40 ∷ z) ≡ before (lexeme k.Open at (40 ∷ [])) (lexemes (at + 1) z)
unfolding front punctuation
open_mark at z = mark k.Open 40 z refl at

pub an_open : (at : ℕ) (rest : List ℕ) → sees k.Open (lexemes at (40 ∷ rest)) ≡ true
unfolding same_kind
an_open at rest = ap (sees k.Open) (open_mark at rest)

pub close_mark : (at : ℕ) (z : List ℕ) → lexemes at (41 ∷ z) ≡ before (lexeme k.Close at (41 ∷ [])) (lexemes (at + 1) z)
unfolding front punctuation
close_mark at z = mark k.Close 41 z refl at

pub comma_mark : (at : ℕ) (z : List ℕ) → lexemes at (44 ∷ z) ≡ before (lexeme k.Comma at (44 ∷ [])) (lexemes (at + 1) z)
unfolding front punctuation
comma_mark at z = mark k.Comma 44 z refl at

pub equals_mark : (at : ℕ) (z : List ℕ) → lexemes at (61 ∷ z) ≡ before (lexeme k.Equals at (61 ∷ [])) (lexemes (at + 1) z)
unfolding front punctuation
equals_mark at z = mark k.Equals 61 z refl at

pub semicolon_mark : (at : ℕ) (z : List ℕ) → lexemes at (59 ∷ z) ≡ before (lexeme k.Semicolon at (59 ∷ [])) (lexemes (at + 1) z)
unfolding front punctuation
semicolon_mark at z = mark k.Semicolon 59 z refl at

pub line_feed : (at : ℕ) (z : List ℕ) → lexemes at (10 ∷ z) ≡ lexemes (at + 1) z
unfolding front
line_feed at z = lexemes-blank at 1 (10 ∷ z) refl (omega arith) (omega arith)

-- ---- one form after the other

-- the same as what is read again, where no token may be left to take
pub record Reads {A : Type 0} (form : Parser A) (text : List ℕ) (tree : A) (at : ℕ) (rest : List ℕ) : Type 0 where
  pub to : ℕ
  pub reads : form (lexemes at (text ++ rest)) ≡ Ok (tree, lexemes to rest)
  pub no_more : turns (lexemes to rest) ≤ turns (lexemes at (text ++ rest))

abbrev pub done : {A : Type 0} (a : A) (at : ℕ) (rest : List ℕ) → Reads (pure a) [] a at rest
done a at rest = record { to = at; reads = refl; no_more = le_refl _ }

pub weaker : (m n : ℕ) → m < n → m ≤ n
weaker m n h = omega arith

abbrev pub weak : {A : Type 0} {form : Parser A} {t : List ℕ} {a : A} {at : ℕ} {rest : List ℕ} → Again form t a at rest → Reads form t a at rest
weak again = record { to = again.to; reads = again.reads; no_more = weaker _ _ again.fewer }

-- a form, and what follows it
pub first_then : {A B : Type 0} {p : Parser A} {a : A} {at : ℕ} (t u rest : List ℕ) (q : A → Parser B) (b : B) (one : Again p t a at (u ++ rest)) → Reads (q a) u b one.to rest → Again (p >>= q) (t ++ u) b at rest
first_then {p = p} {at = at} t u rest q b one others =
    let joined = append_assoc t u rest in
    let size = ap (λ l. turns (lexemes at l)) joined in
    record {
      to = others.to;
      reads = ap (λ l. (p >>= q) (lexemes at l)) joined ∙ ap (λ o. and_then o q) one.reads ∙ others.reads;
      fewer = omega (arith, one.fewer, others.no_more, size);
    }

pub also : {A B : Type 0} {p : Parser A} {a : A} {at : ℕ} (t u rest : List ℕ) (q : A → Parser B) (b : B) (one : Reads p t a at (u ++ rest)) → Reads (q a) u b one.to rest → Reads (p >>= q) (t ++ u) b at rest
also {p = p} {at = at} t u rest q b one others =
    let joined = append_assoc t u rest in
    let size = ap (λ l. turns (lexemes at l)) joined in
    record {
      to = others.to;
      reads = ap (λ l. (p >>= q) (lexemes at l)) joined ∙ ap (λ o. and_then o q) one.reads ∙ others.reads;
      no_more = omega (arith, one.no_more, others.no_more, size);
    }

-- the same text in other words
pub respelled : {A : Type 0} {form : Parser A} {t u : List ℕ} {a : A} {at : ℕ} {rest : List ℕ} → t ≡ u → Again form u a at rest → Again form t a at rest
respelled {form = form} {a = a} {at = at} {rest = rest} same again = subst (λ l. Again form l a at rest) (sym same) again

-- a form whose tree is seen as another
pub maps : {A B : Type 0} {p : Parser A} {t : List ℕ} {a : A} {at : ℕ} {rest : List ℕ} (f : A → B) → Again p t a at rest → Again (f <$> p) t (f a) at rest
maps f again = record { to = again.to; reads = ap (λ o. and_then o (λ a. pure (f a))) again.reads; fewer = again.fewer }

-- one form or another, by what comes next
pub chosen : {A : Type 0} {t : List ℕ} {a : A} {at : ℕ} {rest : List ℕ} (test : Lexemes → Bool) (p q : Parser A) → test (lexemes at (t ++ rest)) ≡ true → Again p t a at rest → Again (λ s. if test s then p s else q s) t a at rest
chosen test p q e again = record { to = again.to; reads = rw e again.reads; fewer = again.fewer }

pub other : {A : Type 0} {t : List ℕ} {a : A} {at : ℕ} {rest : List ℕ} (test : Lexemes → Bool) (p q : Parser A) → test (lexemes at (t ++ rest)) ≡ false → Again q t a at rest → Again (λ s. if test s then p s else q s) t a at rest
other test p q e again = record { to = again.to; reads = rw e again.reads; fewer = again.fewer }

-- with a line feed behind it
pub with_feed : {A : Type 0} {form : Parser A} {a : A} {at : ℕ} (t rest : List ℕ) → Again form t a at (10 ∷ rest) → Again form (t ++ 10 ∷ []) a at rest
with_feed {form = form} {a = a} {at = at} t rest again =
    let joined = append_assoc t (10 ∷ []) rest in
    let feed = line_feed again.to rest in
    let size = ap (λ l. turns (lexemes at l)) joined in
    let same = ap turns feed in
    record {
      to = again.to + 1;
      reads = ap (λ l. form (lexemes at l)) joined ∙ again.reads ∙ ap (λ s. Ok (a, s)) feed;
      fewer = omega (arith, again.fewer, size, same);
    }

-- ---- item after item

-- nothing begins an item
pub no_turn : {A : Type 0} (begins : Lexemes → Bool) (item : Parser A) (found : List A) (at : ℕ) (rest : List ℕ) → begins (lexemes at rest) ≡ false → Reads (repeat begins item found) [] found at rest
no_turn begins item found at rest stops = record { to = at; reads = repeat_done turns begins item found (lexemes at rest) stops; no_more = le_refl _ }

-- an item, and what follows it
pub one_turn : {A : Type 0} {a : A} {at : ℕ} (begins : Lexemes → Bool) (item : Parser A) (found all : List A) (t u rest : List ℕ) → begins (lexemes at (t ++ (u ++ rest))) ≡ true
    → (one : Again item t a at (u ++ rest)) → Reads (repeat begins item (found ++ a ∷ [])) u all one.to rest → Reads (repeat begins item found) (t ++ u) all at rest
one_turn {a = a} {at = at} begins item found all t u rest goes_on one others =
    let joined = append_assoc t u rest in
    let s = lexemes at (t ++ (u ++ rest)) in
    let size = ap (λ l. turns (lexemes at l)) joined in
    record {
      to = others.to;
      reads = ap (λ l. repeat begins item found (lexemes at l)) joined ∙ repeat_turn turns begins item found s goes_on
          ∙ ap (λ o. and_then o (next turns begins item found s)) one.reads
          ∙ ap (λ b. cond b (repeat begins item (found ++ a ∷ [])) (λ s. Ok (found ++ a ∷ [], s)) (lexemes one.to (u ++ rest))) (less _ _ one.fewer)
          ∙ others.reads;
      no_more = omega (arith, one.fewer, others.no_more, size);
    }
  where
    less : (m n : ℕ) → m < n → nat_lt m n ≡ true
    less m n h = grind (arith, nat_tests)

-- ---- forms of one token

expects : (kind : TokenKind) (at : ℕ) (t : List ℕ) (s : Lexemes) → expect kind (before (lexeme kind at t) s) ≡ Ok (t, s)
unfolding expect same_kind
expects kind at t s = rw (true_same the_type kind kind refl) refl

pub takes : (kind : TokenKind) (t : List ℕ) → Stands kind t → 0 < length t → ReadsAgain (expect kind) t t
takes kind t stands some = λ at rest cut.
    let first = token kind t stands some at rest cut in
    record {
      to = at + length t;
      reads = ap (expect kind) first ∙ expects kind at t (lexemes (at + length t) rest);
      fewer = rw first (omega arith);
    }

takes_mark : (kind : TokenKind) (b : ℕ) → ((at : ℕ) (z : List ℕ) → lexemes at (b ∷ z) ≡ before (lexeme kind at (b ∷ [])) (lexemes (at + 1) z)) → ReadsAnywhere (expect kind) (b ∷ []) (b ∷ [])
takes_mark kind b first = λ at rest. record {
  to = at + 1;
  reads = ap (expect kind) (first at rest) ∙ expects kind at (b ∷ []) (lexemes (at + 1) rest);
  fewer = rw (first at rest) (omega arith);
}

pub takes-open : ReadsAnywhere (expect k.Open) (40 ∷ []) (40 ∷ [])
takes-open = takes_mark k.Open 40 open_mark

pub takes-close : ReadsAnywhere (expect k.Close) (41 ∷ []) (41 ∷ [])
takes-close = takes_mark k.Close 41 close_mark

pub takes-comma : ReadsAnywhere (expect k.Comma) (44 ∷ []) (44 ∷ [])
takes-comma = takes_mark k.Comma 44 comma_mark

pub takes-equals : ReadsAnywhere (expect k.Equals) (61 ∷ []) (61 ∷ [])
takes-equals = takes_mark k.Equals 61 equals_mark

pub takes-semicolon : ReadsAnywhere (expect k.Semicolon) (59 ∷ []) (59 ∷ [])
takes-semicolon = takes_mark k.Semicolon 59 semicolon_mark

-- a semicolon, and then no more
pub ends : {B : Type 0} (b : B) (at : ℕ) (rest : List ℕ) → Reads (expect k.Semicolon >> pure b) (59 ∷ []) b at rest
ends b at rest = weak (first_then (59 ∷ []) [] rest (λ _. pure b) b (takes-semicolon at rest) (done b _ rest))

-- the same, at the end of a line
pub ends_line : {B : Type 0} (b : B) (at : ℕ) (rest : List ℕ) → Reads (expect k.Semicolon >> pure b) (59 ∷ 10 ∷ []) b at rest
ends_line b at rest =
    let feed = 10 ∷ rest in
    weak (with_feed (59 ∷ []) rest (first_then (59 ∷ []) [] feed (λ _. pure b) b (takes-semicolon at feed) (done b _ feed)))

-- a closing parenthesis, and then no more
pub closes : {B : Type 0} (b : B) (at : ℕ) (rest : List ℕ) → Reads (expect k.Close >> pure b) (41 ∷ []) b at rest
closes b at rest = weak (first_then (41 ∷ []) [] rest (λ _. pure b) b (takes-close at rest) (done b _ rest))

pub inner-between : (b : ℕ) (t : List ℕ) → inner (b ∷ (t ++ b ∷ [])) ≡ t
inner-between b t =
    let size : length (b ∷ (t ++ b ∷ [])) - 2 ≡ length t = omega (arith, length-append t (b ∷ [])) in
    ap (λ n. take n (t ++ b ∷ [])) size ∙ take-append_seam t (b ∷ [])

quoted_step : (at : ℕ) (t : List ℕ) (s : Lexemes) → quoted k.Text (before (lexeme k.Text at (spec.quoted t)) s) ≡ Ok (t, s)
unfolding quoted expect same_kind
quoted_step at t s = ap (λ t. Ok (t, s)) (inner-between 39 t)

-- a string, and what stands between its apostrophes
pub takes-string : (t : List ℕ) → is_string t ≡ true → ReadsAgain (quoted k.Text) (spec.quoted t) t
takes-string t good = λ at rest cut.
    let first = token k.Text (spec.quoted t) (stands-string t good) (omega arith) at rest cut in
    record {
      to = at + length (spec.quoted t);
      reads = ap (quoted k.Text) first ∙ quoted_step at t (lexemes (at + length (spec.quoted t)) rest);
      fewer = rw first (omega arith);
    }
