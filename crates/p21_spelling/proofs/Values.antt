-- Each value that is well spelled is read again.
use Rattle.std.proofs.Common.{◌≡◌, ◌<◌, ◌≤◌, ℕ, zero, suc, ◌+◌, Bool, true, false, List, [], ◌∷◌, ◌++◌, length, map, Ok, refl, sym, ◌∙◌, ap, subst, arith, append_assoc}
use Rattle.std.specs.Prelude.{decimal}
use Rattle.text_forms.specs.Forms.{and_then, pure}
use Rattle.p21_lexemes.specs.declared.token.TokenKind.{TokenKind}
use Rattle.p21_lexemes.specs.declared.token.TokenKind.TheVariants as k
use Rattle.p21_lexemes.specs.Tokens.{Lexeme, Lexemes, Parser, lexemes, before, kind, expect, sees, same_kind}
use Rattle.p21_grammar.specs.Grammar.{quoted, name, leaf, listed, list_of, value_by, value_with, typed_with, nested, deeper, value_at, enclosed_at}
use Rattle.p21_tree.specs.declared.value.Value.{Value}
use Rattle.p21_tree.specs.declared.value.Value.TheFolds.{fold-roll-Value, ind-Value, map-Value}
use Rattle.p21_tree.specs.declared.value.Value.TheOpen.{Value-F}
use Rattle.p21_tree.specs.declared.value.Value.TheVariants as v
use Rattle.p21_tree.specs.declared.value.Value.TheViews.{roll-Value}
use Rattle.rp_numbers.specs.Spelling.{parse, real}
use Rattle.p21_spelling.specs.Tokens as tokens
use Rattle.p21_spelling.specs.Tokens.{enclosed, is_name, is_word}
use Rattle.p21_spelling.specs.Values as spec
use Rattle.p21_spelling.specs.Values.{Spelling, all_spelled, deepest, layer, spelling}
use Rattle.p21_spelling.specs.Again.{ReadsAgain, ReadsAnywhere}
use Rattle.p21_spelling.proofs.Runs.{first_holds, second_holds}
use Rattle.p21_spelling.proofs.Fronts.{Stands, stands-word, stands-integer, stands-real, stands-string, stands-item, stands-binary, stands-dollar, stands-star}
use Rattle.p21_spelling.proofs.Names.{small, number_of-decimal, stands-reference}
use Rattle.p21_spelling.proofs.Steps.{lexeme, token, weak, first_then, takes, takes-open, closes, open_mark, inner-between}
use Rattle.p21_spelling.proofs.Lists.{NoClose, listed_again}

-- How a value is read from what spells it, by itself and in a keyword.
pub record IsReadAs (s : Spelling) (value : Value) : Type 0 where
  pub itself : (n : ℕ) → s.is_spelled ≡ true → s.levels ≤ n → ReadsAgain (value_at n) s.text value
  pub in_keyword : (n : ℕ) → s.is_spelled ≡ true → s.levels_in_keyword ≤ n → ReadsAgain (enclosed_at n) s.text value

-- ---- values of one token

-- what such a value gives, whatever else may nest
abbrev Gives : TokenKind → List ℕ → Value → Type 0
Gives kind t value = (list typed : Parser Value) (at : ℕ) (s : Lexemes) → value_with list typed (before (lexeme kind at t) s) ≡ Ok (value, s)

leaf_again : (kind : TokenKind) (t : List ℕ) (value : Value) → Stands kind t → 0 < length t → Gives kind t value → (list typed : Parser Value) → ReadsAgain (value_with list typed) t value
leaf_again kind t value stands some gives list typed = λ at rest cut.
    let first = token kind t stands some at rest cut in
    record {
      to = at + length t;
      reads = ap (value_with list typed) first ∙ gives list typed at (lexemes (at + length t) rest);
      fewer = rw first (omega arith);
    }

leaf_read : (kind : TokenKind) (t : List ℕ) (b : Bool) (value : Value) → (b ≡ true → Stands kind t) → 0 < length t → (b ≡ true → Gives kind t value) → IsReadAs (spec.leaf t b) value
leaf_read kind t b value stands some gives = record {
  itself = λ n good fits. leaf_again kind t value (stands good) some (gives good) (nested n).list (nested n).typed;
  in_keyword = λ n good fits. leaf_again kind t value (stands good) some (gives good) (nested n).list (deeper n);
}

gives-dollar : Gives k.Dollar (36 ∷ []) v.Unset
unfolding value_with leaf expect same_kind
gives-dollar list typed at s = refl

gives-star : Gives k.Star (42 ∷ []) v.Derived
unfolding value_with leaf expect same_kind
gives-star list typed at s = refl

gives-integer : (t : List ℕ) → Gives k.Integer t (v.Integer t)
unfolding value_with leaf expect same_kind
gives-integer t list typed at s = refl

gives-real : (t : List ℕ) → Gives k.Real t (v.Real t)
unfolding value_with leaf expect same_kind
gives-real t list typed at s = refl

gives-text : (t : List ℕ) → Gives k.Text (tokens.quoted t) (v.Text t)
unfolding value_with leaf quoted expect same_kind
gives-text t list typed at s = ap (λ t. Ok (v.Text t, s)) (inner-between 39 t)

gives-item : (t : List ℕ) → Gives k.Item (46 ∷ (t ++ 46 ∷ [])) (v.Item t)
unfolding value_with leaf quoted expect same_kind
gives-item t list typed at s = ap (λ t. Ok (v.Item t, s)) (inner-between 46 t)

gives-binary : (t : List ℕ) → Gives k.Binary (34 ∷ (t ++ 34 ∷ [])) (v.Binary t)
unfolding value_with leaf quoted expect same_kind
gives-binary t list typed at s = ap (λ t. Ok (v.Binary t, s)) (inner-between 34 t)

gives-reference : (n : ℕ) → is_name n ≡ true → Gives k.Name (35 ∷ decimal n) (v.Reference n)
unfolding value_with leaf name expect same_kind
gives-reference n good list typed at s = ap (λ m. Ok (v.Reference m, s)) (number_of-decimal n (small n good))

some_integer : (t : List ℕ) → tokens.is_integer t ≡ true → 0 < length t
some_integer [] e = cc
some_integer (b ∷ t) e = omega arith

some_real : (t : List ℕ) → tokens.is_real t ≡ true → 0 < length t
unfolding parse real
some_real [] e = cc
some_real (b ∷ t) e = omega arith

-- ---- what begins a value

-- the next token is of this kind
abbrev Begins : TokenKind → List ℕ → ℕ → Type 0
Begins kind_is z at = kind (lexemes at z) ≡ kind_is

begins-open : (at : ℕ) (z : List ℕ) → Begins k.Open (40 ∷ z) at
begins-open at z = ap kind (open_mark at z)

pub some_word : (t : List ℕ) → is_word t ≡ true → 0 < length t
some_word [] e = cc
some_word (b ∷ t) e = omega arith

pub takes-word : (t : List ℕ) → is_word t ≡ true → ReadsAgain (expect k.Word) t t
takes-word t word = takes k.Word t (stands-word t word) (some_word t word)

-- where a keyword and a parenthesis come
pub word_front : (t u rest : List ℕ) → is_word t ≡ true → (at : ℕ) → lexemes at ((t ++ enclosed u) ++ rest) ≡ before (lexeme k.Word at t) (lexemes (at + length t) (enclosed u ++ rest))
word_front t u rest word at = ap (lexemes at) (append_assoc t (enclosed u) rest) ∙ token k.Word t (stands-word t word) (some_word t word) at (enclosed u ++ rest) refl

-- what is read as a list, or behind a keyword, is read as a value
by_open : (list typed : Parser Value) (s : Lexemes) → kind s ≡ k.Open → value_with list typed s ≡ list s
unfolding value_with
by_open list typed s e = ap (λ k. value_by list typed k s) e

by_word : (list typed : Parser Value) (s : Lexemes) → kind s ≡ k.Word → value_with list typed s ≡ typed s
unfolding value_with
by_word list typed s e = ap (λ k. value_by list typed k s) e

-- ---- lists

no_close_by : (list typed : Parser Value) (kind : TokenKind) (at : ℕ) (t : List ℕ) (s : Lexemes) (a : Value) (after : Lexemes)
    → value_with list typed (before (lexeme kind at t) s) ≡ Ok (a, after) → same_kind kind k.Close ≡ false
unfolding value_with leaf same_kind
no_close_by list typed k.Close at t s a after e = cc
no_close_by list typed k.Word at t s a after e = refl
no_close_by list typed k.Integer at t s a after e = refl
no_close_by list typed k.Real at t s a after e = refl
no_close_by list typed k.Text at t s a after e = refl
no_close_by list typed k.Name at t s a after e = refl
no_close_by list typed k.Item at t s a after e = refl
no_close_by list typed k.Binary at t s a after e = refl
no_close_by list typed k.Open at t s a after e = refl
no_close_by list typed k.Comma at t s a after e = refl
no_close_by list typed k.Equals at t s a after e = refl
no_close_by list typed k.Semicolon at t s a after e = refl
no_close_by list typed k.Dollar at t s a after e = refl
no_close_by list typed k.Star at t s a after e = refl
no_close_by list typed k.End at t s a after e = refl
no_close_by list typed k.FileStart at t s a after e = refl
no_close_by list typed k.FileEnd at t s a after e = refl

no_close_in : (list typed : Parser Value) (ts : List Lexeme) (s : Lexemes) (a : Value) (after : Lexemes) → value_with list typed (record s { tokens = ts }) ≡ Ok (a, after) → sees k.Close (record s { tokens = ts }) ≡ false
no_close_in list typed [] s a after e = refl
no_close_in list typed (t ∷ ts) s a after e = no_close_by list typed t.kind t.at t.text (record s { tokens = ts }) a after e

pub no_close : (list typed : Parser Value) → NoClose (value_with list typed)
no_close list typed s after a e = no_close_in list typed s.tokens s a after e

-- ---- lists

list_of_again : (item : Parser Value) (t : List ℕ) (vs : List Value) → ReadsAnywhere (listed item) t vs → ReadsAnywhere (list_of item) t (v.List vs)
unfolding list_of
list_of_again item t vs again = λ at rest.
    let found = again at rest in
    record { to = found.to; reads = ap (λ o. and_then o (λ vs. pure (v.List vs))) found.reads; fewer = found.fewer }

pub nested-list : (n : ℕ) → (nested (suc n)).list ≡ list_of (value_at n)
unfolding nested
nested-list n = refl

abbrev Part : Type 0
Part = (x : Value) × IsReadAs (spelling x) x

abbrev part : Part → Value
part p = p.0

abbrev parts : List Part → List Value
parts ps = map part ps

list_in : (n : ℕ) (typed : Parser Value) (ps : List Part) → all_spelled (map spelling (parts ps)) ≡ true → suc (deepest (map spelling (parts ps))) ≤ n
    → ReadsAgain (value_with (nested n).list typed) (spec.list (map spelling (parts ps))).text (v.List (parts ps))
list_in zero typed ps good fits = absurd (omega arith)
list_in (suc n) typed ps good fits = λ at rest cut.
    let values = listed_again part spelling (value_at n) n (λ p good fits. p.1.itself n good fits) (no_close (nested n).list (nested n).typed) ps good (omega arith) in
    let found = list_of_again (value_at n) (enclosed (spec.listed (map spelling (parts ps)))) (parts ps) values at rest in
    let s = lexemes at (enclosed (spec.listed (map spelling (parts ps))) ++ rest) in
    record {
      to = found.to;
      reads = by_open (nested (suc n)).list typed s (begins-open at _) ∙ ap (λ (p : Parser Value). p s) (nested-list n) ∙ found.reads;
      fewer = found.fewer;
    }

list_read : (ps : List Part) → IsReadAs (spec.list (map spelling (parts ps))) (v.List (parts ps))
list_read ps = record {
  itself = λ n good fits. list_in n (nested n).typed ps good fits;
  in_keyword = λ n good fits. list_in n (deeper n) ps good fits;
}

-- ---- keywords

-- a keyword around what is read again is read again
typed_again : (list inner : Parser Value) (keyword t : List ℕ) (value : Value) → is_word keyword ≡ true → ReadsAgain (value_with list inner) t value
    → ReadsAgain (typed_with list inner) (keyword ++ enclosed t) (v.Typed keyword value)
unfolding typed_with
typed_again list inner keyword t value word again = λ at rest cut.
    let one = takes-word keyword word at (enclosed t ++ rest) refl in
    let two = takes-open one.to ((t ++ 41 ∷ []) ++ rest) in
    let three = again two.to (41 ∷ rest) refl in
    first_then keyword (enclosed t) rest _ (v.Typed keyword value) one
    (weak (first_then (40 ∷ []) (t ++ 41 ∷ []) rest _ (v.Typed keyword value) two
    (weak (first_then t (41 ∷ []) rest _ (v.Typed keyword value) three
    (closes (v.Typed keyword value) three.to rest)))))

-- the keywords that may stand with so many levels left
pub nested-typed : (n : ℕ) → (nested n).typed ≡ typed_with (nested n).list (deeper n)
unfolding nested
nested-typed zero = refl
nested-typed (suc n) = refl

module _ (keyword : List ℕ) (x : Value) (read : IsReadAs (spelling x) x) where
  abbrev text : List ℕ
  text = (spelling x).text

  abbrev IsGood : Type 0
  IsGood = (spec.typed keyword (spelling x)).is_spelled ≡ true

  form_again : (n : ℕ) → IsGood → (spelling x).levels_in_keyword ≤ n → ReadsAgain (nested n).typed (keyword ++ enclosed text) (v.Typed keyword x)
  form_again n good fits =
      rw (nested-typed n) (typed_again (nested n).list (deeper n) keyword text x (first_holds (is_word keyword) (spelling x).is_spelled good) (read.in_keyword n (second_holds (is_word keyword) (spelling x).is_spelled good) fits))

  -- as a value, whatever the lists there
  value_again_by : (list : Parser Value) (n : ℕ) → IsGood → (spelling x).levels_in_keyword ≤ n → ReadsAgain (value_with list (nested n).typed) (keyword ++ enclosed text) (v.Typed keyword x)
  value_again_by list n good fits = λ at rest cut.
      let found = form_again n good fits at rest cut in
      let s = lexemes at ((keyword ++ enclosed text) ++ rest) in
      let begins = ap kind (word_front keyword text rest (first_holds (is_word keyword) (spelling x).is_spelled good) at) in
      record { to = found.to; reads = by_word list (nested n).typed s begins ∙ found.reads; fewer = found.fewer }

  enclosed_again : (n : ℕ) → IsGood → suc (spelling x).levels_in_keyword ≤ n → ReadsAgain (enclosed_at n) (keyword ++ enclosed text) (v.Typed keyword x)
  enclosed_again zero good fits = absurd (omega arith)
  enclosed_again (suc n) good fits = value_again_by (nested (suc n)).list n good (omega arith)

  typed_read : IsReadAs (spec.typed keyword (spelling x)) (v.Typed keyword x)
  typed_read = record { itself = λ n good fits. value_again_by (nested n).list n good fits; in_keyword = enclosed_again }

-- ---- all values

module _ (y : Value-F Part) where
  abbrev inside : Value-F Value
  inside = map-Value Part Value part y

number_read : (kind : TokenKind) (t : List ℕ) (b : Bool) (value : Value) → (b ≡ true → Stands kind t) → (b ≡ true → 0 < length t) → Gives kind t value → IsReadAs (spec.leaf t b) value
number_read kind t b value stands some gives = record {
  itself = λ n good fits. leaf_again kind t value (stands good) (some good) gives (nested n).list (nested n).typed;
  in_keyword = λ n good fits. leaf_again kind t value (stands good) (some good) gives (nested n).list (deeper n);
}

layer_read : (y : Value-F Part) → IsReadAs (layer (map-Value Value Spelling spelling (inside y))) (roll-Value (inside y))
layer_read Value-F.Unset = subst (IsReadAs (spec.leaf (36 ∷ []) true)) (sym v.rolls-Unset) (leaf_read k.Dollar (36 ∷ []) true v.Unset (λ e. stands-dollar) (omega arith) (λ e. gives-dollar))
layer_read Value-F.Derived = subst (IsReadAs (spec.leaf (42 ∷ []) true)) (sym v.rolls-Derived) (leaf_read k.Star (42 ∷ []) true v.Derived (λ e. stands-star) (omega arith) (λ e. gives-star))
layer_read (Value-F.Integer t) = subst (IsReadAs (layer (Value-F.Integer t))) (sym (v.rolls-Integer t)) (number_read k.Integer t (tokens.is_integer t) (v.Integer t) (stands-integer t) (some_integer t) (gives-integer t))
layer_read (Value-F.Real t) = subst (IsReadAs (layer (Value-F.Real t))) (sym (v.rolls-Real t)) (number_read k.Real t (tokens.is_real t) (v.Real t) (stands-real t) (some_real t) (gives-real t))
layer_read (Value-F.Text t) = subst (IsReadAs (layer (Value-F.Text t))) (sym (v.rolls-Text t)) (leaf_read k.Text (tokens.quoted t) (tokens.is_string t) (v.Text t) (stands-string t) (omega arith) (λ e. gives-text t))
layer_read (Value-F.Item t) = subst (IsReadAs (layer (Value-F.Item t))) (sym (v.rolls-Item t)) (leaf_read k.Item (46 ∷ (t ++ 46 ∷ [])) (is_word t) (v.Item t) (stands-item t) (omega arith) (λ e. gives-item t))
layer_read (Value-F.Binary t) = subst (IsReadAs (layer (Value-F.Binary t))) (sym (v.rolls-Binary t)) (leaf_read k.Binary (34 ∷ (t ++ 34 ∷ [])) (tokens.is_bits t) (v.Binary t) (stands-binary t) (omega arith) (λ e. gives-binary t))
layer_read (Value-F.Reference n) = subst (IsReadAs (layer (Value-F.Reference n))) (sym (v.rolls-Reference n)) (leaf_read k.Name (35 ∷ decimal n) (is_name n) (v.Reference n) (stands-reference n) (omega arith) (gives-reference n))
layer_read (Value-F.List ps) = subst (IsReadAs (spec.list (map spelling (parts ps)))) (sym (v.rolls-List (parts ps))) (list_read ps)
layer_read (Value-F.Typed keyword p) = subst (IsReadAs (spec.typed keyword (spelling p.0))) (sym (v.rolls-Typed keyword p.0)) (typed_read keyword p.0 p.1)

pub spelling_roll : (x : Value-F Value) → spelling (roll-Value x) ≡ layer (map-Value Value Spelling spelling x)
unfolding spelling
spelling_roll x = fold-roll-Value Spelling layer x

all_read : (x : Value) → IsReadAs (spelling x) x
all_read = ind-Value (λ x. IsReadAs (spelling x) x) (λ x y is.
    let P : Value-F Value → Type 0 = λ z. IsReadAs (layer (map-Value Value Spelling spelling z)) (roll-Value z) in
    subst (λ (s : Spelling). IsReadAs s (roll-Value x)) (sym (spelling_roll x)) (subst P is (layer_read y)))

-- what is spelled of a value is read again
pub value_again : (x : Value) (n : ℕ) → (spelling x).is_spelled ≡ true → (spelling x).levels ≤ n → ReadsAgain (value_at n) (spelling x).text x
value_again x n good fits = (all_read x).itself n good fits
