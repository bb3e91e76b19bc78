-- The header is read again.
use Rattle.std.proofs.Common.{◌≡◌, ◌<◌, ◌≤◌, nat_le, ℕ, zero, suc, ◌+◌, ◌&&◌, ◌==◌, Bool, true, false, List, [], ◌∷◌, ◌++◌, length, map, codes, Ok, refl, sym, ◌∙◌, ap, subst, arith, append_assoc, append-nil}
use Rattle.std.proofs.lemmas.Bool.{eqb-true}
use Rattle.std.specs.Str.{str_eq_ignore_ascii_case}
use Rattle.text_forms.specs.Forms.{◌>>=◌, ◌>>◌, pure}
use Rattle.p21_lexemes.specs.declared.token.TokenKind.{TokenKind}
use Rattle.p21_lexemes.specs.declared.token.TokenKind.TheVariants as k
use Rattle.p21_lexemes.specs.Tokens.{Lexeme, Lexemes, Parser, lexemes, before, kind, expect, sees, word, same_kind}
use Rattle.p21_grammar.specs.Grammar.{quoted, max_nesting}
use Rattle.p21_grammar.specs.Header.{header_value_with, header_value_by, header_list, header_value_at, header_value, more_of, header_values, line, entity, one_schema, file_schema, sees_dropped, dropped, all_dropped, header_section}
use Rattle.p21_grammar.specs.declared.header.Head.{Head}
use Rattle.p21_tree.specs.declared.header.Header.{Header}
use Rattle.p21_tree.specs.declared.header.HeaderValue.{HeaderValue}
use Rattle.p21_tree.specs.declared.header.HeaderValue.TheFolds.{fold-roll-HeaderValue, ind-HeaderValue, map-HeaderValue}
use Rattle.p21_tree.specs.declared.header.HeaderValue.TheOpen.{HeaderValue-F}
use Rattle.p21_tree.specs.declared.header.HeaderValue.TheVariants as h
use Rattle.p21_tree.specs.declared.header.HeaderValue.TheViews.{roll-HeaderValue}
use Rattle.p21_spelling.specs.Tokens as tokens
use Rattle.p21_spelling.specs.Tokens.{enclosed, is_string, is_word}
use Rattle.p21_spelling.specs.Values as spec
use Rattle.p21_spelling.specs.Values.{Spelling, all_spelled, deepest, header_layer, header_spelling}
use Rattle.p21_spelling.specs.Instances.{are_values}
use Rattle.p21_spelling.specs.Files as files
use Rattle.p21_spelling.specs.Files.{entity_text, schema_text, header_text, is_header}
use Rattle.p21_spelling.specs.Again.{Again, ReadsAgain, ReadsAnywhere}
use Rattle.p21_spelling.proofs.Runs.{first_holds, second_holds, is_within}
use Rattle.p21_spelling.proofs.Fronts.{Stands, stands-word, stands-string, stands-dollar}
use Rattle.p21_spelling.proofs.Steps.{lexeme, token, Reads, done, weak, first_then, also, maps, respelled, no_turn, takes-open, takes-close, takes-comma, takes-string, closes, ends_line, open_mark, inner-between}
use Rattle.p21_spelling.proofs.Lists.{NoClose, listed_again, more_cut}
use Rattle.p21_spelling.proofs.Values.{some_word}

-- ---- values

abbrev IsRead : Spelling → HeaderValue → Type 0
IsRead s value = (n : ℕ) → s.is_spelled ≡ true → s.levels ≤ n → ReadsAgain (header_value_at n) s.text value

abbrev Gives : TokenKind → List ℕ → HeaderValue → Type 0
Gives kind t value = (list : Parser HeaderValue) (at : ℕ) (s : Lexemes) → header_value_with list (before (lexeme kind at t) s) ≡ Ok (value, s)

leaf_read : (kind : TokenKind) (t : List ℕ) (b : Bool) (value : HeaderValue) → (b ≡ true → Stands kind t) → 0 < length t → Gives kind t value → IsRead (spec.leaf t b) value
leaf_read kind t b value stands some gives = λ n good fits at rest cut.
    let first = token kind t (stands good) some at rest cut in
    record {
      to = at + length t;
      reads = ap (header_value_at n) first ∙ gives (header_list n) at (lexemes (at + length t) rest);
      fewer = rw first (omega arith);
    }

gives-dollar : Gives k.Dollar (36 ∷ []) h.Unset
unfolding header_value_with expect same_kind
gives-dollar list at s = refl

gives-text : (t : List ℕ) → Gives k.Text (tokens.quoted t) (h.Text t)
unfolding header_value_with quoted expect same_kind
gives-text t list at s = ap (λ t. Ok (h.Text t, s)) (inner-between 39 t)

no_close_by : (list : Parser HeaderValue) (kind : TokenKind) (at : ℕ) (t : List ℕ) (s : Lexemes) (a : HeaderValue) (after : Lexemes)
    → header_value_with list (before (lexeme kind at t) s) ≡ Ok (a, after) → same_kind kind k.Close ≡ false
unfolding header_value_with same_kind
no_close_by list k.Close at t s a after e = cc
no_close_by list k.Word at t s a after e = refl
no_close_by list k.Integer at t s a after e = refl
no_close_by list k.Real at t s a after e = refl
no_close_by list k.Text at t s a after e = refl
no_close_by list k.Name at t s a after e = refl
no_close_by list k.Item at t s a after e = refl
no_close_by list k.Binary at t s a after e = refl
no_close_by list k.Open at t s a after e = refl
no_close_by list k.Comma at t s a after e = refl
no_close_by list k.Equals at t s a after e = refl
no_close_by list k.Semicolon at t s a after e = refl
no_close_by list k.Dollar at t s a after e = refl
no_close_by list k.Star at t s a after e = refl
no_close_by list k.End at t s a after e = refl
no_close_by list k.FileStart at t s a after e = refl
no_close_by list k.FileEnd at t s a after e = refl

no_close_in : (list : Parser HeaderValue) (ts : List Lexeme) (s : Lexemes) (a : HeaderValue) (after : Lexemes) → header_value_with list (record s { tokens = ts }) ≡ Ok (a, after) → sees k.Close (record s { tokens = ts }) ≡ false
no_close_in list [] s a after e = refl
no_close_in list (t ∷ ts) s a after e = no_close_by list t.kind t.at t.text (record s { tokens = ts }) a after e

no_close : (list : Parser HeaderValue) → NoClose (header_value_with list)
no_close list s after a e = no_close_in list s.tokens s a after e

by_open : (list : Parser HeaderValue) (s : Lexemes) → kind s ≡ k.Open → header_value_with list s ≡ list s
unfolding header_value_with
by_open list s e = ap (λ k. header_value_by list k s) e

abbrev Part : Type 0
Part = (x : HeaderValue) × IsRead (header_spelling x) x

abbrev part : Part → HeaderValue
part p = p.0

abbrev parts : List Part → List HeaderValue
parts ps = map part ps

list_in : (n : ℕ) (ps : List Part) → all_spelled (map header_spelling (parts ps)) ≡ true → suc (deepest (map header_spelling (parts ps))) ≤ n
    → ReadsAgain (header_value_at n) (spec.list (map header_spelling (parts ps))).text (h.List (parts ps))
unfolding header_list
list_in zero ps good fits = absurd (omega arith)
list_in (suc n) ps good fits = λ at rest cut.
    let t = enclosed (spec.listed (map header_spelling (parts ps))) in
    let values = listed_again part header_spelling (header_value_at n) n (λ p good fits. p.1 n good fits) (no_close (header_list n)) ps good (omega arith) at rest in
    let found = maps h.List values in
    record { to = found.to; reads = by_open (header_list (suc n)) (lexemes at (t ++ rest)) (ap kind (open_mark at _)) ∙ found.reads; fewer = found.fewer }

module _ (y : HeaderValue-F Part) where
  abbrev inside : HeaderValue-F HeaderValue
  inside = map-HeaderValue Part HeaderValue part y

layer_read : (y : HeaderValue-F Part) → IsRead (header_layer (map-HeaderValue HeaderValue Spelling header_spelling (inside y))) (roll-HeaderValue (inside y))
layer_read HeaderValue-F.Unset = subst (IsRead (spec.leaf (36 ∷ []) true)) (sym h.rolls-Unset) (leaf_read k.Dollar (36 ∷ []) true h.Unset (λ e. stands-dollar) (omega arith) gives-dollar)
layer_read (HeaderValue-F.Text t) = subst (IsRead (header_layer (HeaderValue-F.Text t))) (sym (h.rolls-Text t)) (leaf_read k.Text (tokens.quoted t) (is_string t) (h.Text t) (stands-string t) (omega arith) (gives-text t))
layer_read (HeaderValue-F.List ps) = subst (IsRead (spec.list (map header_spelling (parts ps)))) (sym (h.rolls-List (parts ps))) (λ n good fits. list_in n ps good fits)

pub spelling_roll : (x : HeaderValue-F HeaderValue) → header_spelling (roll-HeaderValue x) ≡ header_layer (map-HeaderValue HeaderValue Spelling header_spelling x)
unfolding header_spelling
spelling_roll x = fold-roll-HeaderValue Spelling header_layer x

value_again : (x : HeaderValue) → IsRead (header_spelling x) x
value_again = ind-HeaderValue (λ x. IsRead (header_spelling x) x) (λ x y is.
    let P : HeaderValue-F HeaderValue → Type 0 = λ z. IsRead (header_layer (map-HeaderValue HeaderValue Spelling header_spelling z)) (roll-HeaderValue z) in
    subst (λ (s : Spelling). IsRead s (roll-HeaderValue x)) (sym (spelling_roll x)) (subst P is (layer_read y)))

-- ---- so many values

-- all spelled, and none too deep
record AreGood (vs : List HeaderValue) : Type 0 where
  spelled : all_spelled (map header_spelling vs) ≡ true
  fit : deepest (map header_spelling vs) ≤ max_nesting

are_good : (vs : List HeaderValue) → are_values (map header_spelling vs) ≡ true → AreGood vs
are_good vs good =
    let ss = map header_spelling vs in
    let fit = nat_le (deepest ss) max_nesting in
    record { spelled = first_holds (all_spelled ss) fit good; fit = is_within (deepest ss) max_nesting (second_holds (all_spelled ss) fit good) }

one : (v : HeaderValue) (vs : List HeaderValue) → AreGood (v ∷ vs) → ReadsAgain header_value (header_spelling v).text v
one v vs good = value_again v max_nesting (first_holds (header_spelling v).is_spelled (all_spelled (map header_spelling vs)) good.spelled) (omega (arith, good.fit))

others : (v : HeaderValue) (vs : List HeaderValue) → AreGood (v ∷ vs) → AreGood vs
others v vs good = record { spelled = second_holds (header_spelling v).is_spelled (all_spelled (map header_spelling vs)) good.spelled; fit = omega (arith, good.fit) }

more_again : (vs found : List HeaderValue) (at : ℕ) (rest : List ℕ) → AreGood vs → Reads (more_of (length vs) found) (spec.more (map header_spelling vs)) (found ++ vs) at (41 ∷ rest)
unfolding more_of
more_again [] found at rest good = rw (append-nil found) (done found at (41 ∷ rest))
more_again (v ∷ vs) found at rest good =
    let t = (header_spelling v).text in
    let u = spec.more (map header_spelling vs) in
    let comma = takes-comma at ((t ++ u) ++ 41 ∷ rest) in
    let next = one v vs good comma.to (u ++ 41 ∷ rest) (more_cut (map header_spelling vs) rest) in
    weak (first_then (44 ∷ []) (t ++ u) (41 ∷ rest) _ (found ++ v ∷ vs) comma
    (weak (first_then t u (41 ∷ rest) _ (found ++ v ∷ vs) next
    (rw (sym (append_assoc found (v ∷ []) vs)) (more_again vs (found ++ v ∷ []) next.to rest (others v vs good))))))

values_again : (n : ℕ) (vs : List HeaderValue) → length vs ≡ suc n → AreGood vs → (at : ℕ) (rest : List ℕ) → Again (header_values n) (spec.listed (map header_spelling vs)) vs at (41 ∷ rest)
unfolding header_values
values_again n [] size good at rest = absurd (omega (arith, size))
values_again n (v ∷ vs) size good at rest =
    let u = spec.more (map header_spelling vs) in
    let first = one v vs good at (u ++ 41 ∷ rest) (more_cut (map header_spelling vs) rest) in
    let count : length vs ≡ n = omega (arith, size) in
    first_then (header_spelling v).text u (41 ∷ rest) _ (v ∷ vs) first
    (subst (λ (n : ℕ). Reads (more_of n (v ∷ [])) u (v ∷ vs) first.to (41 ∷ rest)) count (more_again vs (v ∷ []) first.to rest (others v vs good)))

-- ---- words, and what they enclose

-- a keyword that is this word
abbrev IsCalled : List ℕ → Type 0
IsCalled t = (is_word t ≡ true) × (str_eq_ignore_ascii_case t t ≡ true)

word_step : (t : List ℕ) → str_eq_ignore_ascii_case t t ≡ true → (at : ℕ) (s : Lexemes) → word t (before (lexeme k.Word at t) s) ≡ Ok (tt, s)
unfolding word same_kind
word_step t same at s = rw same refl

pub takes-called : (t : List ℕ) → IsCalled t → ReadsAgain (word t) t tt
takes-called t called = λ at rest cut.
    let first = token k.Word t (stands-word t called.0) (some_word t called.0) at rest cut in
    record {
      to = at + length t;
      reads = ap (word t) first ∙ word_step t called.1 at (lexemes (at + length t) rest);
      fewer = rw first (omega arith);
    }

-- `WORD;`
pub line_again : (t : List ℕ) → IsCalled t → ReadsAnywhere (line t) (files.line t) tt
unfolding line
line_again t called = λ at rest.
    let first = takes-called t called at (59 ∷ 10 ∷ rest) refl in
    first_then t (59 ∷ 10 ∷ []) rest _ tt first (ends_line tt first.to rest)

-- `WORD(..);`
enclosed_again : {A : Type 0} (t inside : List ℕ) (form : Parser A) (a : A) → IsCalled t → ((at : ℕ) (rest : List ℕ) → Again form inside a at (41 ∷ rest))
    → ReadsAnywhere (word t >> (expect k.Open >> (form >>= (λ found. expect k.Close >> (expect k.Semicolon >> pure found))))) (files.line (t ++ enclosed inside)) a
enclosed_again t inside form a called again = λ at rest.
    let u = 41 ∷ 59 ∷ 10 ∷ [] in
    let joined : files.line (t ++ enclosed inside) ≡ t ++ 40 ∷ (inside ++ u) = append_assoc t (enclosed inside) (59 ∷ 10 ∷ []) ∙ ap (λ l. t ++ 40 ∷ l) (append_assoc inside (41 ∷ []) (59 ∷ 10 ∷ [])) in
    let one = takes-called t called at (40 ∷ ((inside ++ u) ++ rest)) refl in
    let two = takes-open one.to ((inside ++ u) ++ rest) in
    let three = again two.to (59 ∷ 10 ∷ rest) in
    let four = takes-close three.to (59 ∷ 10 ∷ rest) in
    respelled joined
    (first_then t (40 ∷ (inside ++ u)) rest _ a one
    (weak (first_then (40 ∷ []) (inside ++ u) rest _ a two
    (weak (first_then inside u rest _ a three
    (weak (first_then (41 ∷ []) (59 ∷ 10 ∷ []) rest _ a four (ends_line a four.to rest))))))))

entity_again : (t : List ℕ) (n : ℕ) (vs : List HeaderValue) → IsCalled t → length vs ≡ suc n → are_values (map header_spelling vs) ≡ true → ReadsAnywhere (entity t n) (files.line (entity_text t vs)) vs
unfolding entity
entity_again t n vs called size good = enclosed_again t (spec.listed (map header_spelling vs)) (header_values n) vs called (values_again n vs size (are_good vs good))

pub one_schema_again : (t : List ℕ) → is_string t ≡ true → ReadsAnywhere one_schema (enclosed (tokens.quoted t)) t
unfolding one_schema
one_schema_again t good = λ at rest.
    let one = takes-open at ((tokens.quoted t ++ 41 ∷ []) ++ rest) in
    let two = takes-string t good one.to (41 ∷ rest) refl in
    first_then (40 ∷ []) (tokens.quoted t ++ 41 ∷ []) rest _ t one (weak (first_then (tokens.quoted t) (41 ∷ []) rest _ t two (closes t two.to rest)))

schema_again : (t : List ℕ) → is_string t ≡ true → ReadsAnywhere file_schema (files.line (schema_text t)) t
unfolding file_schema
schema_again t good = enclosed_again (codes "FILE_SCHEMA") (enclosed (tokens.quoted t)) one_schema t (refl, refl) (λ at rest. one_schema_again t good at (41 ∷ rest))

-- ---- the section

-- where a line of one word comes
pub line_front : (t : List ℕ) → IsCalled t → (at : ℕ) (rest : List ℕ) → lexemes at (files.line t ++ rest) ≡ before (lexeme k.Word at t) (lexemes (at + length t) (59 ∷ 10 ∷ rest))
line_front t called at rest = ap (lexemes at) (append_assoc t (59 ∷ 10 ∷ []) rest) ∙ token k.Word t (stands-word t called.0) (some_word t called.0) at (59 ∷ 10 ∷ rest) refl

none_dropped : (at : ℕ) (rest : List ℕ) → sees_dropped (lexemes at (files.line (codes "ENDSEC") ++ rest)) ≡ false
unfolding same_kind
none_dropped at rest = ap sees_dropped (line_front (codes "ENDSEC") (refl, refl) at rest)

dropped_again : (at : ℕ) (rest : List ℕ) → Reads all_dropped [] tt at (files.line (codes "ENDSEC") ++ rest)
unfolding all_dropped
dropped_again at rest =
    let z = files.line (codes "ENDSEC") ++ rest in
    let none = no_turn sees_dropped dropped [] at z (none_dropped at rest) in
    also [] [] z (λ _. pure tt) tt none (done tt none.to z)

pub header_again : (header : Header) (schema : List ℕ) → is_header header ≡ true → is_string schema ≡ true → ReadsAnywhere header_section (header_text header schema) (record { header = header; schema = schema })
unfolding header_section
header_again header schema good string = λ at rest.
    let vs = header.description in
    let ws = header.name in
    let head : Head = record { header = header; schema = schema } in
    let few = length vs == 2 in
    let spelled = are_values (map header_spelling vs) in
    let many = length ws == 7 in
    let named = are_values (map header_spelling ws) in
    let last = files.line (codes "ENDSEC") in
    let u4 = files.line (schema_text schema) ++ last in
    let u3 = files.line (entity_text (codes "FILE_NAME") ws) ++ u4 in
    let u2 = files.line (entity_text (codes "FILE_DESCRIPTION") vs) ++ u3 in
    let both = first_holds (few && spelled) many (first_holds (few && spelled && many) named good) in
    let two_values = eqb-true (length vs) 2 (first_holds few spelled both) in
    let seven = eqb-true (length ws) 7 (second_holds (few && spelled) many (first_holds (few && spelled && many) named good)) in
    let a = line_again (codes "HEADER") (refl, refl) at (u2 ++ rest) in
    let b = entity_again (codes "FILE_DESCRIPTION") 1 vs (refl, refl) two_values (second_holds few spelled both) a.to (u3 ++ rest) in
    let c = entity_again (codes "FILE_NAME") 6 ws (refl, refl) seven (second_holds (few && spelled && many) named good) b.to (u4 ++ rest) in
    let d = schema_again schema string c.to (last ++ rest) in
    let e = dropped_again d.to rest in
    let f = line_again (codes "ENDSEC") (refl, refl) e.to rest in
    first_then (files.line (codes "HEADER")) u2 rest _ head a
    (weak (first_then (files.line (entity_text (codes "FILE_DESCRIPTION") vs)) u3 rest _ head b
    (weak (first_then (files.line (entity_text (codes "FILE_NAME") ws)) u4 rest _ head c
    (weak (first_then (files.line (schema_text schema)) last rest _ head d
    (also [] last rest _ head e
    (weak (first_then last [] rest (λ _. pure head) head f (done head f.to rest))))))))))
