-- What is read is well spelled.
use Rattle.std.proofs.Common.{◌≡◌, ◌<◌, ◌≤◌, ℕ, zero, suc, ◌+◌, min, drop, Bool, true, false, if◌then◌else◌, nat_eq, nat_le, nat_lt, List, [], ◌∷◌, ◌++◌, length, length-append, map, codes, Option, None, Some, Ok, Err, refl, ◌∙◌, ap, arith}
use Rattle.std.proofs.lemmas.Bool.Decides.{nat_tests}
use Rattle.std.specs.List.{list_all, starts_with}
use Rattle.text_forms.specs.Forms.{Outcome, repeat, many, ◌>>=◌, ◌>>◌, ◌<$>◌, pure}
use Rattle.p21_lexemes.specs.declared.token.TokenKind.{TokenKind}
use Rattle.p21_lexemes.specs.declared.token.TokenKind.TheVariants as k
use Rattle.rp_numbers.specs.Whole as numbers
use Rattle.p21_lexemes.specs.Lexical.{max_name}
use Rattle.p21_lexemes.specs.Tokens.{Lexemes, Parser, lexemes, expect, sees, peek, refuse, too_deep, too_many_sections, sees_word, word, finish, file_lexemes}
use Rattle.p21_lexemes.specs.Tokens as tokens
use Rattle.p21_tree.specs.declared.fault.FileFault.{FileFault}
use Rattle.p21_grammar.specs.Grammar.{inner, quoted, name_of, name, leaf, leaf_by, listed, list_of, value_by, value_with, typed_with, nested, deeper, value_at, enclosed_at, value, max_nesting, record_form, records, mapping_form, instance, instances}
use Rattle.p21_grammar.specs.Header.{header_value_by, header_value_with, header_list, header_value_at, header_value, more_of, header_values, line, entity, one_schema, file_schema, sees_dropped, dropped, all_dropped, header_section}
use Rattle.p21_grammar.specs.File.{section_names, section, data_section, mark, file_end, file, tree_of, file_of}
use Rattle.p21_grammar.specs.declared.header.Head.{Head}
use Rattle.p21_tree.specs.declared.header.HeaderValue.{HeaderValue}
use Rattle.p21_tree.specs.declared.header.HeaderValue.TheVariants as h
use Rattle.p21_tree.specs.declared.instance.Instance.{Instance}
use Rattle.p21_tree.specs.declared.instance.Mapping.{Mapping}
use Rattle.p21_tree.specs.declared.instance.Mapping.TheVariants.{Internal, External}
use Rattle.p21_tree.specs.declared.instance.Record.{Record}
use Rattle.p21_tree.specs.declared.raw.Raw.{Raw}
use Rattle.p21_tree.specs.declared.raw.Section.{Section}
use Rattle.p21_tree.specs.declared.value.Value.{Value}
use Rattle.p21_tree.specs.declared.value.Value.TheVariants as v
use Rattle.p21_spelling.specs.Tokens.{is_integer, is_real, is_name, is_word, is_string, is_bits}
use Rattle.p21_spelling.specs.Values as spec
use Rattle.p21_spelling.specs.Values.{Spelling, all_spelled, deepest, spelling, header_spelling}
use Rattle.p21_spelling.specs.Instances.{are_values, is_record, is_mapping, is_instance}
use Rattle.p21_spelling.specs.Files.{is_header, is_section, is_file}
use Rattle.p21_spelling.proofs.Runs.{first_holds, second_holds, both_hold, at_most}
use Rattle.p21_spelling.proofs.Equations.{spelling-Unset, spelling-Derived, spelling-Integer, spelling-Real, spelling-Text, spelling-Item, spelling-Binary, spelling-Reference, spelling-List, spelling-Typed, header_spelling-Unset, header_spelling-Text, header_spelling-List}
use Rattle.p21_spelling.proofs.Values.{nested-typed, nested-list}
use Rattle.p21_spelling.proofs.Found.{is_token, AreTokens, are_tokens}
use Rattle.p21_spelling.proofs.Gives.{Gives, Any, gives_then, gives_after, gives_more, gives_any, gives_pure, gives_map, gives_if, gives_peek, gives_expect, takes_any, gives_word, gives_finish, gives_repeat, gives_listed}

-- no value is read from a fault
gives_refuse : {A : Type 0} (Q : A → Type 0) → Gives refuse Q
gives_refuse Q s after a good e = cc

gives_too_deep : {A : Type 0} (Q : A → Type 0) → Gives too_deep Q
gives_too_deep Q s after a good e = cc

-- ---- tokens

string_gives : Gives (quoted k.Text) (λ t. is_string t ≡ true)
unfolding quoted
string_gives = gives_map inner (expect k.Text) (λ t. is_token k.Text t ≡ true) (λ t. is_string t ≡ true) (gives_expect k.Text) (λ t good. good)

item_gives : Gives (quoted k.Item) (λ t. is_word t ≡ true)
unfolding quoted
item_gives = gives_map inner (expect k.Item) (λ t. is_token k.Item t ≡ true) (λ t. is_word t ≡ true) (gives_expect k.Item) (λ t good. good)

binary_gives : Gives (quoted k.Binary) (λ t. is_bits t ≡ true)
unfolding quoted
binary_gives = gives_map inner (expect k.Binary) (λ t. is_token k.Binary t ≡ true) (λ t. is_bits t ≡ true) (gives_expect k.Binary) (λ t good. good)

-- no number is greater than the greatest name
min_within : (m most : ℕ) → min m most ≤ most
min_within m most = omega arith

name_gives : Gives name (λ n. is_name n ≡ true)
unfolding name
name_gives = gives_map name_of (expect k.Name) Any (λ n. is_name n ≡ true) (takes_any k.Name) (λ t _. at_most (name_of t) max_name (min_within (numbers.value (drop 1 t)) max_name))

-- ---- values

-- well spelled, and no more than so many levels, by itself and in a keyword
record IsGood (m n : ℕ) (s : Spelling) : Type 0 where
  spelled : s.is_spelled ≡ true
  itself : s.levels ≤ m
  in_keyword : s.levels_in_keyword ≤ n

abbrev Both : ℕ → ℕ → Value → Type 0
Both m n x = IsGood m n (spelling x)

leaf_is : (m n : ℕ) (s : Spelling) (t : List ℕ) (b : Bool) → s ≡ spec.leaf t b → b ≡ true → IsGood m n s
leaf_is m n s t b is good = rw is (record { spelled = good; itself = omega arith; in_keyword = omega arith })

-- all spelled, and none with more levels
record AreGood {A : Type 0} (spell : A → Spelling) (n : ℕ) (l : List A) : Type 0 where
  spelled : all_spelled (map spell l) ≡ true
  levels : deepest (map spell l) ≤ n

no_values : {A : Type 0} (spell : A → Spelling) (n : ℕ) → AreGood spell n []
no_values spell n = record { spelled = refl; levels = omega arith }

one_more : {A : Type 0} (spell : A → Spelling) (n : ℕ) (l : List A) (a : A) → AreGood spell n l → (spell a).is_spelled ≡ true → (spell a).levels ≤ n → AreGood spell n (l ++ a ∷ [])
one_more spell n [] a all one levels = record { spelled = rw one refl; levels = omega (arith, levels) }
one_more spell n (b ∷ l) a all one levels =
    let others = one_more spell n l a (record { spelled = second_holds (spell b).is_spelled (all_spelled (map spell l)) all.spelled; levels = omega (arith, all.levels) }) one levels in
    record {
      spelled = both_hold (spell b).is_spelled (all_spelled (map spell (l ++ a ∷ []))) (first_holds (spell b).is_spelled (all_spelled (map spell l)) all.spelled) others.spelled;
      levels = omega (arith, all.levels, others.levels);
    }

leaf_gives : (m n : ℕ) → Gives leaf (Both m n)
unfolding leaf
leaf_gives m n = gives_after peek leaf_by (Both m n) gives_peek by_kind
  where
    by_kind : (kind : TokenKind) → Gives (leaf_by kind) (Both m n)
    by_kind k.Dollar = gives_after (expect k.Dollar) (λ _. pure v.Unset) (Both m n) (takes_any k.Dollar) (λ _. gives_pure v.Unset (Both m n) (leaf_is m n _ _ _ spelling-Unset refl))
    by_kind k.Star = gives_after (expect k.Star) (λ _. pure v.Derived) (Both m n) (takes_any k.Star) (λ _. gives_pure v.Derived (Both m n) (leaf_is m n _ _ _ spelling-Derived refl))
    by_kind k.Integer = gives_map v.Integer (expect k.Integer) (λ t. is_integer t ≡ true) (Both m n) (gives_expect k.Integer) (λ t good. leaf_is m n _ _ _ (spelling-Integer t) good)
    by_kind k.Real = gives_map v.Real (expect k.Real) (λ t. is_real t ≡ true) (Both m n) (gives_expect k.Real) (λ t good. leaf_is m n _ _ _ (spelling-Real t) good)
    by_kind k.Text = gives_map v.Text (quoted k.Text) (λ t. is_string t ≡ true) (Both m n) string_gives (λ t good. leaf_is m n _ _ _ (spelling-Text t) good)
    by_kind k.Item = gives_map v.Item (quoted k.Item) (λ t. is_word t ≡ true) (Both m n) item_gives (λ t good. leaf_is m n _ _ _ (spelling-Item t) good)
    by_kind k.Binary = gives_map v.Binary (quoted k.Binary) (λ t. is_bits t ≡ true) (Both m n) binary_gives (λ t good. leaf_is m n _ _ _ (spelling-Binary t) good)
    by_kind k.Name = gives_map v.Reference name (λ n. is_name n ≡ true) (Both m n) name_gives (λ t good. leaf_is m n _ _ _ (spelling-Reference t) good)
    by_kind _ = gives_refuse (Both m n)

value_gives : (list typed : Parser Value) (Q : Value → Type 0) → Gives list Q → Gives typed Q → Gives leaf Q → Gives (value_with list typed) Q
unfolding value_with
value_gives list typed Q lists keywords leaves = gives_after peek (value_by list typed) Q gives_peek by_kind
  where
    by_kind : (kind : TokenKind) → Gives (value_by list typed kind) Q
    by_kind k.Word = keywords
    by_kind k.Open = lists
    by_kind _ = leaves

record Itself (n : ℕ) (x : Value) : Type 0 where
  spelled : (spelling x).is_spelled ≡ true
  levels : (spelling x).levels ≤ n

record InKeyword (n : ℕ) (x : Value) : Type 0 where
  spelled : (spelling x).is_spelled ≡ true
  levels : (spelling x).levels_in_keyword ≤ n

by_itself : (m n : ℕ) (form : Parser Value) → Gives form (Both m n) → Gives form (Itself m)
by_itself m n form each = gives_more form (Both m n) (Itself m) each (λ x good. record { spelled = good.spelled; levels = good.itself })

as_in_keyword : (m n : ℕ) (form : Parser Value) → Gives form (Both m n) → Gives form (InKeyword n)
as_in_keyword m n form each = gives_more form (Both m n) (InKeyword n) each (λ x good. record { spelled = good.spelled; levels = good.in_keyword })

typed_is : (n : ℕ) (keyword : List ℕ) (x : Value) → is_word keyword ≡ true → InKeyword n x → Both n (suc n) (v.Typed keyword x)
typed_is n keyword x word good = rw (spelling-Typed keyword x) (record { spelled = both_hold (is_word keyword) (spelling x).is_spelled word good.spelled; itself = good.levels; in_keyword = omega (arith, good.levels) })

typed_gives : (list inner : Parser Value) (n : ℕ) → Gives (value_with list inner) (InKeyword n) → Gives (typed_with list inner) (Both n (suc n))
unfolding typed_with
typed_gives list inner n each =
    let Q : Value → Type 0 = Both n (suc n) in
    gives_then (expect k.Word) _ (λ t. is_word t ≡ true) Q (gives_expect k.Word) (λ keyword word.
    gives_after (expect k.Open) _ Q (takes_any k.Open) (λ _.
    gives_then (value_with list inner) (λ x. expect k.Close >> pure (v.Typed keyword x)) (InKeyword n) Q each (λ x good.
    gives_after (expect k.Close) (λ _. pure (v.Typed keyword x)) Q (takes_any k.Close) (λ _. gives_pure (v.Typed keyword x) Q (typed_is n keyword x word good)))))

values_give : (n : ℕ) → Gives (value_at n) (Itself n) → Gives (listed (value_at n)) (AreGood spelling n)
values_give n each = gives_listed (value_at n) (Itself n) (AreGood spelling n) each (no_values spelling n) (λ l a all one. one_more spelling n l a all one.spelled one.levels)

list_gives : (n : ℕ) → Gives (value_at n) (Itself n) → Gives (list_of (value_at n)) (Both (suc n) (suc n))
unfolding list_of
list_gives n each =
    gives_map v.List (listed (value_at n)) (AreGood spelling n) (Both (suc n) (suc n)) (values_give n each)
    (λ vs good. rw (spelling-List vs) (record { spelled = good.spelled; itself = omega (arith, good.levels); in_keyword = omega (arith, good.levels) }))

-- with so many levels left
record Left (n : ℕ) : Type 0 where
  values : Gives (value_at n) (Itself n)
  enclosed : Gives (enclosed_at n) (InKeyword n)

keyword_gives : (n : ℕ) → Gives (enclosed_at n) (InKeyword n) → Gives (nested n).typed (Both n (suc n))
keyword_gives n each = rw (nested-typed n) (typed_gives (nested n).list (deeper n) n each)

left_by : (n : ℕ) → Gives (nested n).list (Both n n) → Gives (deeper n) (InKeyword n) → Left n
left_by n lists keywords =
    let in_keyword : Gives (enclosed_at n) (InKeyword n) =
    value_gives (nested n).list (deeper n) (InKeyword n) (as_in_keyword n n (nested n).list lists) keywords (as_in_keyword n n leaf (leaf_gives n n)) in
    record {
      enclosed = in_keyword;
      values = value_gives (nested n).list (nested n).typed (Itself n) (by_itself n n (nested n).list lists) (by_itself n (suc n) (nested n).typed (keyword_gives n in_keyword)) (by_itself n n leaf (leaf_gives n n));
    }

all_left : (n : ℕ) → Left n
unfolding nested
all_left zero = left_by zero (gives_too_deep (Both zero zero)) (gives_too_deep (InKeyword zero))
all_left (suc n) =
    let fewer = all_left n in
    left_by (suc n) (rw (nested-list n) (list_gives n fewer.values)) (as_in_keyword n (suc n) (nested n).typed (keyword_gives n fewer.enclosed))

pub value_spelled : (x : Value) (n at : ℕ) (text : List ℕ) (after : Lexemes) → value_at n (lexemes at text) ≡ Ok (x, after) → (spelling x).is_spelled ≡ true
value_spelled x n at text after e = ((all_left n).values (lexemes at text) after x (are_tokens at text) e).0.spelled

pub value_levels : (x : Value) (n at : ℕ) (text : List ℕ) (after : Lexemes) → value_at n (lexemes at text) ≡ Ok (x, after) → (spelling x).levels ≤ n
value_levels x n at text after e = ((all_left n).values (lexemes at text) after x (are_tokens at text) e).0.levels

-- ---- instances

are_values_is : {A : Type 0} (spell : A → Spelling) (l : List A) → AreGood spell max_nesting l → are_values (map spell l) ≡ true
are_values_is spell l good = both_hold (all_spelled (map spell l)) (nat_le (deepest (map spell l)) max_nesting) good.spelled (at_most (deepest (map spell l)) max_nesting good.levels)

all_and_one : {A : Type 0} (P : A → Bool) (l : List A) (a : A) → list_all P l ≡ true → P a ≡ true → list_all P (l ++ a ∷ []) ≡ true
all_and_one P [] a all one = rw one refl
all_and_one P (b ∷ l) a all one = both_hold (P b) (list_all P (l ++ a ∷ [])) (first_holds (P b) (list_all P l) all) (all_and_one P l a (second_holds (P b) (list_all P l) all) one)

abbrev IsRecord : Record → Type 0
IsRecord r = is_record r ≡ true

record_gives : Gives record_form IsRecord
unfolding record_form
record_gives =
    gives_then (expect k.Word) _ (λ t. is_word t ≡ true) IsRecord (gives_expect k.Word) (λ keyword word.
    gives_map (λ vs. record { keyword = keyword; values = vs }) (listed value) (AreGood spelling max_nesting) IsRecord (values_give max_nesting (all_left max_nesting).values)
    (λ vs good. both_hold (is_word keyword) (are_values (map spelling vs)) word (are_values_is spelling vs good)))

-- one or more
record AreRecords (rs : List Record) : Type 0 where
  all : list_all is_record rs ≡ true
  some : 0 < length rs

records_gives : Gives records AreRecords
unfolding records
records_gives =
    gives_then record_form (λ r. repeat (sees k.Word) record_form (r ∷ [])) IsRecord AreRecords record_gives
    (λ r good. gives_repeat (sees k.Word) record_form IsRecord AreRecords record_gives
    (λ l a all one. record { all = all_and_one is_record l a all.all one; some = omega (arith, length-append l (a ∷ [])) }) (r ∷ []) (record { all = rw good refl; some = omega arith }))

abbrev pub IsMapping : Mapping → Type 0
IsMapping m = is_mapping m ≡ true

some_records : (n : ℕ) → 0 < n → nat_lt 0 n ≡ true
some_records n h = grind (arith, nat_tests)

pub mapping_gives : Gives mapping_form IsMapping
unfolding mapping_form
mapping_gives =
    gives_if (sees k.Open) (expect k.Open >> (records >>= (λ rs. expect k.Close >> pure (External rs)))) (Internal <$> record_form) IsMapping
    (gives_after (expect k.Open) _ IsMapping (takes_any k.Open) (λ _. gives_then records (λ rs. expect k.Close >> pure (External rs)) AreRecords IsMapping records_gives
    (λ rs good. gives_after (expect k.Close) (λ _. pure (External rs)) IsMapping (takes_any k.Close)
    (λ _. gives_pure (External rs) IsMapping (both_hold (nat_lt 0 (length rs)) (list_all is_record rs) (some_records (length rs) good.some) good.all)))))
    (gives_map Internal record_form IsRecord IsMapping record_gives (λ r good. good))

abbrev IsInstance : Instance → Type 0
IsInstance i = is_instance i ≡ true

instance_gives : Gives instance IsInstance
unfolding instance
instance_gives =
    gives_then name _ (λ n. is_name n ≡ true) IsInstance name_gives (λ n named.
    gives_after (expect k.Equals) _ IsInstance (takes_any k.Equals) (λ _.
    gives_then mapping_form (λ m. expect k.Semicolon >> pure (record { name = n; mapping = m })) IsMapping IsInstance mapping_gives (λ m good.
    gives_after (expect k.Semicolon) (λ _. pure (record { name = n; mapping = m })) IsInstance (takes_any k.Semicolon) (λ _. gives_pure (record { name = n; mapping = m }) IsInstance (both_hold (is_name n) (is_mapping m) named good)))))

abbrev AreInstances : List Instance → Type 0
AreInstances is = list_all is_instance is ≡ true

instances_gives : Gives instances AreInstances
unfolding instances
instances_gives = gives_repeat (sees k.Name) instance IsInstance AreInstances instance_gives (λ l a all one. all_and_one is_instance l a all one) [] refl

pub instance_is : (i : Instance) (at : ℕ) (text : List ℕ) (after : Lexemes) → instance (lexemes at text) ≡ Ok (i, after) → is_instance i ≡ true
instance_is i at text after e = (instance_gives (lexemes at text) after i (are_tokens at text) e).0

-- ---- the header

record HeaderItself (n : ℕ) (x : HeaderValue) : Type 0 where
  spelled : (header_spelling x).is_spelled ≡ true
  levels : (header_spelling x).levels ≤ n

header_leaf : (n : ℕ) (x : HeaderValue) (t : List ℕ) (b : Bool) → header_spelling x ≡ spec.leaf t b → b ≡ true → HeaderItself n x
header_leaf n x t b is good = record { spelled = ap (λ s. s.is_spelled) is ∙ good; levels = rw is (omega arith) }

header_value_gives : (n : ℕ) → Gives (header_list n) (HeaderItself n) → Gives (header_value_at n) (HeaderItself n)
unfolding header_value_with
header_value_gives n lists = gives_after peek (header_value_by (header_list n)) (HeaderItself n) gives_peek by_kind
  where
    by_kind : (kind : TokenKind) → Gives (header_value_by (header_list n) kind) (HeaderItself n)
    by_kind k.Dollar = gives_after (expect k.Dollar) (λ _. pure h.Unset) (HeaderItself n) (takes_any k.Dollar) (λ _. gives_pure h.Unset (HeaderItself n) (header_leaf n h.Unset _ _ header_spelling-Unset refl))
    by_kind k.Text = gives_map h.Text (quoted k.Text) (λ t. is_string t ≡ true) (HeaderItself n) string_gives (λ t good. header_leaf n (h.Text t) _ _ (header_spelling-Text t) good)
    by_kind k.Open = lists
    by_kind _ = gives_refuse (HeaderItself n)

header_list_is : (n : ℕ) (vs : List HeaderValue) → AreGood header_spelling n vs → HeaderItself (suc n) (h.List vs)
header_list_is n vs good = record { spelled = ap (λ s. s.is_spelled) (header_spelling-List vs) ∙ good.spelled; levels = rw (header_spelling-List vs) (omega (arith, good.levels)) }

header_list_gives : (n : ℕ) → Gives (header_list n) (HeaderItself n)
unfolding header_list
header_list_gives zero = gives_too_deep (HeaderItself zero)
header_list_gives (suc n) =
    gives_map h.List (listed (header_value_at n)) (AreGood header_spelling n) (HeaderItself (suc n))
    (gives_listed (header_value_at n) (HeaderItself n) (AreGood header_spelling n) (header_value_gives n (header_list_gives n)) (no_values header_spelling n) (λ l a all one. one_more header_spelling n l a all one.spelled one.levels))
    (header_list_is n)

-- so many values
record AreSome (count : ℕ) (vs : List HeaderValue) : Type 0 where
  good : AreGood header_spelling max_nesting vs
  length_is : length vs ≡ count

one_gives : Gives header_value (HeaderItself max_nesting)
one_gives = header_value_gives max_nesting (header_list_gives max_nesting)

and_one : (count : ℕ) (found : List HeaderValue) (x : HeaderValue) → AreSome count found → HeaderItself max_nesting x → AreSome (suc count) (found ++ x ∷ [])
and_one count found x some one = record {
  good = one_more header_spelling max_nesting found x some.good one.spelled one.levels;
  length_is = omega (arith, length-append found (x ∷ []), some.length_is);
}

more_gives : (n count : ℕ) (found : List HeaderValue) → AreSome count found → Gives (more_of n found) (AreSome (count + n))
unfolding more_of
more_gives zero count found some = gives_pure found (AreSome (count + zero)) (record { good = some.good; length_is = omega (arith, some.length_is) })
more_gives (suc n) count found some =
    let Q : List HeaderValue → Type 0 = AreSome (count + suc n) in
    gives_after (expect k.Comma) _ Q (takes_any k.Comma) (λ _. gives_then header_value (λ x. more_of n (found ++ x ∷ [])) (HeaderItself max_nesting) Q one_gives
    (λ x one. gives_more (more_of n (found ++ x ∷ [])) (AreSome (suc count + n)) Q (more_gives n (suc count) (found ++ x ∷ []) (and_one count found x some one)) (λ vs all. record { good = all.good; length_is = omega (arith, all.length_is) })))

header_values_gives : (n : ℕ) → Gives (header_values n) (AreSome (suc n))
unfolding header_values
header_values_gives n =
    gives_then header_value (λ x. more_of n (x ∷ [])) (HeaderItself max_nesting) (AreSome (suc n)) one_gives
    (λ x one. gives_more (more_of n (x ∷ [])) (AreSome (1 + n)) (AreSome (suc n)) (more_gives n 1 (x ∷ []) (and_one 0 [] x (record { good = no_values header_spelling max_nesting; length_is = refl }) one)) (λ vs all. record { good = all.good; length_is = omega (arith, all.length_is) }))

-- what a word encloses, and `;`
ends_gives : {A : Type 0} (a : A) (Q : A → Type 0) → Q a → Gives (expect k.Close >> (expect k.Semicolon >> pure a)) Q
ends_gives a Q good = gives_after (expect k.Close) _ Q (takes_any k.Close) (λ _. gives_after (expect k.Semicolon) (λ _. pure a) Q (takes_any k.Semicolon) (λ _. gives_pure a Q good))

entity_gives : (t : List ℕ) (n : ℕ) → Gives (entity t n) (AreSome (suc n))
unfolding entity
entity_gives t n =
    let Q : List HeaderValue → Type 0 = AreSome (suc n) in
    gives_after (word t) _ Q (gives_word t) (λ _. gives_after (expect k.Open) _ Q (takes_any k.Open) (λ _.
    gives_then (header_values n) (λ vs. expect k.Close >> (expect k.Semicolon >> pure vs)) Q Q (header_values_gives n) (λ vs good. ends_gives vs Q good)))

abbrev IsString : List ℕ → Type 0
IsString t = is_string t ≡ true

one_schema_gives : Gives one_schema IsString
unfolding one_schema
one_schema_gives =
    gives_after (expect k.Open) _ IsString (takes_any k.Open) (λ _. gives_then (quoted k.Text) (λ t. expect k.Close >> pure t) IsString IsString string_gives
    (λ t good. gives_after (expect k.Close) (λ _. pure t) IsString (takes_any k.Close) (λ _. gives_pure t IsString good)))

file_schema_gives : Gives file_schema IsString
unfolding file_schema
file_schema_gives =
    gives_after (word (codes "FILE_SCHEMA")) _ IsString (gives_word (codes "FILE_SCHEMA")) (λ _. gives_after (expect k.Open) _ IsString (takes_any k.Open) (λ _.
    gives_then one_schema (λ t. expect k.Close >> (expect k.Semicolon >> pure t)) IsString IsString one_schema_gives (λ t good. ends_gives t IsString good)))

line_gives : (t : List ℕ) → Gives (line t) Any
unfolding line
line_gives t = gives_after (word t) _ Any (gives_word t) (λ _. gives_after (expect k.Semicolon) (λ _. pure tt) Any (takes_any k.Semicolon) (λ _. gives_pure tt Any tt))

dropped_gives : Gives dropped Any
unfolding dropped
dropped_gives = gives_after record_form _ Any (gives_any record_form IsRecord record_gives) (λ _. gives_after (expect k.Semicolon) (λ _. pure tt) Any (takes_any k.Semicolon) (λ _. gives_pure tt Any tt))

all_dropped_gives : Gives all_dropped Any
unfolding all_dropped
all_dropped_gives = gives_after (many sees_dropped dropped) (λ _. pure tt) Any (gives_repeat sees_dropped dropped Any Any dropped_gives (λ _ _ _ _. tt) [] tt) (λ _. gives_pure tt Any tt)

record IsHead (head : Head) : Type 0 where
  header : is_header head.header ≡ true
  schema : is_string head.schema ≡ true

header_is : (vs ws : List HeaderValue) → AreSome 2 vs → AreSome 7 ws → is_header (record { description = vs; name = ws }) ≡ true
header_is vs ws two_values seven =
    rw (two_values.length_is, seven.length_is, are_values_is header_spelling vs two_values.good, are_values_is header_spelling ws seven.good) refl

header_gives : Gives header_section IsHead
unfolding header_section
header_gives =
    gives_after (line (codes "HEADER")) _ IsHead (line_gives (codes "HEADER")) (λ _.
    gives_then (entity (codes "FILE_DESCRIPTION") 1) _ (AreSome 2) IsHead (entity_gives (codes "FILE_DESCRIPTION") 1) (λ vs two_values.
    gives_then (entity (codes "FILE_NAME") 6) _ (AreSome 7) IsHead (entity_gives (codes "FILE_NAME") 6) (λ ws seven.
    gives_then file_schema _ IsString IsHead file_schema_gives (λ schema good.
    gives_after all_dropped _ IsHead all_dropped_gives (λ _.
    gives_after (line (codes "ENDSEC")) (λ _. pure (record { header = record { description = vs; name = ws }; schema = schema })) IsHead (line_gives (codes "ENDSEC"))
    (λ _. gives_pure (record { header = record { description = vs; name = ws }; schema = schema }) IsHead (record { header = header_is vs ws two_values seven; schema = good })))))))

-- ---- the data section

abbrev IsSection : Option Section → Type 0
IsSection s = is_section s ≡ true

section_names_gives : Gives section_names (λ s. IsSection (Some s))
unfolding section_names
section_names_gives =
    let Q : Section → Type 0 = λ s. IsSection (Some s) in
    gives_after (expect k.Open) _ Q (takes_any k.Open) (λ _. gives_then (quoted k.Text) _ IsString Q string_gives (λ named one.
    gives_after (expect k.Comma) _ Q (takes_any k.Comma) (λ _. gives_then one_schema (λ schema. expect k.Close >> pure (record { name = named; schema = schema })) IsString Q one_schema_gives (λ schema two.
    gives_after (expect k.Close) (λ _. pure (record { name = named; schema = schema })) Q (takes_any k.Close) (λ _. gives_pure (record { name = named; schema = schema }) Q (both_hold (is_string named) (is_string schema) one two))))))

section_gives : Gives section IsSection
unfolding section
section_gives = gives_if (sees k.Open) (Some <$> section_names) (pure None) IsSection (gives_map Some section_names (λ s. IsSection (Some s)) IsSection section_names_gives (λ s good. good)) (gives_pure None IsSection refl)

data_gives : Gives data_section (λ body. IsSection body.section × AreInstances body.instances)
unfolding data_section
data_gives =
    gives_after (word (codes "DATA")) _ _ (gives_word (codes "DATA")) (λ _.
    gives_then section _ IsSection _ section_gives (λ named one.
    gives_after (expect k.Semicolon) _ _ (takes_any k.Semicolon) (λ _.
    gives_then instances _ AreInstances _ instances_gives (λ is two.
    gives_after (line (codes "ENDSEC")) (λ _. pure _) _ (line_gives (codes "ENDSEC")) (λ _. gives_pure _ _ (one, two))))))

-- ---- the file

mark_gives : (kind : TokenKind) → Gives (mark kind) Any
unfolding mark
mark_gives kind = gives_after (expect kind) _ Any (takes_any kind) (λ _. gives_after (expect k.Semicolon) (λ _. pure tt) Any (takes_any k.Semicolon) (λ _. gives_pure tt Any tt))

abbrev IsFile : Raw → Type 0
IsFile raw = is_file raw ≡ true

end_gives : Gives file_end Any
unfolding file_end
end_gives = gives_if (sees_word (codes "DATA")) too_many_sections (mark k.FileEnd >> finish) Any (λ s after a good e. cc) (gives_after (mark k.FileEnd) (λ _. finish) Any (mark_gives k.FileEnd) (λ _. gives_finish))

file_gives : Gives file IsFile
unfolding file
file_gives =
    gives_after (mark k.FileStart) _ IsFile (mark_gives k.FileStart) (λ _.
    gives_then header_section _ IsHead IsFile header_gives (λ head one.
    gives_then data_section _ (λ body. IsSection body.section × AreInstances body.instances) IsFile data_gives (λ body two.
    gives_after file_end (λ _. pure (record { header = head.header; schema = head.schema; section = body.section; instances = body.instances })) IsFile end_gives
    (λ _. gives_pure (record { header = head.header; schema = head.schema; section = body.section; instances = body.instances }) IsFile (rw (one.header, one.schema, two.0, two.1) refl)))))

file_tokens : (text : List ℕ) → AreTokens (file_lexemes text)
file_tokens text = by_mark (starts_with nat_eq text tokens.mark) (are_tokens 3 (drop 3 text)) (are_tokens 0 text)
  where
    by_mark : (t : Bool) → AreTokens (lexemes 3 (drop 3 text)) → AreTokens (lexemes 0 text) → AreTokens (if t then lexemes 3 (drop 3 text) else lexemes 0 text)
    by_mark true marked plain = marked
    by_mark false marked plain = plain

-- what holds of each tree that a form gives holds of the one that it is
pub of_tree : {A : Type 0} (P : A → Type 0) (o : Outcome Lexemes FileFault A) (a : A) → ((after : Lexemes) → o ≡ Ok (a, after) → P a) → tree_of o ≡ Ok a → P a
of_tree P (Ok p) a goes e = let same : p.0 ≡ a = cc in goes p.1 (ap (λ r. Ok (r, p.1)) same)
of_tree P (Err fault) a goes e = cc

pub file_is : (raw : Raw) (text : List ℕ) → file_of text ≡ Ok raw → is_file raw ≡ true
file_is raw text e = of_tree IsFile (file (file_lexemes text)) raw (λ after is. (file_gives (file_lexemes text) after raw (file_tokens text) is).0) e

pub ruleset spelled = (value_spelled, value_levels, instance_is, file_is)
