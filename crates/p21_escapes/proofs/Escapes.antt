-- What is written of a text is read as this text.
use Rattle.std.proofs.Common.{◌≡◌, ◌<◌, ℕ, suc, ◌+◌, ◌-◌, ◌*◌, ◌/◌, ◌%◌, Bool, true, false, ◌||◌, ◌&&◌, ◌==◌, nat_lt, if◌then◌else◌, List, [], ◌∷◌, ◌++◌, length, take, Option, Some, None, Ok, refl, sym, ◌∙◌, ap, arith, length-append, append_assoc, append-nil, IsUtf8}
use Rattle.p21_escapes.proofs.Fronts.{spelled_from-drop, none_dropped}
use Rattle.std.proofs.lemmas.Bool.{eqb-true}
use Rattle.std.proofs.lemmas.Bool.Decides.{nat_tests}
use Rattle.std.proofs.lemmas.Str.{encodes-append, encode_ascii, encodes-chars, scalars-chars}
use Rattle.std.proofs.Math.Seq.{drop-append_seam, take-append_seam}
use Rattle.std.specs.Char.{encode_utf8}
use Rattle.std.specs.List.{AllByRecursion, flat_map, list_any}
use Rattle.std.specs.Option.{option_map}
use Rattle.std.specs.Str.{encode_utf8_all, chars}
use lib.Utf8.{scalar, scalars}
use Rattle.p21_escapes.specs.Digits.{digit, is_digit, digit_value, four, eight, value_of_four, end}
use Rattle.p21_escapes.specs.Encoding.{is_plain, Run, Plain, Others, with_other, runs, is_wide, plain_text, run_text, runs_text, encoded, is_paired}
use Rattle.p21_escapes.specs.Decoding.{Decoding, appended, ◌>>=◌, character, is_high, unit, groups, short, long, short_groups, long_groups, enclosed, hexadecimal, escape, front, spelled_from, spelled, is_line_end, text_of, decoded}

-- ---- digits

digit_is : (n : ℕ) → n < 16 → is_digit (digit n) ≡ true
digit_is n h = grind (arith, nat_tests)

digit_no_mark : (n : ℕ) → n < 16 → (digit n == 92) ≡ false
digit_no_mark n h = grind (arith, nat_tests)

value-digit : (n : ℕ) → n < 16 → digit_value (digit n) ≡ n
value-digit n h = grind (arith, nat_tests)

below : (n : ℕ) → n % 16 < 16
below n = omega arith

quarters : (n a b c : ℕ) → n < 65536 → a ≡ n / 16 → b ≡ a / 16 → c ≡ b / 16 → ((c % 16 * 16 + b % 16) * 16 + a % 16) * 16 + n % 16 ≡ n
quarters n a b c small ea eb ec = omega arith

value-four : (n : ℕ) → n < 65536 → value_of_four (digit (n / 16 / 16 / 16 % 16)) (digit (n / 16 / 16 % 16)) (digit (n / 16 % 16)) (digit (n % 16)) ≡ n
value-four n small =
    rw (value-digit (n / 16 / 16 / 16 % 16) (below (n / 16 / 16 / 16)), value-digit (n / 16 / 16 % 16) (below (n / 16 / 16)), value-digit (n / 16 % 16) (below (n / 16)), value-digit (n % 16) (below n))
    (quarters n (n / 16) (n / 16 / 16) (n / 16 / 16 / 16) small refl refl refl)

-- ---- one group

one_group : (n : ℕ) (z : List ℕ) → groups (four n ++ z) ≡ option_map suc (groups z)
unfolding four
one_group n z =
    rw (digit_no_mark (n / 16 / 16 / 16 % 16) (below (n / 16 / 16 / 16)), digit_is (n / 16 / 16 / 16 % 16) (below (n / 16 / 16 / 16)), digit_is (n / 16 / 16 % 16) (below (n / 16 / 16)), digit_is (n / 16 % 16) (below (n / 16)), digit_is (n % 16) (below n))
    refl

one_short : (high : Option ℕ) (n : ℕ) (z : List ℕ) → n < 65536 → short high (four n ++ z) ≡ (unit high n >>= λ next. short next z)
unfolding four
one_short high n z small = ap (λ m. unit high m >>= λ next. short next z) (value-four n small)

one_long : (n m : ℕ) (z : List ℕ) → n < 65536 → m < 65536 → long (four n ++ (four m ++ z)) ≡ (character (n * 65536 + m) >>= λ _. long z)
unfolding four
one_long n m z first second =
    ap (λ k. character (k * 65536 + value_of_four (digit (m / 16 / 16 / 16 % 16)) (digit (m / 16 / 16 % 16)) (digit (m / 16 % 16)) (digit (m % 16))) >>= λ _. long z) (value-four n first)
    ∙ ap (λ k. character (n * 65536 + k) >>= λ _. long z) (value-four m second)

length-four : (n : ℕ) → length (four n) ≡ 4
unfolding four
length-four n = refl

-- ---- groups

more_groups : (n : ℕ) (found : Option ℕ) → found ≡ Some n → option_map suc found ≡ Some (suc n)
more_groups n found is = ap (option_map suc) is

fours : (cs rest : List ℕ) → groups (flat_map four cs ++ (end ++ rest)) ≡ Some (length cs)
fours [] rest = refl
fours (c ∷ cs) rest =
    ap groups (append_assoc (four c) (flat_map four cs) (end ++ rest))
    ∙ one_group c (flat_map four cs ++ (end ++ rest))
    ∙ ap (option_map suc) (fours cs rest)

length-fours : (cs : List ℕ) → length (flat_map four cs) ≡ 4 * length cs
length-fours [] = refl
length-fours (c ∷ cs) = omega (arith, length-append (four c) (flat_map four cs), length-four c, length-fours cs)

-- the two halves of a character
abbrev halves : ℕ → List ℕ
halves c = c / 65536 ∷ c % 65536 ∷ []

eights_are : (cs : List ℕ) → flat_map eight cs ≡ flat_map four (flat_map halves cs)
eights_are [] = refl
eights_are (c ∷ cs) = append_assoc (four (c / 65536)) (four (c % 65536)) (flat_map eight cs) ∙ ap (λ l. four (c / 65536) ++ (four (c % 65536) ++ l)) (eights_are cs)

length-halves : (cs : List ℕ) → length (flat_map halves cs) ≡ 2 * length cs
length-halves [] = refl
length-halves (c ∷ cs) = omega (arith, length-halves cs)

-- ---- what groups spell

abbrev IsScalar : ℕ → Type 0
IsScalar c = scalar c ≡ true

abbrev IsShort : ℕ → Type 0
IsShort c = c < 65536

scalar_small : (c : ℕ) → scalar c ≡ true → c < 1114112
scalar_small c is = grind (arith, nat_tests)

scalar_not_high : (c : ℕ) → scalar c ≡ true → is_high c ≡ false
scalar_not_high c is = grind (arith, nat_tests)

one_unit : (c : ℕ) → scalar c ≡ true → unit None c ≡ Ok (None, encode_utf8 c)
one_unit c is = rw (scalar_not_high c is, is) (ap (λ l. Ok (None, l)) (append-nil (encode_utf8 c)))

shorts : (cs : List ℕ) → AllByRecursion IsScalar cs → AllByRecursion IsShort cs → short None (flat_map four cs) ≡ Ok (tt, encode_utf8_all cs)
shorts [] all small = refl
shorts (c ∷ cs) all small =
    one_short None c (flat_map four cs) small.0
    ∙ ap (λ p. p >>= λ next. short next (flat_map four cs)) (one_unit c all.0)
    ∙ ap (appended (encode_utf8 c)) (shorts cs all.1 small.1)

whole : (c : ℕ) → c / 65536 * 65536 + c % 65536 ≡ c
whole c = omega arith

high : (c : ℕ) → c < 1114112 → c / 65536 < 65536
high c h = omega arith

low : (c : ℕ) → c % 65536 < 65536
low c = omega arith

longs : (cs : List ℕ) → AllByRecursion IsScalar cs → long (flat_map eight cs) ≡ Ok (tt, encode_utf8_all cs)
longs [] all = refl
longs (c ∷ cs) all =
    ap long (append_assoc (four (c / 65536)) (four (c % 65536)) (flat_map eight cs))
    ∙ one_long (c / 65536) (c % 65536) (flat_map eight cs) (high c (scalar_small c all.0)) (low c)
    ∙ ap (λ k. character k >>= λ _. long (flat_map eight cs)) (whole c)
    ∙ rw all.0 (ap (appended (encode_utf8 c)) (longs cs all.1))

-- ---- one run in front

abbrev IsRun : Run → Type 0
IsRun (Plain c) = is_plain c ≡ true
IsRun (Others c cs) = AllByRecursion IsScalar (c ∷ cs)

abbrev characters : Run → List ℕ
characters (Plain c) = c ∷ []
characters (Others c cs) = c ∷ cs

long_front : (w : List ℕ) → front (92 ∷ 88 ∷ 52 ∷ 92 ∷ w) ≡ long_groups (groups w) w
unfolding front escape hexadecimal
long_front w = refl

short_front : (w : List ℕ) → front (92 ∷ 88 ∷ 50 ∷ 92 ∷ w) ≡ short_groups (groups w) w
unfolding front escape hexadecimal
short_front w = refl

two_front : (z : List ℕ) → front (39 ∷ 39 ∷ z) ≡ Ok (2, 39 ∷ [])
unfolding front
two_front z = refl

back_front : (z : List ℕ) → front (92 ∷ 92 ∷ z) ≡ Ok (2, 92 ∷ [])
unfolding front escape
back_front z = refl

plain_small : (c : ℕ) → is_plain c ≡ true → nat_lt c 128 ≡ true
plain_small c e = grind (arith, nat_tests)

plain_front : (c : ℕ) (z : List ℕ) → (c == 39) ≡ false → (c == 92) ≡ false → nat_lt c 128 ≡ true → front (c ∷ z) ≡ Ok (1, c ∷ [])
unfolding front
plain_front c z a b small = rw (a, b, small) refl

plain_stands : (c : ℕ) (rest : List ℕ) (q e : Bool) → (c == 39) ≡ q → (c == 92) ≡ e → is_plain c ≡ true
    → front ((if q then 39 ∷ 39 ∷ [] else if e then 92 ∷ 92 ∷ [] else c ∷ []) ++ rest) ≡ Ok (length (if q then 39 ∷ 39 ∷ [] else if e then 92 ∷ 92 ∷ [] else c ∷ []), c ∷ [])
plain_stands c rest true e q is plain = rw (eqb-true c 39 q) (two_front rest)
plain_stands c rest false true q is plain = rw (eqb-true c 92 is) (back_front rest)
plain_stands c rest false false q is plain = plain_front c rest q is (plain_small c plain)

plain_all : (c : ℕ) → is_plain c ≡ true → encode_utf8_all (c ∷ []) ≡ c ∷ []
plain_all c is = let small : c < 128 = grind (arith, nat_tests) in ap (λ l. l ++ []) (encode_ascii c small)

not_wide : (cs : List ℕ) → list_any is_wide cs ≡ false → AllByRecursion IsShort cs
not_wide [] e = tt
not_wide (c ∷ cs) e = by_test (is_wide c) refl e (not_wide cs)
  where
    by_test : (t : Bool) → is_wide c ≡ t → (t || list_any is_wide cs) ≡ false → (list_any is_wide cs ≡ false → AllByRecursion IsShort cs) → (c < 65536) × AllByRecursion IsShort cs
    by_test true is e go = cc
    by_test false is e go = (grind (arith, nat_tests), go e)

taken : (g rest : List ℕ) (n : ℕ) → length g ≡ n → take n (g ++ rest) ≡ g
taken g rest n is = ap (λ k. take k (g ++ rest)) (sym is) ∙ take-append_seam g rest

enclosed_all : (n : ℕ) (spell : List ℕ → Decoding (Unit {0})) (g rest text : List ℕ) → length g ≡ 4 * n → spell g ≡ Ok (tt, text) → enclosed n spell (g ++ rest) ≡ Ok (4 * n + 8, text)
enclosed_all n spell g rest text size is = ap (λ l. spell l >>= λ _. Ok (4 * n + 8, [])) (taken g rest (4 * n) size) ∙ ap (λ p. p >>= λ _. Ok (4 * n + 8, [])) is ∙ ap (λ l. Ok (4 * n + 8, l)) (append-nil text)

no_zero : (n : ℕ) → 0 < n → (n == 0) ≡ false
no_zero n h = grind (arith, nat_tests)

even : (n k : ℕ) → n ≡ 2 * k → (n % 2 == 1) ≡ false
even n k is = grind (arith, nat_tests)

-- the marks around so many groups
run_size : (n : ℕ) (g : List ℕ) (k : ℕ) → length g ≡ 4 * n → 4 * n + 8 ≡ length (92 ∷ 88 ∷ k ∷ 92 ∷ (g ++ end))
run_size n g k is = omega (arith, length-append g end)

short_all : (cs rest : List ℕ) → 0 < length cs → AllByRecursion IsScalar cs → AllByRecursion IsShort cs
    → front (92 ∷ 88 ∷ 50 ∷ 92 ∷ (flat_map four cs ++ (end ++ rest))) ≡ Ok (4 * length cs + 8, encode_utf8_all cs)
short_all cs rest some all small =
    let g = flat_map four cs in
    short_front (g ++ (end ++ rest)) ∙ ap (λ n. short_groups n (g ++ (end ++ rest))) (fours cs rest)
    ∙ rw (no_zero (length cs) some) (enclosed_all (length cs) (short None) g (end ++ rest) (encode_utf8_all cs) (length-fours cs) (shorts cs all small))

length-eights : (cs : List ℕ) → length (flat_map eight cs) ≡ 4 * length (flat_map halves cs)
length-eights cs = ap length (eights_are cs) ∙ length-fours (flat_map halves cs)

long_found : (n k : ℕ) (z : List ℕ) → 0 < k → n ≡ 2 * k → long_groups (Some n) z ≡ enclosed n long z
long_found n k z some is = let positive : 0 < n = omega arith in rw (no_zero n positive, even n k is) refl

long_all : (cs rest : List ℕ) → 0 < length cs → AllByRecursion IsScalar cs
    → front (92 ∷ 88 ∷ 52 ∷ 92 ∷ (flat_map eight cs ++ (end ++ rest))) ≡ Ok (4 * length (flat_map halves cs) + 8, encode_utf8_all cs)
long_all cs rest some all =
    let g = flat_map eight cs in
    let n = length (flat_map halves cs) in
    long_front (g ++ (end ++ rest))
    ∙ ap (λ n. long_groups n (g ++ (end ++ rest))) (ap (λ l. groups (l ++ (end ++ rest))) (eights_are cs) ∙ fours (flat_map halves cs) rest)
    ∙ long_found n (length cs) (g ++ (end ++ rest)) some (length-halves cs)
    ∙ enclosed_all n long g (end ++ rest) (encode_utf8_all cs) (length-eights cs) (longs cs all)

others_stand : (cs rest : List ℕ) (t : Bool) → list_any is_wide cs ≡ t → 0 < length cs → AllByRecursion IsScalar cs
    → front ((if t then 92 ∷ 88 ∷ 52 ∷ 92 ∷ (flat_map eight cs ++ end) else 92 ∷ 88 ∷ 50 ∷ 92 ∷ (flat_map four cs ++ end)) ++ rest)
    ≡ Ok (length (if t then 92 ∷ 88 ∷ 52 ∷ 92 ∷ (flat_map eight cs ++ end) else 92 ∷ 88 ∷ 50 ∷ 92 ∷ (flat_map four cs ++ end)), encode_utf8_all cs)
others_stand cs rest true is some all =
    ap (λ l. front (92 ∷ 88 ∷ 52 ∷ 92 ∷ l)) (append_assoc (flat_map eight cs) end rest) ∙ long_all cs rest some all
    ∙ ap (λ n. Ok (n, encode_utf8_all cs)) (run_size (length (flat_map halves cs)) (flat_map eight cs) 52 (length-eights cs))
others_stand cs rest false is some all =
    ap (λ l. front (92 ∷ 88 ∷ 50 ∷ 92 ∷ l)) (append_assoc (flat_map four cs) end rest) ∙ short_all cs rest some all (not_wide cs is)
    ∙ ap (λ n. Ok (n, encode_utf8_all cs)) (run_size (length cs) (flat_map four cs) 50 (length-fours cs))

run_stands : (r : Run) (rest : List ℕ) → IsRun r → front (run_text r ++ rest) ≡ Ok (length (run_text r), encode_utf8_all (characters r))
run_stands (Plain c) rest is = plain_stands c rest (c == 39) (c == 92) refl refl is ∙ ap (λ l. Ok (length (plain_text c), l)) (sym (plain_all c is))
run_stands (Others c cs) rest is = others_stand (c ∷ cs) rest (list_any is_wide (c ∷ cs)) refl (omega arith) is

some_text : (r : Run) → 0 < length (run_text r)
some_text (Plain c) = by_tests (c == 39) (c == 92)
  where
    by_tests : (q e : Bool) → 0 < length (if q then 39 ∷ 39 ∷ [] else if e then 92 ∷ 92 ∷ [] else c ∷ [])
    by_tests true e = omega arith
    by_tests false true = omega arith
    by_tests false false = omega arith
some_text (Others c cs) = by_test (list_any is_wide (c ∷ cs))
  where
    by_test : (t : Bool) → 0 < length (if t then 92 ∷ 88 ∷ 52 ∷ 92 ∷ (flat_map eight (c ∷ cs) ++ end) else 92 ∷ 88 ∷ 50 ∷ 92 ∷ (flat_map four (c ∷ cs) ++ end))
    by_test true = omega arith
    by_test false = omega arith

-- ---- all runs

one_step : (t rest text : List ℕ) → 0 < length t → front (t ++ rest) ≡ Ok (length t, text) → spelled_from 0 (t ++ rest) ≡ appended text (spelled_from 0 rest)
one_step [] rest text some stands = absurd (omega arith)
one_step (b ∷ t) rest text some stands =
    let less : length (b ∷ t) - 1 ≡ length t = omega arith in
    ap (λ p. p >>= λ n. spelled_from (n - 1) (t ++ rest)) stands
    ∙ ap (λ n. appended text (spelled_from n (t ++ rest))) less
    ∙ ap (appended text) (spelled_from-drop (length t) (t ++ rest) ∙ ap (spelled_from 0) (drop-append_seam t rest))

all_runs : (rs : List Run) → AllByRecursion IsRun rs → spelled_from 0 (runs_text rs) ≡ Ok (tt, encode_utf8_all (flat_map characters rs))
all_runs [] all = refl
all_runs (r ∷ rs) all =
    one_step (run_text r) (runs_text rs) (encode_utf8_all (characters r)) (some_text r) (run_stands r (runs_text rs) all.0)
    ∙ ap (appended (encode_utf8_all (characters r))) (all_runs rs all.1)
    ∙ ap (λ l. Ok (tt, l)) (sym (encodes-append (characters r) (flat_map characters rs)))

other_characters : (c : ℕ) (rs : List Run) → flat_map characters (with_other c rs) ≡ c ∷ flat_map characters rs
other_characters c [] = refl
other_characters c (Plain d ∷ rs) = refl
other_characters c (Others d ds ∷ rs) = refl

other_runs : (c : ℕ) (rs : List Run) → scalar c ≡ true → AllByRecursion IsRun rs → AllByRecursion IsRun (with_other c rs)
other_runs c [] is all = ((is, tt), tt)
other_runs c (Plain d ∷ rs) is all = ((is, tt), all)
other_runs c (Others d ds ∷ rs) is all = ((is, all.0), all.1)

runs_by : (c : ℕ) (rs : List Run) (t : Bool) → is_plain c ≡ t → scalar c ≡ true → AllByRecursion IsRun rs → AllByRecursion IsRun (if t then Plain c ∷ rs else with_other c rs)
runs_by c rs true plain is all = (plain, all)
runs_by c rs false other is all = other_runs c rs is all

characters_by : (c : ℕ) (rs : List Run) (t : Bool) → flat_map characters (if t then Plain c ∷ rs else with_other c rs) ≡ c ∷ flat_map characters rs
characters_by c rs true = refl
characters_by c rs false = other_characters c rs

first_holds : (a b : Bool) → (a && b) ≡ true → a ≡ true
first_holds true b is = refl
first_holds false b is = is

second_holds : (a b : Bool) → (a && b) ≡ true → b ≡ true
second_holds true b is = is
second_holds false b is = cc

runs_are : (cs : List ℕ) → scalars cs ≡ true → AllByRecursion IsRun (runs cs)
runs_are [] all = tt
runs_are (c ∷ cs) all = runs_by c (runs cs) (is_plain c) refl (first_holds (scalar c) (scalars cs) all) (runs_are cs (second_holds (scalar c) (scalars cs) all))

runs-characters : (cs : List ℕ) → flat_map characters (runs cs) ≡ cs
runs-characters [] = refl
runs-characters (c ∷ cs) = characters_by c (runs cs) (is_plain c) ∙ ap (λ l. c ∷ l) (runs-characters cs)

-- ---- no line ends

abbrev HasNone : List ℕ → Type 0
HasNone z = list_any is_line_end z ≡ false

none_append : (t u : List ℕ) → HasNone t → HasNone u → HasNone (t ++ u)
none_append [] u here more = more
none_append (b ∷ t) u here more = by_test (is_line_end b) here (λ e. none_append t u e more)
  where
    by_test : (q : Bool) → (q || list_any is_line_end t) ≡ false → (list_any is_line_end t ≡ false → list_any is_line_end (t ++ u) ≡ false) → (q || list_any is_line_end (t ++ u)) ≡ false
    by_test true e go = e
    by_test false e go = go e

digit_no_end : (n : ℕ) → n < 16 → is_line_end (digit n) ≡ false
digit_no_end n h = grind (arith, nat_tests)

four_none : (n : ℕ) → HasNone (four n)
unfolding four
four_none n =
    rw (digit_no_end (n / 16 / 16 / 16 % 16) (below (n / 16 / 16 / 16)), digit_no_end (n / 16 / 16 % 16) (below (n / 16 / 16)), digit_no_end (n / 16 % 16) (below (n / 16)), digit_no_end (n % 16) (below n)) refl

fours_none : (cs : List ℕ) → HasNone (flat_map four cs ++ end)
fours_none [] = refl
fours_none (c ∷ cs) = ap (list_any is_line_end) (append_assoc (four c) (flat_map four cs) end) ∙ none_append (four c) (flat_map four cs ++ end) (four_none c) (fours_none cs)

others_none : (cs : List ℕ) (t : Bool) → HasNone (if t then 92 ∷ 88 ∷ 52 ∷ 92 ∷ (flat_map eight cs ++ end) else 92 ∷ 88 ∷ 50 ∷ 92 ∷ (flat_map four cs ++ end))
others_none cs true = ap (λ l. list_any is_line_end (l ++ end)) (eights_are cs) ∙ fours_none (flat_map halves cs)
others_none cs false = fours_none cs

plain_none : (c : ℕ) (q e : Bool) → is_plain c ≡ true → HasNone (if q then 39 ∷ 39 ∷ [] else if e then 92 ∷ 92 ∷ [] else c ∷ [])
plain_none c true e is = refl
plain_none c false true is = refl
plain_none c false false is = grind (arith, nat_tests)

run_none : (r : Run) → IsRun r → HasNone (run_text r)
run_none (Plain c) is = plain_none c (c == 39) (c == 92) is
run_none (Others c cs) is = others_none (c ∷ cs) (list_any is_wide (c ∷ cs))

all_none : (rs : List Run) → AllByRecursion IsRun rs → HasNone (runs_text rs)
all_none [] all = refl
all_none (r ∷ rs) all = none_append (run_text r) (runs_text rs) (run_none r all.0) (all_none rs all.1)

-- ---- the law

spelled-runs : (rs : List Run) → AllByRecursion IsRun rs → decoded (runs_text rs) ≡ Ok (encode_utf8_all (flat_map characters rs))
unfolding decoded spelled
spelled-runs rs all = ap (λ z. text_of (spelled_from 0 z)) (none_dropped (runs_text rs) (all_none rs all)) ∙ ap text_of (all_runs rs all)

pub decoded-encoded : (text : List ℕ) → IsUtf8 text → decoded (encoded text) ≡ Ok text
unfolding encoded
decoded-encoded text utf8 =
    spelled-runs (runs (chars text)) (runs_are (chars text) (scalars-chars text utf8))
    ∙ ap (λ cs. Ok (encode_utf8_all cs)) (runs-characters (chars text)) ∙ ap Ok (encodes-chars text utf8)

-- ---- apostrophes are doubled

paired_append : (s : Bool) (t u : List ℕ) → is_paired s t ≡ true → is_paired false u ≡ true → is_paired s (t ++ u) ≡ true
paired_append true [] u e f = cc
paired_append false [] u e f = f
paired_append true (b ∷ t) u e f = rw (first_holds (b == 39) (is_paired false t) e) (paired_append false t u (second_holds (b == 39) (is_paired false t) e) f)
paired_append false (b ∷ t) u e f = by_test (b == 39) e (paired_append true t u) (paired_append false t u)
  where
    by_test : (q : Bool) → (if q then is_paired true t else is_paired false t) ≡ true → (is_paired true t ≡ true → is_paired false u ≡ true → is_paired true (t ++ u) ≡ true)
        → (is_paired false t ≡ true → is_paired false u ≡ true → is_paired false (t ++ u) ≡ true) → (if q then is_paired true (t ++ u) else is_paired false (t ++ u)) ≡ true
    by_test true e one other = one e f
    by_test false e one other = other e f

digit_no_quote : (n : ℕ) → n < 16 → (digit n == 39) ≡ false
digit_no_quote n h = grind (arith, nat_tests)

four_paired : (n : ℕ) → is_paired false (four n) ≡ true
unfolding four
four_paired n =
    rw (digit_no_quote (n / 16 / 16 / 16 % 16) (below (n / 16 / 16 / 16)), digit_no_quote (n / 16 / 16 % 16) (below (n / 16 / 16)), digit_no_quote (n / 16 % 16) (below (n / 16)), digit_no_quote (n % 16) (below n)) refl

fours_paired : (cs rest : List ℕ) → is_paired false rest ≡ true → is_paired false (flat_map four cs ++ rest) ≡ true
fours_paired [] rest e = e
fours_paired (c ∷ cs) rest e = ap (is_paired false) (append_assoc (four c) (flat_map four cs) rest) ∙ paired_append false (four c) (flat_map four cs ++ rest) (four_paired c) (fours_paired cs rest e)

plain_paired : (c : ℕ) (q e : Bool) → (c == 39) ≡ q → is_paired false (if q then 39 ∷ 39 ∷ [] else if e then 92 ∷ 92 ∷ [] else c ∷ []) ≡ true
plain_paired c true e q = refl
plain_paired c false true q = refl
plain_paired c false false q = rw q refl

others_paired : (cs : List ℕ) (t : Bool) → is_paired false (if t then 92 ∷ 88 ∷ 52 ∷ 92 ∷ (flat_map eight cs ++ end) else 92 ∷ 88 ∷ 50 ∷ 92 ∷ (flat_map four cs ++ end)) ≡ true
others_paired cs true = ap (λ l. is_paired false (l ++ end)) (eights_are cs) ∙ fours_paired (flat_map halves cs) end refl
others_paired cs false = fours_paired cs end refl

run_paired : (r : Run) → is_paired false (run_text r) ≡ true
run_paired (Plain c) = plain_paired c (c == 39) (c == 92) refl
run_paired (Others c cs) = others_paired (c ∷ cs) (list_any is_wide (c ∷ cs))

all_paired : (rs : List Run) → is_paired false (runs_text rs) ≡ true
all_paired [] = refl
all_paired (r ∷ rs) = paired_append false (run_text r) (runs_text rs) (run_paired r) (all_paired rs)

pub encoded-paired : (text : List ℕ) → is_paired false (encoded text) ≡ true
unfolding encoded
encoded-paired text = all_paired (runs (chars text))

pub ruleset string_laws = (decoded-encoded, encoded-paired)
