-- What is written is ASCII, and so UTF-8.
use Rattle.std.proofs.Common.{◌≡◌, ◌<◌, ℕ, zero, suc, ℤ, pos, negsuc, ◌/◌, ◌%◌, ◌==◌, Bool, true, false, if◌then◌else◌, List, [], ◌∷◌, ◌++◌, refl, sym, subst, arith, IsUtf8, Result, Ok, Err, OnOk, OnErr, is_ok, ◌∙◌, ap}
use Rattle.std.proofs.lemmas.Bool.Decides.{nat_tests}
use Rattle.std.proofs.lemmas.Str.{IsUtf8-nil, IsUtf8-append, IsUtf8-from_ascii, IsAscii-append}
use Rattle.std.proofs.lemmas.Str.Ascii.{IsAscii-nil, IsAscii-cons}
use Rattle.std.specs.List.{flat_map, list_any}
use Rattle.std.specs.Str.{IsAscii, chars}
use Rattle.p21_escapes.specs.Digits.{digit, four, eight, end}
use Rattle.p21_escapes.specs.Encoding.{is_plain, Run, Plain, Others, with_other, runs, is_wide, plain_text, others_text, run_text, runs_text, encoded}

either : (b : Bool) (xs ys : List ℕ) → IsAscii xs → IsAscii ys → IsAscii (if b then xs else ys)
either true xs ys x y = x
either false xs ys x y = y

-- ---- strings

hexadecimal : (n : ℕ) → digit (n % 16) < 128
hexadecimal n = grind (arith, nat_tests)

four_are : (a b c d : ℕ) (z : List ℕ) → a < 128 → b < 128 → c < 128 → d < 128 → IsAscii z → IsAscii (a ∷ b ∷ c ∷ d ∷ z)
four_are a b c d z a< b< c< d< is = IsAscii-cons a (b ∷ c ∷ d ∷ z) a< (IsAscii-cons b (c ∷ d ∷ z) b< (IsAscii-cons c (d ∷ z) c< (IsAscii-cons d z d< is)))

four_is : (n : ℕ) → IsAscii (four n)
unfolding four
four_is n =
    four_are (digit (n / 16 / 16 / 16 % 16)) (digit (n / 16 / 16 % 16)) (digit (n / 16 % 16)) (digit (n % 16)) []
    (hexadecimal (n / 16 / 16 / 16)) (hexadecimal (n / 16 / 16)) (hexadecimal (n / 16)) (hexadecimal n) IsAscii-nil

eight_is : (n : ℕ) → IsAscii (eight n)
eight_is n = IsAscii-append (four (n / 65536)) (four (n % 65536)) (four_is (n / 65536)) (four_is (n % 65536))

each_is : (f : ℕ → List ℕ) → ((c : ℕ) → IsAscii (f c)) → (cs : List ℕ) → IsAscii (flat_map f cs)
each_is f each [] = IsAscii-nil
each_is f each (c ∷ cs) = IsAscii-append (f c) (flat_map f cs) (each c) (each_is f each cs)

end_is : IsAscii end
end_is = four_are 92 88 48 92 [] (omega arith) (omega arith) (omega arith) (omega arith) IsAscii-nil

-- `\X2\` or `\X4\`
open_is : (n : ℕ) (z : List ℕ) → n < 128 → IsAscii z → IsAscii (92 ∷ 88 ∷ n ∷ 92 ∷ z)
open_is n z small is = four_are 92 88 n 92 z (omega arith) (omega arith) small (omega arith) is

others_is : (cs : List ℕ) → IsAscii (others_text cs)
others_is cs =
    either (list_any is_wide cs) (92 ∷ 88 ∷ 52 ∷ 92 ∷ (flat_map eight cs ++ end)) (92 ∷ 88 ∷ 50 ∷ 92 ∷ (flat_map four cs ++ end))
    (open_is 52 (flat_map eight cs ++ end) (omega arith) (IsAscii-append (flat_map eight cs) end (each_is eight eight_is cs) end_is))
    (open_is 50 (flat_map four cs ++ end) (omega arith) (IsAscii-append (flat_map four cs) end (each_is four four_is cs) end_is))

plain_small : (c : ℕ) → is_plain c ≡ true → c < 128
plain_small c is = grind (arith, nat_tests)

one_is : (c : ℕ) → c < 128 → IsAscii (c ∷ [])
one_is c small = IsAscii-cons c [] small IsAscii-nil

plain_is : (c : ℕ) → is_plain c ≡ true → IsAscii (plain_text c)
plain_is c is =
    either (c == 39) (39 ∷ 39 ∷ []) (if c == 92 then 92 ∷ 92 ∷ [] else c ∷ []) (IsAscii-cons 39 (39 ∷ []) (omega arith) (one_is 39 (omega arith)))
    (either (c == 92) (92 ∷ 92 ∷ []) (c ∷ []) (IsAscii-cons 92 (92 ∷ []) (omega arith) (one_is 92 (omega arith))) (one_is c (plain_small c is)))

abbrev AreAscii : List Run → Type 0
AreAscii [] = Unit {0}
AreAscii (r ∷ rs) = IsAscii (run_text r) × AreAscii rs

with_other_are : (c : ℕ) (rs : List Run) → AreAscii rs → AreAscii (with_other c rs)
with_other_are c [] are = (others_is (c ∷ []), tt)
with_other_are c (Plain d ∷ rs) are = (others_is (c ∷ []), are)
with_other_are c (Others d ds ∷ rs) are = (others_is (c ∷ d ∷ ds), are.1)

next_are : (b : Bool) (c : ℕ) (rs : List Run) → is_plain c ≡ b → AreAscii rs → AreAscii (if b then Plain c ∷ rs else with_other c rs)
next_are true c rs is are = (plain_is c is, are)
next_are false c rs is are = with_other_are c rs are

runs_are : (cs : List ℕ) → AreAscii (runs cs)
runs_are [] = tt
runs_are (c ∷ cs) = next_are (is_plain c) c (runs cs) refl (runs_are cs)

all_is : (rs : List Run) → AreAscii rs → IsAscii (runs_text rs)
all_is [] are = IsAscii-nil
all_is (r ∷ rs) are = IsAscii-append (run_text r) (runs_text rs) are.0 (all_is rs are.1)

pub encoded_is : (text : List ℕ) → IsAscii (encoded text)
unfolding encoded
encoded_is text = all_is (runs (chars text)) (runs_are (chars text))

-- ---- what is appended to UTF-8

pub empty_utf8 : (out : List ℕ) → out ≡ [] → IsUtf8 out
empty_utf8 out is = subst IsUtf8 (sym is) IsUtf8-nil

pub IsUtf8-more : (old new text : List ℕ) → IsUtf8 old → IsUtf8 text → new ≡ old ++ text → IsUtf8 new
IsUtf8-more old new text before more is = subst IsUtf8 (sym is) (IsUtf8-append old text before more)

pub IsUtf8-one : (c : ℕ) → c < 128 → IsUtf8 (c ∷ [])
IsUtf8-one c small = IsUtf8-from_ascii (c ∷ []) (one_is c small)

pub IsUtf8-encoded : (text : List ℕ) → IsUtf8 (encoded text)
IsUtf8-encoded text = IsUtf8-from_ascii (encoded text) (encoded_is text)

-- it is appended, or there is no memory for it
pub IsUtf8-tried : {E : Type 0} (r : Result (Unit {0}) E) (old new text : List ℕ) → IsUtf8 old → IsUtf8 text → OnOk r (new ≡ old ++ text) → OnErr r (new ≡ old) → IsUtf8 new
IsUtf8-tried (Ok u) old new text before more is none = IsUtf8-more old new text before more is
IsUtf8-tried (Err e) old new text before more none is = subst IsUtf8 (sym is) before

-- the same of the bytes of a text
pub IsUtf8-grown : {E : Type 0} (r : Result (Unit {0}) E) (old new text bytes : List ℕ) → IsUtf8 old → IsUtf8 text → bytes ≡ text → new ≡ (if is_ok r then old ++ bytes else old) → IsUtf8 new
IsUtf8-grown (Ok u) old new text bytes before more same is = IsUtf8-more old new text before more (is ∙ ap (λ b. old ++ b) same)
IsUtf8-grown (Err e) old new text bytes before more same is = subst IsUtf8 (sym is) before
