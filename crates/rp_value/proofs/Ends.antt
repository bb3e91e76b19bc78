-- Where the characters of a text end.
use Rattle.std.proofs.Common.{◌≡◌, ℕ, zero, suc, ◌+◌, ◌-◌, ◌*◌, ◌/◌, ◌<◌, ◌≤◌, min, Bool, true, false, cond, leb, if◌then◌else◌, ◌==◌, List, [], ◌∷◌, length, get_or, take, drop, map, slice_get, Some, refl, ◌∙◌, ap, add-one, take-add, drop-cons, length-take, arith}
use Rattle.std.specs.List.{count_by, range_with_len}
use Rattle.std.specs.List.Sorted.{IsNonDecreasingBy, IsPartitionPoint}
use Rattle.std.specs.Fmt.{is_char_start, take_chars}
use Rattle.std.specs.Str.{IsCharBoundary}
use Rattle.std.proofs.lemmas.Bool.Decides.{nat_tests}
use Rattle.std.proofs.lemmas.Bool.{leb-false, leb-true, ne_eqb}
use Rattle.std.proofs.lemmas.Option.{get_or_from_slice_get, slice_get_within}
use Rattle.std.proofs.lemmas.List.FromFn.{length-map-range_with_len, get_or-map-range_with_len}
use Rattle.std.proofs.lemmas.List.Sums.{count_by-le-length, sum_by-cons, sum_by-append}
use Rattle.rp_value.specs.Blocks.{begun_in, block_starts}

-- ---- how many characters begin in parts of a text

abbrev pub begun : List ℕ → ℕ
begun text = count_by is_char_start text

pub begun-cons : (b : ℕ) (text : List ℕ) → begun (b ∷ text) ≡ cond (is_char_start b) 1 0 + begun text
begun-cons b text = sum_by-cons (λ y. cond (is_char_start y) 1 0) b text

begun-one : (b : ℕ) (text : List ℕ) → is_char_start b ≡ true → begun (b ∷ text) ≡ 1 + begun text
begun-one b text starts = begun-cons b text ∙ ap (λ t. cond t 1 0 + begun text) starts

begun-none : (b : ℕ) (text : List ℕ) → is_char_start b ≡ false → begun (b ∷ text) ≡ 0 + begun text
begun-none b text inside = begun-cons b text ∙ ap (λ t. cond t 1 0 + begun text) inside

pub begun-add : (text : List ℕ) (i j : ℕ) → begun (take (i + j) text) ≡ begun (take i text) + begun (take j (drop i text))
begun-add text i j = ap begun (take-add i j text) ∙ sum_by-append (λ y. cond (is_char_start y) 1 0) (take i text) (take j (drop i text))

pub begun-rises : (text : List ℕ) (i j : ℕ) → i ≤ j → begun (take i text) ≤ begun (take j text)
begun-rises text i j le =
    let at : i + (j - i) ≡ j = omega arith in
    omega (arith, begun-add text i (j - i), ap (λ n. begun (take n text)) at)

pub begun-most : (text : List ℕ) (i : ℕ) → begun (take i text) ≤ i
begun-most text i = omega (arith, count_by-le-length is_char_start (take i text), length-take i text)

-- in a front whose characters take one byte each
pub begun-plain : (text : List ℕ) (i j : ℕ) → i ≤ j → begun (take j text) ≡ j → begun (take i text) ≡ i
begun-plain text i j le plain =
    let at : i + (j - i) ≡ j = omega arith in
    omega (arith, begun-add text i (j - i), ap (λ n. begun (take n text)) at, begun-most text i, begun-most (drop i text) (j - i))

-- ---- the first characters

take_chars-nil : (n : ℕ) → take_chars n [] ≡ []
unfolding take_chars
take_chars-nil n = refl

take_chars-cons : (n b : ℕ) (text : List ℕ) → take_chars n (b ∷ text) ≡ (if is_char_start b then (if n == 0 then [] else b ∷ take_chars (n - 1) text) else b ∷ take_chars n text)
unfolding take_chars
take_chars-cons n b text = refl

-- how many bytes they have
abbrev pub end_of : ℕ → List ℕ → ℕ
end_of n text = length (take_chars n text)

pub end-nil : (n : ℕ) → end_of n [] ≡ 0
end-nil n = ap length (take_chars-nil n)

end-stops : (n b : ℕ) (text : List ℕ) → is_char_start b ≡ true → n ≡ 0 → end_of n (b ∷ text) ≡ 0
end-stops n b text starts none = rw (take_chars-cons, starts, none) refl

end-takes : (n m b : ℕ) (text : List ℕ) → is_char_start b ≡ true → n ≡ suc m → end_of n (b ∷ text) ≡ suc (end_of m text)
end-takes n m b text starts more =
    let some = ne_eqb n 0 (omega arith) in
    let left : n - 1 ≡ m = omega arith in
    rw (take_chars-cons, starts, some, left) refl

end-keeps : (n b : ℕ) (text : List ℕ) → is_char_start b ≡ false → end_of n (b ∷ text) ≡ suc (end_of n text)
end-keeps n b text inside = rw (take_chars-cons, inside) refl

-- behind a part in which no more than those begin
behind-cons : (i n b : ℕ) (text : List ℕ) (starts : Bool) → is_char_start b ≡ starts → ((m : ℕ) → begun (take i text) ≤ m → end_of m text ≡ length (take i text) + end_of (m - begun (take i text)) (drop i text))
    → begun (b ∷ take i text) ≤ n → end_of n (b ∷ text) ≡ suc (length (take i text)) + end_of (n - begun (b ∷ take i text)) (drop i text)
behind-cons i n b text true is rest le =
    let count = begun-one b (take i text) is in
    let left : n - 1 - begun (take i text) ≡ n - begun (b ∷ take i text) = omega arith in
    omega (arith, end-takes n (n - 1) b text is (omega arith), rest (n - 1) (omega arith), ap (λ m. end_of m (drop i text)) left)
behind-cons i n b text false is rest le =
    let count = begun-none b (take i text) is in
    let left : n - begun (take i text) ≡ n - begun (b ∷ take i text) = omega arith in
    omega (arith, end-keeps n b text is, rest n (omega arith), ap (λ m. end_of m (drop i text)) left)

pub end-behind : (i n : ℕ) (text : List ℕ) → begun (take i text) ≤ n → end_of n text ≡ length (take i text) + end_of (n - begun (take i text)) (drop i text)
end-behind zero n text le =
    let all : n - 0 ≡ n = omega arith in
    omega (arith, ap (λ m. end_of m text) all)
end-behind (suc i) n [] le = omega (arith, end-nil n, end-nil (n - 0))
end-behind (suc i) n (b ∷ text) le = behind-cons i n b text (is_char_start b) refl (λ m h. end-behind i m text h) le

-- of characters of one byte each
plain-cons : (n b : ℕ) (text : List ℕ) (starts : Bool) → is_char_start b ≡ starts → begun (b ∷ text) ≡ suc (length text) → ((m : ℕ) → begun text ≡ length text → end_of m text ≡ min m (length text)) → end_of n (b ∷ text) ≡ min n (suc (length text))
plain-cons zero b text true is plain rest = omega (arith, end-stops 0 b text is refl)
plain-cons (suc n) b text true is plain rest =
    let count = begun-one b text is in
    omega (arith, end-takes (suc n) n b text is refl, rest n (omega arith))
plain-cons n b text false is plain rest =
    absurd (omega (arith, begun-none b text is, count_by-le-length is_char_start text))

pub end-plain : (text : List ℕ) (n : ℕ) → begun text ≡ length text → end_of n text ≡ min n (length text)
end-plain [] n plain = omega (arith, end-nil n)
end-plain (b ∷ text) n plain = plain-cons n b text (is_char_start b) refl plain (λ m h. end-plain text m h)

-- ---- byte by byte

module _ (text : List ℕ) (i : ℕ) where
  -- the byte at i begins the first character that is left out
  pub stops : i < length text → is_char_start (get_or text i 0) ≡ true → end_of 0 (drop i text) ≡ 0
  stops within starts = rw (drop-cons text i 0 within) (end-stops 0 _ _ starts refl)

  -- or it is taken, and counts if it begins a character
  pub takes : (n m : ℕ) → i < length text → is_char_start (get_or text i 0) ≡ true → n ≡ suc m → end_of n (drop i text) ≡ suc (end_of m (drop (i + 1) text))
  takes n m within starts more = rw (add-one, drop-cons text i 0 within) (end-takes n m _ _ starts more)

  pub keeps : (n m : ℕ) → i < length text → is_char_start (get_or text i 0) ≡ false → n ≡ m → end_of n (drop i text) ≡ suc (end_of m (drop (i + 1) text))
  keeps n m within inside same = rw (add-one, drop-cons text i 0 within, same) (end-keeps m _ _ inside)

-- ---- where a text may be cut

within-cons : (n b : ℕ) (text : List ℕ) (starts : Bool) → is_char_start b ≡ starts → ((m : ℕ) → end_of m text ≤ length text) → end_of n (b ∷ text) ≤ suc (length text)
within-cons zero b text true is rest = omega (arith, end-stops 0 b text is refl)
within-cons (suc n) b text true is rest = omega (arith, end-takes (suc n) n b text is refl, rest n)
within-cons n b text false is rest = omega (arith, end-keeps n b text is, rest n)

pub end-within : (n : ℕ) (text : List ℕ) → end_of n text ≤ length text
end-within n [] = omega (arith, end-nil n)
end-within n (b ∷ text) = within-cons n b text (is_char_start b) refl (λ m. end-within m text)

starts-cons : (n b : ℕ) (text : List ℕ) (starts : Bool) → is_char_start b ≡ starts → ((m : ℕ) → end_of m text < length text → is_char_start (get_or text (end_of m text) 0) ≡ true)
    → end_of n (b ∷ text) < suc (length text) → is_char_start (get_or (b ∷ text) (end_of n (b ∷ text)) 0) ≡ true
starts-cons zero b text true is rest lt = rw (end-stops 0 b text is refl) is
starts-cons (suc n) b text true is rest lt =
    let at = end-takes (suc n) n b text is refl in
    rw at (rest n (omega (arith, at)))
starts-cons n b text false is rest lt =
    let at = end-keeps n b text is in
    rw at (rest n (omega (arith, at)))

end-starts : (n : ℕ) (text : List ℕ) → end_of n text < length text → is_char_start (get_or text (end_of n text) 0) ≡ true
end-starts n [] lt = absurd (omega arith)
end-starts n (b ∷ text) lt = starts-cons n b text (is_char_start b) refl (λ m h. end-starts m text h) lt

wide : (b : ℕ) → is_char_start b ≡ true → 128 ≤ b → 192 ≤ b
wide b starts more = grind (arith, nat_tests)

pub boundary : (n : ℕ) (text : List ℕ) → IsCharBoundary text (end_of n text)
boundary n text = (end-within n text, λ lt. wide _ (end-starts n text lt))

-- ---- the characters from one to another

prefix-cons : (n b : ℕ) (text : List ℕ) (starts : Bool) → is_char_start b ≡ starts → ((m : ℕ) → take (end_of m text) text ≡ take_chars m text) → take (end_of n (b ∷ text)) (b ∷ text) ≡ take_chars n (b ∷ text)
prefix-cons zero b text true is rest = rw (take_chars-cons, is) refl
prefix-cons (suc n) b text true is rest =
    let some = ne_eqb (suc n) 0 (omega arith) in
    let left : suc n - 1 ≡ n = omega arith in
    rw (take_chars-cons, is, some, left) (ap (λ l. b ∷ l) (rest n))
prefix-cons n b text false is rest = rw (take_chars-cons, is) (ap (λ l. b ∷ l) (rest n))

pub prefix : (n : ℕ) (text : List ℕ) → take (end_of n text) text ≡ take_chars n text
prefix n [] = rw (take_chars-nil n) refl
prefix n (b ∷ text) = prefix-cons n b text (is_char_start b) refl (λ m. prefix m text)

between-cons : (n m b : ℕ) (text : List ℕ) (starts : Bool) → is_char_start b ≡ starts → n ≤ m → ((k j : ℕ) → k ≤ j → end_of j text ≡ end_of k text + end_of (j - k) (drop (end_of k text) text))
    → end_of m (b ∷ text) ≡ end_of n (b ∷ text) + end_of (m - n) (drop (end_of n (b ∷ text)) (b ∷ text))
between-cons zero m b text true is le rest =
    let here = end-stops 0 b text is refl in
    let all : m - 0 ≡ m = omega arith in
    rw (here, all) (omega arith)
between-cons (suc n) zero b text true is le rest = absurd (omega arith)
between-cons (suc n) (suc m) b text true is le rest =
    let left : suc m - suc n ≡ m - n = omega arith in
    rw (end-takes (suc n) n b text is refl, left) (omega (arith, end-takes (suc m) m b text is refl, rest n m (omega arith)))
between-cons n m b text false is le rest = rw (end-keeps n b text is) (omega (arith, end-keeps m b text is, rest n m le))

pub between : (n m : ℕ) (text : List ℕ) → n ≤ m → end_of m text ≡ end_of n text + end_of (m - n) (drop (end_of n text) text)
between n m [] le = rw (end-nil n, end-nil m) (omega (arith, end-nil (m - n)))
between n m (b ∷ text) le = between-cons n m b text (is_char_start b) refl le (λ k j h. between k j text h)

pub part : (n m : ℕ) (text : List ℕ) → n ≤ m → take (end_of m text - end_of n text) (drop (end_of n text) text) ≡ take_chars (m - n) (drop (end_of n text) text)
part n m text le =
    let rest = drop (end_of n text) text in
    let size : end_of m text - end_of n text ≡ end_of (m - n) rest = omega (arith, between n m text le) in
    rw size (prefix (m - n) rest)

-- ---- marks

pub starts-are : (text : List ℕ) → map (begun_in text) (range_with_len 0 (length text / 256 + 1)) ≡ block_starts text
unfolding block_starts
starts-are text = refl

length-starts : (text : List ℕ) → length (block_starts text) ≡ length text / 256 + 1
unfolding block_starts
length-starts text = length-map-range_with_len (begun_in text) 0 (length text / 256 + 1)

get_or-starts : (text : List ℕ) (i d : ℕ) → i < length text / 256 + 1 → get_or (block_starts text) i d ≡ begun_in text i
unfolding block_starts
get_or-starts text i d lt = get_or-map-range_with_len (begun_in text) 0 (length text / 256 + 1) i i d lt (omega arith)

pub starts-rise : (text : List ℕ) → IsNonDecreasingBy (λ x. x) (block_starts text)
starts-rise text i j d le lt =
    let within = length-starts text in
    omega (arith, get_or-starts text i d (omega arith), get_or-starts text j d (omega arith), begun-rises text (i * 256) (j * 256) (omega arith))

pub starts-first : (text : List ℕ) → slice_get (block_starts text) 0 ≡ Some 0
unfolding block_starts
starts-first text =
    let more : length text / 256 + 1 ≡ suc (length text / 256) = omega arith in
    rw more refl

module _ (text : List ℕ) (k : ℕ) (lt : k < length (block_starts text)) where
  pub start-within : k * 256 ≤ length text
  start-within = omega (arith, length-starts text)

  pub start-is : get_or (block_starts text) k 0 ≡ begun_in text k
  start-is = get_or-starts text k 0 (omega (arith, length-starts text))

-- the last number that is at most n
module _ (numbers : List ℕ) (n p : ℕ) (first : slice_get numbers 0 ≡ Some 0) (bound : p ≤ length numbers) (point : IsPartitionPoint (λ y. leb y n ≡ true) (λ y. leb y n ≡ false) numbers p) where
  not_first : p ≡ 0 → ⊥
  not_first none =
      let within = slice_get_within numbers 0 0 first in
      let fails = point.1 0 0 (omega arith) within in
      let more = leb-false _ n fails in
      omega (arith, get_or_from_slice_get numbers 0 0 0 first)

  pub some_before : 1 ≤ p
  some_before = omega (arith, not_first)

  pub is_within : p - 1 < length numbers
  is_within = omega (arith, some_before)

  pub is_most : get_or numbers (p - 1) 0 ≤ n
  is_most = leb-true _ n (point.0 (p - 1) 0 (omega arith) (omega (arith, some_before)))
