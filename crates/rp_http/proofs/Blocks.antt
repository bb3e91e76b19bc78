-- The blocks of an answer that is being sent.
use Rattle.std.proofs.Common.{◌≡◌, ℕ, ◌+◌, ◌-◌, ◌≤◌, List, [], ◌++◌, length, drop, append-nil, refl, sym, ap, ◌∙◌, arith, length-drop}
use Rattle.std.proofs.lemmas.Grind.{common_steps}
use Rattle.std.proofs.lemmas.List.{drop-append-le, drop-drop}
use Rattle.rp_http.specs.declared.answers.AnswerBytes.{AnswerBytes}
use Rattle.rp_http.specs.declared.answers.AnswerBytes.TheVariants.{Fixed, Joined, Parted}
use Rattle.rp_http.specs.Bytes.{first_in, rest_in, text_in, last_of}

pub blocks : (bytes : AnswerBytes) → first_in bytes ++ rest_in bytes ≡ text_in bytes
blocks (Fixed bytes) = append-nil bytes.now
blocks (Joined bytes) = append-nil bytes.items
blocks (Parted head body) = refl

all_of : (xs : List ℕ) (n : ℕ) → n ≡ length xs → last_of n xs ≡ xs
all_of xs n e = let none : length xs - n ≡ 0 = omega (arith, e) in ap (λ k. drop k xs) none

none_of : (xs : List ℕ) → last_of 0 xs ≡ []
none_of xs = grind (arith, common_steps)

-- where the first block is sent, the second is all that is left
pub next_block : (old new : AnswerBytes) (n m : ℕ) → n ≡ 0 → first_in new ≡ rest_in old → rest_in new ≡ [] → m ≡ length (first_in new)
    → last_of m (first_in new) ++ rest_in new ≡ last_of n (first_in old) ++ rest_in old
next_block old new n m none first rest all =
    rw (rest, append-nil) (all_of (first_in new) m all ∙ first ∙ sym (ap (λ l. l ++ rest_in old) (ap (λ k. last_of k (first_in old)) none ∙ none_of (first_in old))))

-- fewer of the last are what is behind some of them
pub fewer_of : (xs rest : List ℕ) (n k : ℕ) → n ≤ length xs → k ≤ length (last_of n xs) → last_of (n - k) xs ++ rest ≡ drop k (last_of n xs ++ rest)
fewer_of xs rest n k within some =
    let long : k ≤ n = omega (arith, length-drop (length xs - n) xs, some, within) in
    let at : length xs - (n - k) ≡ (length xs - n) + k = omega (arith, within, long) in
    ap (λ l. l ++ rest) (ap (λ i. drop i xs) at ∙ sym (drop-drop k (length xs - n) xs)) ∙ sym (drop-append-le k (last_of n xs) rest some)
