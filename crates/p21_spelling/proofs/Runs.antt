-- Bytes in front of a text that begins with a mark.
use Rattle.std.proofs.Common.{◌≡◌, ℕ, zero, suc, ◌≤◌, Bool, true, false, ◌&&◌, ◌||◌, ◌==◌, nat_le, List, [], ◌∷◌, ◌++◌, length, refl, sym, ◌∙◌, ap, arith}
use Rattle.std.proofs.lemmas.Bool.{eqb-true}
use Rattle.std.proofs.lemmas.Bool.Decides.{nat_tests}
use Rattle.std.specs.List.{list_all, list_any, prefix_len}
use Rattle.std.specs.Prelude.{slice_index}
use Rattle.p21_spelling.specs.Tokens.{is_cut}

-- ---- both of two tests

pub first_holds : (a b : Bool) → (a && b) ≡ true → a ≡ true
first_holds true b e = refl
first_holds false b e = cc

pub second_holds : (a b : Bool) → (a && b) ≡ true → b ≡ true
second_holds true b e = e
second_holds false b e = cc

pub both_hold : (a b : Bool) → a ≡ true → b ≡ true → (a && b) ≡ true
both_hold a b e f = rw (e, f) refl

pub at_most : (m n : ℕ) → m ≤ n → nat_le m n ≡ true
at_most m n h = grind (arith, nat_tests)

pub is_within : (m n : ℕ) → nat_le m n ≡ true → m ≤ n
is_within m n e = grind (arith, nat_tests)

-- ---- what comes next

-- a test that fails at a byte fails at what equals it, or is told by what stands before
one_or : (P : ℕ → Bool) (b c : ℕ) (t : Bool) → P c ≡ false → (t ≡ true → P b ≡ false) → (t || b == c) ≡ true → P b ≡ false
one_or P b c true fails before e = before refl
one_or P b c false fails before e = ap P (eqb-true b c e) ∙ fails

-- a test that fails at each byte that ends a token
pub cut_fails : (P : ℕ → Bool) → P 40 ≡ false → P 41 ≡ false → P 44 ≡ false → P 59 ≡ false → P 61 ≡ false → (rest : List ℕ) → is_cut rest ≡ true → P (slice_index rest 0) ≡ false
cut_fails P p q r s t [] e = cc
cut_fails P p q r s t (b ∷ z) e =
    one_or P b 61 (b == 40 || b == 41 || b == 44 || b == 59) t
    (one_or P b 59 (b == 40 || b == 41 || b == 44) s
    (one_or P b 44 (b == 40 || b == 41) r
    (one_or P b 41 (b == 40) q
    (λ is. ap P (eqb-true b 40 is) ∙ p)))) e

-- ---- runs

stops : (P : ℕ → Bool) (rest : List ℕ) → P (slice_index rest 0) ≡ false → prefix_len P rest ≡ 0
stops P [] fails = refl
stops P (b ∷ rest) fails = rw fails refl

-- a run doesn't go on in what follows
pub run_ends : (P : ℕ → Bool) (t rest : List ℕ) → P (slice_index rest 0) ≡ false → prefix_len P (t ++ rest) ≡ prefix_len P t
run_ends P [] rest fails = stops P rest fails
run_ends P (b ∷ t) rest fails = rw (run_ends P t rest fails) refl

-- a test that holds neither of what comes next nor of nothing tells the same of each place
pub test_at : (P : ℕ → Bool) (t rest : List ℕ) (n : ℕ) → P (slice_index rest 0) ≡ false → P 0 ≡ false → n ≤ length t → P (slice_index (t ++ rest) n) ≡ P (slice_index t n)
test_at P [] rest zero fails none fits = fails ∙ sym none
test_at P [] rest (suc n) fails none fits = absurd (omega arith)
test_at P (b ∷ t) rest zero fails none fits = refl
test_at P (b ∷ t) rest (suc n) fails none fits = test_at P t rest n fails none (omega arith)

pub run_of_all : (P : ℕ → Bool) (t : List ℕ) → list_all P t ≡ true → prefix_len P t ≡ length t
run_of_all P [] all = refl
run_of_all P (b ∷ t) all =
    let others = run_of_all P t (second_holds (P b) (list_all P t) all) in
    rw (first_holds (P b) (list_all P t) all) (omega arith)

pub prefix_all : (P : ℕ → Bool) (t rest : List ℕ) → list_all P t ≡ true → P (slice_index rest 0) ≡ false → prefix_len P (t ++ rest) ≡ length t
prefix_all P t rest all fails = run_ends P t rest fails ∙ run_of_all P t all

pub all_more : (P Q : ℕ → Bool) → ((b : ℕ) → P b ≡ true → Q b ≡ true) → (t : List ℕ) → list_all P t ≡ true → list_all Q t ≡ true
all_more P Q go [] all = refl
all_more P Q go (b ∷ t) all = rw (go b (first_holds (P b) (list_all P t) all), all_more P Q go t (second_holds (P b) (list_all P t) all)) refl

pub none_of : (P Q : ℕ → Bool) → ((b : ℕ) → P b ≡ true → Q b ≡ false) → (t : List ℕ) → list_all P t ≡ true → list_any Q t ≡ false
none_of P Q go [] all = refl
none_of P Q go (b ∷ t) all = rw (go b (first_holds (P b) (list_all P t) all), none_of P Q go t (second_holds (P b) (list_all P t) all)) refl
