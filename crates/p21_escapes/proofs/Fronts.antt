-- What a string spells, by what it begins with.
use Rattle.std.proofs.Common.{◌≡◌, ◌++◌, ℕ, zero, suc, ◌-◌, ◌≤◌, ◌<◌, not, Bool, true, false, if◌then◌else◌, List, [], ◌∷◌, length, drop, refl, Some, None, sym, ◌∙◌, ap, Result, Ok, Err, IfOk, MatchResult, ◌||◌, ◌==◌, filter, arith}
use Rattle.std.proofs.lemmas.Str.Ascii.{IsAscii-nil, IsAscii-cons}
use Rattle.std.proofs.lemmas.Bool.{eqb-true}
use Rattle.std.proofs.lemmas.Bool.Decides.{nat_tests}
use Rattle.std.specs.List.{list_all, list_any}
use Rattle.std.proofs.lemmas.Str.{encode_ascii}
use Rattle.std.specs.Str.{IsAscii}
use lib.Utf8.{scalar}
use Rattle.plain_data.specs.declared.failure.Failure.{Failure}
use Rattle.plain_data.specs.declared.failure.Failure.TheVariants.{NoMemory, Fault}
use Rattle.plain_data.specs.Gives.{Fails}
use Rattle.text_forms.specs.Reads.{Reads}
use Rattle.p21_escapes.specs.declared.fault.StringFault.{StringFault}
use Rattle.p21_escapes.specs.Decoding.{Decoding, appended, ◌>>=◌, coded, front, is_bare, spelled_from, spelled, is_line_end, text_of, decoded, fault_of, fault}
use Rattle.p21_escapes.specs.Forms.{checked}
use Rattle.p21_escapes.specs.LineEnds.{kept}
use Rattle.p21_escapes.proofs.Runs.{first_holds, second_holds}
use Rattle.p21_escapes.proofs.Spelling.{appended_twice, then_ok, then_err, checked_ok, checked_err, checked_appended}

pub spelled_from-drop : (n : ℕ) (z : List ℕ) → spelled_from n z ≡ spelled_from 0 (drop n z)
spelled_from-drop zero z = refl
spelled_from-drop (suc n) [] = refl
spelled_from-drop (suc n) (b ∷ z) = spelled_from-drop n z

after_front : (n b : ℕ) (z : List ℕ) → 1 ≤ n → spelled_from (n - 1) z ≡ spelled_from 0 (drop n (b ∷ z))
after_front zero b z some = absurd (omega arith)
after_front (suc n) b z some =
    let less : suc n - 1 ≡ n = omega arith in
    ap (λ k. spelled_from k z) less ∙ spelled_from-drop n z

-- ---- one front, and the rest

pub spelled_step : (out new : List ℕ) (n : ℕ) (z : List ℕ) → 0 < length z → 1 ≤ n → appended out (front z) ≡ Ok (n, new) → appended new (spelled (drop n z)) ≡ appended out (spelled z)
unfolding spelled
spelled_step out new n [] any some is = absurd (omega arith)
spelled_step out new n (b ∷ z) any some is =
    sym (then_ok out new (front (b ∷ z)) n (λ n. spelled_from (n - 1) z) is ∙ ap (appended new) (after_front n b z some))

pub spelled_fails : (e : Failure StringFault) (out z : List ℕ) → 0 < length z → Fails e (appended out (front z)) → Fails e (appended out (spelled z))
unfolding spelled
spelled_fails NoMemory out z any is = tt
spelled_fails (Fault f) out [] any is = absurd (omega arith)
spelled_fails (Fault f) out (b ∷ z) any is = then_err out (front (b ∷ z)) f (λ n. spelled_from (n - 1) z) is

pub checked_step : (n : ℕ) (z : List ℕ) → 0 < length z → 1 ≤ n → checked (front z) ≡ Ok n → checked (spelled (drop n z)) ≡ checked (spelled z)
unfolding spelled
checked_step n [] any some is = absurd (omega arith)
checked_step n (b ∷ z) any some is = sym (checked_ok (front (b ∷ z)) n (λ n. spelled_from (n - 1) z) is ∙ ap checked (after_front n b z some))

pub checked_fails : (fault : StringFault) (z : List ℕ) → 0 < length z → checked (front z) ≡ Err fault → checked (spelled z) ≡ Err fault
unfolding spelled
checked_fails fault [] any is = absurd (omega arith)
checked_fails fault (b ∷ z) any is = checked_err (front (b ∷ z)) fault (λ n. spelled_from (n - 1) z) is

-- ---- bytes that stand for themselves

small_scalar : (b : ℕ) → b < 128 → scalar b ≡ true
small_scalar b is = grind (arith, nat_tests)

pub bare_coded : (b : ℕ) → b < 128 → coded 1 b ≡ Ok (1, b ∷ [])
bare_coded b is = rw (small_scalar b is, encode_ascii b is) refl

bare_front : (b : ℕ) (z : List ℕ) → is_bare b ≡ true → front (b ∷ z) ≡ Ok (1, b ∷ [])
unfolding front
bare_front b z is = grind (arith, nat_tests)

appended_none : {A : Type 0} (p : Decoding A) → appended [] p ≡ p
appended_none (Ok p) = refl
appended_none (Err fault) = refl

pub spelled_run : (run rest : List ℕ) → list_all is_bare run ≡ true → spelled (run ++ rest) ≡ appended run (spelled rest)
unfolding spelled
spelled_run [] rest all = sym (appended_none (spelled_from 0 rest))
spelled_run (b ∷ run) rest all =
    ap (λ p. p >>= λ k. spelled_from (k - 1) (run ++ rest)) (bare_front b (run ++ rest) (first_holds (is_bare b) (list_all is_bare run) all))
    ∙ ap (appended (b ∷ [])) (spelled_run run rest (second_holds (is_bare b) (list_all is_bare run) all))
    ∙ appended_twice (b ∷ []) run (spelled_from 0 rest)

bare_small : (b : ℕ) → is_bare b ≡ true → b < 128
bare_small b is = grind (arith, nat_tests)

pub bare_ascii : (run : List ℕ) → list_all is_bare run ≡ true → IsAscii run
bare_ascii [] all = IsAscii-nil
bare_ascii (b ∷ run) all =
    let bare = first_holds (is_bare b) (list_all is_bare run) all in
    IsAscii-cons b run (bare_small b bare) (bare_ascii run (second_holds (is_bare b) (list_all is_bare run) all))

-- what a function does that takes a front
pub front_gives : (r : Result ℕ (Failure StringFault)) (out new z : List ℕ) → 0 < length z → Reads (appended out (front z)) r new → IfOk r (λ n. 1 ≤ n)
    → MatchResult r (λ n. appended new (spelled (drop n z)) ≡ appended out (spelled z)) (λ e. Fails e (appended out (spelled z)))
front_gives (Ok n) out new z any is some = spelled_step out new n z any some is
front_gives (Err e) out new z any is some = spelled_fails e out z any is

pub run_step : (out new run rest z : List ℕ) → z ≡ run ++ rest → list_all is_bare run ≡ true → new ≡ out ++ run → appended new (spelled rest) ≡ appended out (spelled z)
run_step out new run rest z is all goes =
    ap (λ l. appended l (spelled rest)) goes ∙ sym (appended_twice out run (spelled rest)) ∙ ap (appended out) (sym (ap spelled is ∙ spelled_run run rest all))

pub checked_run : (run rest z : List ℕ) → z ≡ run ++ rest → list_all is_bare run ≡ true → checked (spelled rest) ≡ checked (spelled z)
checked_run run rest z is all = sym (ap (λ l. checked (spelled l)) is ∙ ap checked (spelled_run run rest all) ∙ checked_appended run (spelled rest))

-- ---- the fault of the whole

pub none_left : (z : List ℕ) → (length z == 0) ≡ true → checked (spelled z) ≡ Ok tt
unfolding spelled
none_left [] is = refl
none_left (b ∷ z) is = absurd (omega (arith, eqb-true (length (b ∷ z)) 0 is))

pub no_fault : (bytes : List ℕ) → checked (spelled (kept bytes)) ≡ Ok tt → fault bytes ≡ None
unfolding fault decoded kept
no_fault bytes is = of_text (spelled (kept bytes)) is
  where
    of_text : (p : Decoding (Unit {0})) → checked p ≡ Ok tt → fault_of (text_of p) ≡ None
    of_text (Ok p) is = refl
    of_text (Err f) is = cc

pub one_fault : (bytes : List ℕ) (f : StringFault) → checked (spelled (kept bytes)) ≡ Err f → fault bytes ≡ Some f
unfolding fault decoded kept
one_fault bytes f is = of_text (spelled (kept bytes)) is
  where
    of_text : (p : Decoding (Unit {0})) → checked p ≡ Err f → fault_of (text_of p) ≡ Some f
    of_text (Ok p) is = cc
    of_text (Err e) is = cc

pub ruleset fault_laws = (no_fault, one_fault, checked_step, checked_fails, checked_run)

-- ---- line ends

pub none_dropped : (z : List ℕ) → list_any is_line_end z ≡ false → filter (λ b. not (is_line_end b)) z ≡ z
none_dropped [] is = refl
none_dropped (b ∷ z) is = by_test (is_line_end b) refl is (none_dropped z)
  where
    by_test : (t : Bool) → is_line_end b ≡ t → (t || list_any is_line_end z) ≡ false → (list_any is_line_end z ≡ false → filter (λ b. not (is_line_end b)) z ≡ z) → (if not t then b ∷ filter (λ b. not (is_line_end b)) z else filter (λ b. not (is_line_end b)) z) ≡ b ∷ z
    by_test true here is more = cc
    by_test false here is more = ap (λ l. b ∷ l) (more is)
