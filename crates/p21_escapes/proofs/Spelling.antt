-- One spelled after the other, behind a text.
use Rattle.std.proofs.Common.{◌≡◌, ℕ, List, [], ◌∷◌, ◌++◌, Ok, Err, refl, sym, ◌∙◌, ap, append_assoc, append-nil, Option, Some, None, true, false, zero, suc, ◌+◌, ◌*◌, ◌≤◌, Bool, ◌&&◌, length, take, drop, if◌then◌else◌, slice_index, arith}
use Rattle.std.specs.Option.{option_map}
use Rattle.plain_data.specs.declared.failure.Failure.{Failure}
use Rattle.plain_data.specs.declared.failure.Failure.TheVariants.{NoMemory, Fault}
use Rattle.plain_data.specs.Gives.{Fails}
use Rattle.p21_escapes.specs.declared.fault.StringFault.{StringFault}
use Rattle.p21_escapes.specs.Digits.{are_four}
use Rattle.p21_escapes.specs.Decoding.{Decoding, appended, ◌>>=◌, is_end, groups, unit, ended, nothing, character, short, long}
use Rattle.p21_escapes.specs.Forms.{group, told_unit, told_character, checked}

pub appended_twice : {A : Type 0} (out text : List ℕ) (p : Decoding A) → appended out (appended text p) ≡ appended (out ++ text) p
appended_twice out text (Ok p) = ap (λ l. Ok (p.0, l)) (sym (append_assoc out text p.1))
appended_twice out text (Err fault) = refl

-- what was read in front, and then the rest
pub then_ok : {A B : Type 0} (out new : List ℕ) (p : Decoding A) (a : A) (next : A → Decoding B) → appended out p ≡ Ok (a, new) → appended out (p >>= next) ≡ appended new (next a)
then_ok {A = A} out new (Ok p) a next is =
    let pair : (p.0, out ++ p.1) ≡ (a, new) = cc in
    appended_twice out p.1 (next p.0) ∙ ap (λ (q : A × List ℕ). appended q.1 (next q.0)) pair
then_ok out new (Err fault) a next is = cc

pub then_err : {A B : Type 0} (out : List ℕ) (p : Decoding A) (fault : StringFault) (next : A → Decoding B) → appended out p ≡ Err fault → appended out (p >>= next) ≡ Err fault
then_err out (Ok p) fault next is = cc
then_err out (Err e) fault next is = cc

-- no text after it
pub then_told : {A B : Type 0} (out new : List ℕ) (p : Decoding A) (a : A) (b : B) → appended out p ≡ Ok (a, new) → appended out (p >>= λ _. Ok (b, [])) ≡ Ok (b, new)
then_told out new p a b is = then_ok out new p a (λ _. Ok (b, [])) is ∙ ap (λ l. Ok (b, l)) (append-nil new)

pub ruleset writer_laws = (then_told, then_err)

-- ---- groups of four and eight digits

no_more : (t : Bool) → (t && false) ≡ false
no_more true = refl
no_more false = refl

no_fourth : (t : Bool) → (t && false) ≡ true → ⊥
no_fourth true is = cc
no_fourth false is = cc

pub four_there : (z : List ℕ) → are_four (slice_index z 0) (slice_index z 1) (slice_index z 2) (slice_index z 3) ≡ true → 4 ≤ length z
four_there (a ∷ b ∷ c ∷ d ∷ z) is = omega arith
four_there (a ∷ b ∷ c ∷ []) is = absurd (no_fourth _ is)
four_there (a ∷ b ∷ []) is = absurd (no_fourth _ is)
four_there (a ∷ []) is = absurd (no_fourth _ is)
four_there [] is = absurd (no_fourth false is)

pub groups_at : (z : List ℕ) → groups z
    ≡ (if is_end (slice_index z 0) (slice_index z 1) (slice_index z 2) (slice_index z 3) then Some 0 else if are_four (slice_index z 0) (slice_index z 1) (slice_index z 2) (slice_index z 3) then option_map suc (groups (drop 4 z)) else None)
groups_at (a ∷ b ∷ c ∷ d ∷ z) = refl
groups_at (a ∷ b ∷ c ∷ []) = simp no_more
groups_at (a ∷ b ∷ []) = simp no_more
groups_at (a ∷ []) = simp no_more
groups_at [] = refl

pub short_at : (high : Option ℕ) (n m : ℕ) (z : List ℕ) → n ≡ suc m → 4 * n ≤ length z → short high (take (4 * n) z) ≡ (unit high (group z) >>= λ next. short next (take (4 * m) (drop 4 z)))
short_at high n m (a ∷ b ∷ c ∷ d ∷ z) is fits =
    let four_more : 4 * n ≡ suc (suc (suc (suc (4 * m)))) = omega arith in
    ap (λ k. short high (take k (a ∷ b ∷ c ∷ d ∷ z))) four_more
short_at high n m (a ∷ b ∷ c ∷ []) is fits = absurd (omega arith)
short_at high n m (a ∷ b ∷ []) is fits = absurd (omega arith)
short_at high n m (a ∷ []) is fits = absurd (omega arith)
short_at high n m [] is fits = absurd (omega arith)

pub short_end : (high : Option ℕ) (n : ℕ) (z : List ℕ) → n ≡ 0 → short high (take (4 * n) z) ≡ ended high
short_end high n z none = ap (λ k. short high (take (4 * k) z)) none

pub long_at : (n m : ℕ) (z : List ℕ) → n ≡ suc (suc m) → 4 * n ≤ length z → long (take (4 * n) z) ≡ (character (group z * 65536 + group (drop 4 z)) >>= λ _. long (take (4 * m) (drop 8 z)))
long_at n m (a ∷ b ∷ c ∷ d ∷ e ∷ f ∷ g ∷ h ∷ z) is fits =
    let eight_more : 4 * n ≡ suc (suc (suc (suc (suc (suc (suc (suc (4 * m)))))))) = omega arith in
    ap (λ k. long (take k (a ∷ b ∷ c ∷ d ∷ e ∷ f ∷ g ∷ h ∷ z))) eight_more
long_at n m (a ∷ b ∷ c ∷ d ∷ e ∷ f ∷ g ∷ []) is fits = absurd (omega arith)
long_at n m (a ∷ b ∷ c ∷ d ∷ e ∷ f ∷ []) is fits = absurd (omega arith)
long_at n m (a ∷ b ∷ c ∷ d ∷ e ∷ []) is fits = absurd (omega arith)
long_at n m (a ∷ b ∷ c ∷ d ∷ []) is fits = absurd (omega arith)
long_at n m (a ∷ b ∷ c ∷ []) is fits = absurd (omega arith)
long_at n m (a ∷ b ∷ []) is fits = absurd (omega arith)
long_at n m (a ∷ []) is fits = absurd (omega arith)
long_at n m [] is fits = absurd (omega arith)

pub long_end : (n : ℕ) (z : List ℕ) → n ≤ 1 → long (take (4 * n) z) ≡ nothing
long_end zero z few = refl
long_end (suc zero) (a ∷ b ∷ c ∷ d ∷ z) few = refl
long_end (suc zero) (a ∷ b ∷ c ∷ []) few = refl
long_end (suc zero) (a ∷ b ∷ []) few = refl
long_end (suc zero) (a ∷ []) few = refl
long_end (suc zero) [] few = refl
long_end (suc (suc n)) z few = absurd (omega arith)

-- one group more
pub short_step : (out new : List ℕ) (high next : Option ℕ) (n m : ℕ) (z : List ℕ) → n ≡ suc m → 4 * n ≤ length z
    → appended out (unit high (group z)) ≡ Ok (next, new) → appended new (short next (take (4 * m) (drop 4 z))) ≡ appended out (short high (take (4 * n) z))
short_step out new high next n m z is fits goes =
    sym (ap (appended out) (short_at high n m z is fits) ∙ then_ok out new (unit high (group z)) next (λ next. short next (take (4 * m) (drop 4 z))) goes)

pub short_fails : (e : Failure StringFault) (out : List ℕ) (high : Option ℕ) (n m : ℕ) (z : List ℕ) → n ≡ suc m → 4 * n ≤ length z
    → Fails e (appended out (unit high (group z))) → Fails e (appended out (short high (take (4 * n) z)))
short_fails NoMemory out high n m z is fits fails = tt
short_fails (Fault fault) out high n m z is fits fails =
    ap (appended out) (short_at high n m z is fits) ∙ then_err out (unit high (group z)) fault (λ next. short next (take (4 * m) (drop 4 z))) fails

pub long_step : (out new : List ℕ) (done : Unit {0}) (n m : ℕ) (z : List ℕ) → n ≡ suc (suc m) → 4 * n ≤ length z
    → appended out (character (group z * 65536 + group (drop 4 z))) ≡ Ok (done, new) → appended new (long (take (4 * m) (drop 8 z))) ≡ appended out (long (take (4 * n) z))
long_step out new done n m z is fits goes =
    sym (ap (appended out) (long_at n m z is fits) ∙ then_ok out new (character (group z * 65536 + group (drop 4 z))) done (λ _. long (take (4 * m) (drop 8 z))) goes)

pub long_fails : (e : Failure StringFault) (out : List ℕ) (n m : ℕ) (z : List ℕ) → n ≡ suc (suc m) → 4 * n ≤ length z
    → Fails e (appended out (character (group z * 65536 + group (drop 4 z)))) → Fails e (appended out (long (take (4 * n) z)))
long_fails NoMemory out n m z is fits fails = tt
long_fails (Fault fault) out n m z is fits fails =
    ap (appended out) (long_at n m z is fits) ∙ then_err out (character (group z * 65536 + group (drop 4 z))) fault (λ _. long (take (4 * m) (drop 8 z))) fails

counts : (n : ℕ) (more : Option ℕ) → option_map (λ k. n + 1 + k) more ≡ option_map (λ k. n + k) (option_map suc more)
counts n None = refl
counts n (Some k) = ap Some (omega arith)

pub groups_step : (n : ℕ) (z : List ℕ) (whole : Option ℕ) → is_end (slice_index z 0) (slice_index z 1) (slice_index z 2) (slice_index z 3) ≡ false → are_four (slice_index z 0) (slice_index z 1) (slice_index z 2) (slice_index z 3) ≡ true
    → option_map (λ k. n + k) (groups z) ≡ whole → option_map (λ k. n + 1 + k) (groups (drop 4 z)) ≡ whole
groups_step n z whole goes digits held = counts n (groups (drop 4 z)) ∙ sym (ap (option_map (λ k. n + k)) (groups_at z ∙ rw (goes, digits) refl)) ∙ held

-- ---- without the text

pub checked_appended : {A : Type 0} (text : List ℕ) (p : Decoding A) → checked (appended text p) ≡ checked p
checked_appended text (Ok p) = refl
checked_appended text (Err fault) = refl

pub checked_ok : {A B : Type 0} (p : Decoding A) (a : A) (next : A → Decoding B) → checked p ≡ Ok a → checked (p >>= next) ≡ checked (next a)
checked_ok (Ok p) a next is =
    let same : p.0 ≡ a = cc in
    checked_appended p.1 (next p.0) ∙ ap (λ b. checked (next b)) same
checked_ok (Err fault) a next is = cc

pub checked_err : {A B : Type 0} (p : Decoding A) (fault : StringFault) (next : A → Decoding B) → checked p ≡ Err fault → checked (p >>= next) ≡ Err fault
checked_err (Ok p) fault next is = cc
checked_err (Err e) fault next is = cc

pub ruleset checked_laws = (checked_ok, checked_err)

checked_unit : (high : Option ℕ) (u : ℕ) (read : Option ℕ × Option ℕ) → unit high u ≡ told_unit (Ok read) → checked (unit high u) ≡ Ok read.1
checked_unit high u (Some c, next) is = ap checked is
checked_unit high u (None, next) is = ap checked is

pub checked_short_step : (high : Option ℕ) (u : ℕ) (read : Option ℕ × Option ℕ) (n m : ℕ) (z : List ℕ) → n ≡ suc m → 4 * n ≤ length z → u ≡ group z
    → unit high u ≡ told_unit (Ok read) → checked (short read.1 (take (4 * m) (drop 4 z))) ≡ checked (short high (take (4 * n) z))
checked_short_step high u read n m z is fits here goes =
    sym (ap checked (short_at high n m z is fits)
    ∙ checked_ok (unit high (group z)) read.1 (λ next. short next (take (4 * m) (drop 4 z))) (ap (λ v. checked (unit high v)) (sym here) ∙ checked_unit high u read goes))

pub checked_short_fails : (high : Option ℕ) (u : ℕ) (n m : ℕ) (z : List ℕ) (fault : StringFault) → n ≡ suc m → 4 * n ≤ length z → u ≡ group z
    → unit high u ≡ Err fault → checked (short high (take (4 * n) z)) ≡ Err fault
checked_short_fails high u n m z fault is fits here fails =
    ap checked (short_at high n m z is fits)
    ∙ checked_err (unit high (group z)) fault (λ next. short next (take (4 * m) (drop 4 z))) (ap (λ v. checked (unit high v)) (sym here) ∙ ap checked fails)

pub checked_long_step : (u : ℕ) (c : ℕ) (n m : ℕ) (z : List ℕ) → n ≡ suc (suc m) → 4 * n ≤ length z → u ≡ group z * 65536 + group (drop 4 z)
    → character u ≡ told_character (Ok c) → checked (long (take (4 * m) (drop 8 z))) ≡ checked (long (take (4 * n) z))
checked_long_step u c n m z is fits here goes =
    sym (ap checked (long_at n m z is fits)
    ∙ checked_ok (character (group z * 65536 + group (drop 4 z))) tt (λ _. long (take (4 * m) (drop 8 z))) (ap (λ v. checked (character v)) (sym here) ∙ ap checked goes))

pub checked_long_fails : (u : ℕ) (n m : ℕ) (z : List ℕ) (fault : StringFault) → n ≡ suc (suc m) → 4 * n ≤ length z → u ≡ group z * 65536 + group (drop 4 z)
    → character u ≡ Err fault → checked (long (take (4 * n) z)) ≡ Err fault
checked_long_fails u n m z fault is fits here fails =
    ap checked (long_at n m z is fits)
    ∙ checked_err (character (group z * 65536 + group (drop 4 z))) fault (λ _. long (take (4 * m) (drop 8 z))) (ap (λ v. checked (character v)) (sym here) ∙ ap checked fails)
