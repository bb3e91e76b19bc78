-- What a turn of a loop comes to.
use Rattle.std.proofs.Common.{◌≡◌, ℕ, suc, ◌+◌, ◌-◌, ◌<◌, ◌≤◌, Option, Some, None, Bool, true, false, not, arith, List, ◌∷◌, length, drop, get_or, refl, sym, ap, ◌∙◌, add-one, drop-cons}
use Rattle.rp_value.specs.declared.value.Value.{Value}
use Rattle.rp_code.specs.declared.tree.Expression.{Expression}
use Rattle.rp_meaning.specs.declared.counter.Counter.{Counter}
use Rattle.rp_meaning.specs.declared.body.Body.{Body}
use Rattle.rp_meaning.specs.declared.schema.Initial.{Initial}
use Rattle.rp_code.specs.declared.tree.Increment.{Increment}
use Rattle.rp_meaning.specs.Computations.{Computation, and_then, pure, ◌>>=◌}
use Rattle.rp_meaning.specs.Expressions.{Scope, World, Meaning, tested, kept_after, kept_one}
use Rattle.rp_meaning.specs.Levels.{most_turns}
use Rattle.rp_meaning.specs.Statements.{Next, Turn, Running, again, from_start, started, advanced, running, step_value, counted, repeated, repeats, given_value, initialized, all_assigned}
use Rattle.rp_eval.specs.Beginnings.{begins}
use Rattle.rp_eval_parts.specs.Turns.{Starts}

pub drop-read : {A : Type 0} (xs : List A) (i : ℕ) (x : A) → i < length xs → x ≡ get_or xs i x → drop i xs ≡ x ∷ drop (i + 1) xs
drop-read xs i x h is = rw (add-one) (drop-cons xs i x h ∙ ap (λ y. y ∷ drop (suc i) xs) (sym is))

pub kept_step : (condition : Meaning) (s : Scope) (xs : List Value) (i : ℕ) (x : Value) (found : List Value) (left : Counter) → i < length xs → x ≡ get_or xs i x
    → kept_after condition s found (drop i xs) left ≡ and_then (tested condition s x left) (λ holds. kept_after condition s (kept_one found x holds) (drop (i + 1) xs))
kept_step condition s xs i x found left h is = rw (drop-read xs i x h is) refl

pub repeated_turn : (turns i : ℕ) (one : Scope → Computation Turn) (r : Option Running) (s : Scope) (left : Counter) → i < turns
    → repeated (turns - i) one r s left ≡ from_start one (repeated (turns - (i + 1)) one (advanced r)) s (started r s) left
unfolding repeated
repeated_turn turns i one r s left h = let e : turns - i ≡ suc (turns - (i + 1)) = omega arith in rw e refl

pub repeated_end : (turns i : ℕ) (one : Scope → Computation Turn) (r : Option Running) (s : Scope) (left : Counter) → turns ≤ i → repeated (turns - i) one r s left ≡ None
unfolding repeated
repeated_end turns i one r s left h = let e : turns - i ≡ 0 = omega arith in rw e refl

pub below_most : (i : ℕ) → i < 18446744073709551615 → i < most_turns
unfolding most_turns
below_most i h = h

pub past_most : (i : ℕ) → 18446744073709551615 ≤ i → most_turns ≤ i
unfolding most_turns
past_most i h = h

-- ---- turns

pub starts_off : (o : Option Scope) (goes : Bool) (s t : Scope) → Starts o goes s t → goes ≡ false → (o ≡ None) × (t ≡ s)
starts_off o false s t h is = h
starts_off o true s t h is = absurd (cc)

pub starts_on : (o : Option Scope) (goes : Bool) (s t : Scope) → Starts o goes s t → goes ≡ true → o ≡ Some t
starts_on o true s t h is = h
starts_on o false s t h is = absurd (cc)

pub turn_off : (turns i : ℕ) (one : Scope → Computation Turn) (r : Option Running) (s t : Scope) (left : Counter) → i < turns → (started r s ≡ None) × (t ≡ s)
    → repeated (turns - i) one r s left ≡ Some (Next t, left)
turn_off turns i one r s t left h off = repeated_turn turns i one r s left h ∙ (ap (λ o. from_start one (repeated (turns - (i + 1)) one (advanced r)) s o left) off.0 ∙ ap (λ u. Some (Next u, left)) (sym off.1))

pub turn_on : (turns i : ℕ) (one : Scope → Computation Turn) (r : Option Running) (s t : Scope) (left : Counter) → i < turns → started r s ≡ Some t
    → repeated (turns - i) one r s left ≡ and_then (one t left) (again (repeated (turns - (i + 1)) one (advanced r)))
turn_on turns i one r s t left h on = repeated_turn turns i one r s left h ∙ ap (λ o. from_start one (repeated (turns - (i + 1)) one (advanced r)) s o left) on

module _ (turns : ℕ) (value : Expression → Meaning) (one : Scope → Computation Turn) (i : Increment) (s : Scope) where
  third-by : (a b : Value) (found : Option (Value × Counter)) → and_then found (λ d. counted turns one (running a b d) s) ≡ and_then (and_then found (λ d. pure (running a b d))) (λ r. counted turns one r s)
  third-by a b None = refl
  third-by a b (Some p) = refl

  second-by : (a : Value) (found : Option (Value × Counter))
      → and_then found (λ b. step_value value i.step s >>= (λ d. counted turns one (running a b d) s)) ≡ and_then (and_then found (λ b. step_value value i.step s >>= (λ d. pure (running a b d)))) (λ r. counted turns one r s)
  second-by a None = refl
  second-by a (Some p) = third-by a p.0 (step_value value i.step s p.1)

  first-by : (found : Option (Value × Counter))
      → and_then found (λ a. value i.last s >>= (λ b. step_value value i.step s >>= (λ d. counted turns one (running a b d) s)))
      ≡ and_then (and_then found (λ a. value i.last s >>= (λ b. step_value value i.step s >>= (λ d. pure (running a b d))))) (λ r. counted turns one r s)
  first-by None = refl
  first-by (Some p) = second-by p.0 (value i.last s p.1)

  -- turns behind what begins them
  pub repeats_begins : (left : Counter) → repeats turns value one (Some i) s left ≡ and_then (begins value i s left) (λ r. counted turns one r s)
  repeats_begins left = first-by (value i.first s left)

pub off : (b : Bool) → not b ≡ true → b ≡ false
off false h = refl
off true h = absurd (cc)

pub on : (b : Bool) → not b ≡ false → b ≡ true
on true h = refl
on false h = absurd (cc)

-- ---- locals

module _ (world : World) (turns : ℕ) (below : Body → Computation Value) where
  -- what one of them does
  abbrev pub one_initial : Initial → Scope → Computation Scope
  one_initial x s = given_value world turns below x.given s >>= (λ a. pure (all_assigned x.slot x.count a s))

  initial-by : (x : Initial) (others : List Initial) (s : Scope) (found : Option (Value × Counter))
      → and_then found (λ a. initialized world turns below others (all_assigned x.slot x.count a s)) ≡ and_then (and_then found (λ a. pure (all_assigned x.slot x.count a s))) (initialized world turns below others)
  initial-by x others s None = refl
  initial-by x others s (Some p) = refl

  pub initial_step : (list : List Initial) (i : ℕ) (x : Initial) (s : Scope) (left : Counter) → i < length list → x ≡ get_or list i x
      → initialized world turns below (drop i list) s left ≡ and_then (one_initial x s left) (initialized world turns below (drop (i + 1) list))
  initial_step list i x s left h is = rw (drop-read list i x h is) (initial-by x (drop (i + 1) list) s (given_value world turns below x.given s left))
