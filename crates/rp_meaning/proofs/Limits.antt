-- A limit of steps decides whether there is a value, and not which.
use Rattle.std.proofs.Common.{◌≡◌, ℕ, ◌-◌, ◌≤◌, max, Bool, true, false, ◌&&◌, Option, Some, None, refl, sym, arith, cond, nat_le}
use Rattle.std.proofs.lemmas.Bool.Decides.{nat_tests}
use Rattle.rp_meaning.specs.Computations.{Computation}
use Rattle.rp_meaning.specs.Laws.{Taken, Steady}
use Rattle.rp_meaning.specs.Levels.{bodies, most_turns}
use Rattle.rp_meaning.specs.Expressions.{World}
use Rattle.rp_meaning.specs.Outcomes.{evaluation, outcome, outcome_of, within_limit}
use Rattle.rp_meaning.specs.declared.counter.Counter.{Counter}
use Rattle.rp_meaning.specs.declared.outcome.Outcome.TheVariants as o
use Rattle.rp_meaning.specs.declared.rule.Rule.{Rule}
use Rattle.rp_value.specs.declared.value.Value.{Value}
use Rattle.rp_meaning.proofs.Kept.{serves}
use Rattle.rp_meaning.proofs.Steadiness.{steady-evaluation, steady-level}

limits_decide : (taken bodies limit : ℕ) (x : Value) (test : Bool) → (nat_le taken limit && nat_le bodies 200) ≡ test → bodies ≤ 200
    → outcome_of limit (cond test (Some (x, record { left = limit - taken; nesting = max 0 bodies })) None) ≡ cond (nat_le taken limit) (o.Value x taken) o.Limit
limits_decide taken bodies limit x true e nests =
    let fits : nat_le taken limit ≡ true = grind (nat_tests, arith, e) in
    let le : taken ≤ limit = grind (nat_tests, arith, e) in
    let steps : limit - (limit - taken) ≡ taken = omega (arith, le) in
    rw (fits, steps) refl
limits_decide taken bodies limit x false e nests =
    let past : nat_le taken limit ≡ false = grind (nat_tests, arith, e, nests) in
    rw past refl

module _ (m : ℕ → Computation Value) (steady : (levels : ℕ) → Steady m levels) (limit other : ℕ) where
  from_taken : (x : Value) (new : Counter) → Taken m 200 (within_limit limit) new x → outcome_of other (m 200 (within_limit other)) ≡ cond (nat_le (limit - new.left) other) (o.Value x (limit - new.left)) o.Limit
  from_taken x new t =
      let took : limit - new.left ≡ t.steps = omega (arith, t.left) in
      rw (serves m steady 200 200 (within_limit limit) new (within_limit other) x t, took) (limits_decide t.steps t.bodies other x (nat_le t.steps other && nat_le t.bodies 200) refl t.nests)

  from_outcome : (x : Value) (steps : ℕ) (found : Option (Value × Counter)) → m 200 (within_limit limit) ≡ found → outcome_of limit found ≡ o.Value x steps
      → outcome_of other (m 200 (within_limit other)) ≡ cond (nat_le steps other) (o.Value x steps) o.Limit
  from_outcome x steps None e h = absurd (cc)
  from_outcome x steps (Some p) e h =
      let value : p.0 ≡ x = cc in
      let took : limit - p.1.left ≡ steps = cc in
      rw (sym value, sym took) (from_taken p.0 p.1 ((steady 200).taken (within_limit limit) p.1 p.0 e))

pub decided : (world : World) (rule : Rule) (itself x : Value) (limit other steps : ℕ) → outcome world rule itself limit ≡ o.Value x steps
    → outcome world rule itself other ≡ cond (nat_le steps other) (o.Value x steps) o.Limit
unfolding outcome
decided world rule itself x limit other steps h =
    from_outcome (λ l. evaluation world (bodies world l) rule itself) (λ l. steady-evaluation world l (bodies world) (steady-level world most_turns l) rule itself) limit other x steps _ refl h

-- ---- of steps and bodies

both_decide : (taken bodies limit : ℕ) (x : Value) (test : Bool) → (nat_le taken limit && nat_le bodies 200) ≡ test
    → outcome_of limit (cond test (Some (x, record { left = limit - taken; nesting = max 0 bodies })) None) ≡ cond test (o.Value x taken) o.Limit
both_decide taken bodies limit x true e =
    let le : taken ≤ limit = grind (nat_tests, arith, e) in
    let steps : limit - (limit - taken) ≡ taken = omega (arith, le) in
    rw (steps) refl
both_decide taken bodies limit x false e = refl

pub decided_by_both : (world : World) (rule : Rule) (itself x : Value) (levels limit : ℕ) (old new : Counter) → (t : Taken (λ l. evaluation world (bodies world l) rule itself) levels old new x)
    → outcome world rule itself limit ≡ cond (nat_le t.steps limit && nat_le t.bodies 200) (o.Value x t.steps) o.Limit
unfolding outcome
decided_by_both world rule itself x levels limit old new t =
    rw (serves (λ l. evaluation world (bodies world l) rule itself) (λ l. steady-evaluation world l (bodies world) (steady-level world most_turns l) rule itself) levels 200 old new (within_limit limit) x t)
    (both_decide t.steps t.bodies limit x (nat_le t.steps limit && nat_le t.bodies 200) refl)
