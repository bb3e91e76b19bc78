-- The bodies of a level are made of those one level down.
use Rattle.std.proofs.Common.{◌≡◌, ℕ, suc, ◌+◌, ◌-◌, ◌<◌, ◌≤◌, max, Some, None, refl, ap, arith}
use Rattle.rp_value.specs.declared.value.Value.{Value}
use Rattle.rp_meaning.specs.declared.body.Body.{Body}
use Rattle.rp_meaning.specs.declared.counter.Counter.{Counter}
use Rattle.rp_meaning.specs.declared.rule.Rule.{Rule}
use Rattle.rp_meaning.specs.Computations.{nested}
use Rattle.rp_meaning.specs.Expressions.{World}
use Rattle.rp_meaning.specs.Levels.{bodies, level, body_with, most_turns}
use Rattle.rp_meaning.specs.Outcomes.{evaluation}
use Rattle.rp_eval_parts.specs.Serving.{Serves}
use Rattle.rp_eval.proofs.Serving.{kept_serves}
use Rattle.rp_meaning.proofs.Steadiness.{steady-evaluation, steady-level}

pub level-zero : (w : World) (turns levels : ℕ) (c : Counter) (body : Body) → levels ≡ 0 → level w turns levels body c ≡ None
unfolding level
level-zero w turns levels c body is = rw is refl

pub level-below : (w : World) (turns levels : ℕ) (c : Counter) (body : Body) → 0 < levels → level w turns levels body c ≡ nested (body_with w turns (level w turns (levels - 1)) body) c
unfolding level
level-below w turns levels c body h = let e : levels ≡ suc (levels - 1) = omega arith in ap (λ n. level w turns n body c) e

-- from nothing nested, no more bodies nest than may
pub nesting-within : (w : World) (levels left : ℕ) (new : Counter) (a : Value) (body : Body) → body_with w most_turns (level w most_turns levels) body (record { left = left; nesting = 0 }) ≡ Some (a, new) → new.nesting ≤ levels
unfolding level
nesting-within w levels left new a body h =
    let e : level w most_turns (suc levels) body (record { left = left; nesting = 0 }) ≡ Some (a, record { left = new.left; nesting = max 0 (new.nesting + 1) }) = rw h refl in
    let t = (steady-level w most_turns (suc levels) body).taken (record { left = left; nesting = 0 }) (record { left = new.left; nesting = max 0 (new.nesting + 1) }) a e in
    omega (arith, t.nesting, t.nests)

-- no body gives steps back
pub left-within : (w : World) (levels left : ℕ) (new : Counter) (a : Value) (body : Body) → body_with w most_turns (level w most_turns levels) body (record { left = left; nesting = 0 }) ≡ Some (a, new) → new.left ≤ left
unfolding level
left-within w levels left new a body h =
    let e : level w most_turns (suc levels) body (record { left = left; nesting = 0 }) ≡ Some (a, record { left = new.left; nesting = max 0 (new.nesting + 1) }) = rw h refl in
    let t = (steady-level w most_turns (suc levels) body).taken (record { left = left; nesting = 0 }) (record { left = new.left; nesting = max 0 (new.nesting + 1) }) a e in
    omega (arith, t.left)

-- what finished serves everywhere
pub finished : (w : World) (levels left : ℕ) (new : Counter) (a : Value) (body : Body) → body_with w most_turns (level w most_turns levels) body (record { left = left; nesting = 0 }) ≡ Some (a, new)
    → Serves w body (record { value = a; steps = left - new.left; bodies = new.nesting + 1 })
unfolding level
finished w levels left new a body h =
    let n : max 0 (new.nesting + 1) ≡ new.nesting + 1 = omega arith in
    let e : level w most_turns (suc levels) body (record { left = left; nesting = 0 }) ≡ Some (a, record { left = new.left; nesting = new.nesting + 1 }) = rw h (ap (λ m. Some (a, record { left = new.left; nesting = m })) n) in
    kept_serves w body left (suc levels) (record { left = new.left; nesting = new.nesting + 1 }) a e

-- no rule gives steps back
pub left-falls : (w : World) (levels : ℕ) (old new : Counter) (a : Value) (rule : Rule) (itself : Value) → evaluation w (bodies w levels) rule itself old ≡ Some (a, new) → new.left ≤ old.left
left-falls w levels old new a rule itself h =
    let t = (steady-evaluation w levels (bodies w) (steady-level w most_turns levels) rule itself).taken old new a h in
    omega (arith, t.left)
