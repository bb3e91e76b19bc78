-- Values that are kept.
use Rattle.std.proofs.Common.{◌≡◌, ◌∙◌, ℕ, zero, suc, ◌-◌, ◌≤◌, Option, Some, None, IfSome, List, [], ◌∷◌, ◌++◌, length, slice_get, refl, ap, sym, subst, arith}
use Rattle.rp_value.specs.declared.value.Value.{Value}
use Rattle.rp_meaning.specs.declared.body.Body.{Body}
use Rattle.rp_meaning.specs.declared.body.Body.TheVariants as b
use Rattle.rp_meaning.specs.declared.counter.Counter.{Counter}
use Rattle.rp_meaning.specs.Expressions.{World}
use Rattle.rp_meaning.specs.Laws.{kept}
use Rattle.rp_meaning.specs.Levels.{bodies, most_turns}
use Rattle.rp_meaning.proofs.Kept.{serves}
use Rattle.rp_meaning.proofs.Steadiness.{steady-level}
use Rattle.rp_eval_parts.specs.Serving.{Serves, derived_body}
use Rattle.rp_eval_parts.specs.declared.kept.Derived.{Derived}
use Rattle.rp_eval_parts.specs.declared.kept.Kept.{Kept}
use Rattle.rp_eval.specs.Serving.{AllServe}

module _ (w : World) (body : Body) (left most : ℕ) (new : Counter) (a : Value)
    (h : bodies w most body (record { left = left; nesting = 0 }) ≡ Some (a, new)) where
  -- no body gives steps back
  pub left_within : new.left ≤ left
  left_within =
      let t = (steady-level w most_turns most body).taken (record { left = left; nesting = 0 }) new a h in
      omega (arith, t.left)

  pub kept_serves : Serves w body (record { value = a; steps = left - new.left; bodies = new.nesting })
  kept_serves =
      let old : Counter = record { left = left; nesting = 0 } in
      let t = (steady-level w most_turns most body).taken old new a h in
      let steps : left - new.left ≡ t.steps = omega (arith, t.left) in
      let nested : new.nesting ≡ t.bodies = omega (arith, t.nesting) in
      λ levels c.
      serves (λ l. bodies w l body) (λ l. steady-level w most_turns l body) most levels old new c a t
      ∙ ap (λ n. kept n t.bodies a levels c) (sym steps)
      ∙ ap (λ n. kept (left - new.left) n a levels c) (sym nested)

-- ---- one more

known : {X : Type 0} (P : X → Type 0) (o : Option X) → ((x : X) → o ≡ Some x → P x) → IfSome o P
known P None h = tt
known P (Some x) h = h x refl

kept_more : {X : Type 0} (P : ℕ → X → Type 0) (xs : List X) (x : X) → ((k : ℕ) → IfSome (slice_get xs k) (P k)) → P (length xs) x → (k : ℕ) → IfSome (slice_get (xs ++ x ∷ []) k) (P k)
kept_more P [] x all here zero = here
kept_more P [] x all here (suc k) = tt
kept_more P (y ∷ ys) x all here zero = all zero
kept_more P (y ∷ ys) x all here (suc k) = kept_more (λ n. P (suc n)) ys x (λ n. all (suc n)) here k

pub one_more_serves : (w : World) (found : List Kept) (k : Kept) → AllServe w found → Serves w (b.Constant (length found)) k → AllServe w (found ++ k ∷ [])
one_more_serves w found k all here number x is =
    let P : ℕ → Kept → Type 0 = λ n. Serves w (b.Constant n) in
    subst (λ o. IfSome o (P number)) is (kept_more P found k (λ n. known (P n) (slice_get found n) (all n)) here number)

-- ---- what is kept of the body of a derived attribute

pub kept_of : (w : World) (of : Option Derived) (body : Body) (k : Kept) → IfSome of (λ d. body ≡ derived_body d) → Serves w body k → IfSome of (λ d. Serves w (derived_body d) k)
kept_of w None body k is serves = tt
kept_of w (Some d) body k is serves = subst (λ b. Serves w b k) is serves
