-- A value that is kept with what it took.
use Rattle.std.proofs.Common.{◌≡◌, ℕ, ◌+◌, ◌-◌, ◌≤◌, max, Bool, true, false, ◌&&◌, Option, Some, None, refl, sym, ap, ◌∙◌, arith, cond, nat_le}
use Rattle.std.proofs.lemmas.Bool.Decides.{nat_tests}
use Rattle.rp_meaning.specs.declared.counter.Counter.{Counter}
use Rattle.rp_meaning.specs.Computations.{Computation}
use Rattle.rp_meaning.specs.Laws.{Taken, Steady, kept}
use Rattle.rp_meaning.proofs.Steadiness.{parts}

module _ {A : Type 0} (m : ℕ → Computation A) where
  -- two that were taken took the same
  same-taken : (levels others : ℕ) (old new c d : Counter) (a x : A) (t : Taken m levels old new a) (u : Taken m others c d x) → (t.steps ≡ u.steps) × (t.bodies ≡ u.bodies)
  same-taken levels others old new c d a x t u =
      let all : ℕ = max levels others in
      let one = t.same all u.steps 0 (omega (arith, t.nests)) in
      let two = u.same all t.steps 0 (omega (arith, u.nests)) in
      let swap : t.steps + u.steps ≡ u.steps + t.steps = omega arith in
      let e = parts a x (record { left = u.steps; nesting = max 0 t.bodies }) (record { left = t.steps; nesting = max 0 u.bodies }) (sym (rw swap at one) ∙ two) in
      let left : u.steps ≡ t.steps = ap (λ (k : Counter). k.left) e.1 in
      let nesting : max 0 t.bodies ≡ max 0 u.bodies = ap (λ (k : Counter). k.nesting) e.1 in
      (sym left, omega (arith, nesting))

  module _ (steady : (levels : ℕ) → Steady m levels) (levels others : ℕ) (old new c : Counter) (a : A) (t : Taken m levels old new a) where
    fits : (test : Bool) → (nat_le t.steps c.left && nat_le t.bodies others) ≡ test → (o : Option (A × Counter)) → m others c ≡ o
        → o ≡ cond test (Some (a, record { left = c.left - t.steps; nesting = max c.nesting t.bodies })) None
    fits true e o is =
        let enough : t.steps ≤ c.left = grind (arith, nat_tests, e) in
        let nests : t.bodies ≤ others = grind (arith, nat_tests, e) in
        let start : t.steps + (c.left - t.steps) ≡ c.left = omega (arith, enough) in
        let given = t.same others (c.left - t.steps) c.nesting nests in
        sym is ∙ rw start at given
    fits false e None is = refl
    fits false e (Some p) is =
        let u = (steady others).taken c p.1 p.0 is in
        let same = same-taken levels others old new c p.1 a p.0 t u in
        let enough : t.steps ≤ c.left = omega (arith, u.left, same.0) in
        let nests : t.bodies ≤ others = omega (arith, u.nests, same.1) in
        absurd (grind (arith, nat_tests, e, enough, nests))

    pub serves : m others c ≡ kept t.steps t.bodies a others c
    serves = fits (nat_le t.steps c.left && nat_le t.bodies others) refl (m others c) refl
