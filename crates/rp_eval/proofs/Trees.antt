-- What comes of the arguments of calls.
use Rattle.std.proofs.Common.{◌≡◌, Option, Some, None, List, [], ◌∷◌, map, refl, sym, ap, ◌∙◌}
use Rattle.rp_value.specs.declared.value.Value.{Value}
use Rattle.rp_meaning.specs.Computations.{Computation, and_then, pure, steps, ◌>>=◌}
use Rattle.rp_meaning.specs.Expressions.{Scope, Meaning, each_after}
use Rattle.rp_meaning.specs.declared.counter.Counter.{Counter}
use Rattle.rp_code.specs.declared.tree.Expression.{Expression}
use Rattle.rp_eval_parts.specs.Charges.{charged, followed}

one-by : (next : List Value → Computation Value) (found : Option (Value × Counter)) → and_then (and_then found (λ a. pure (a ∷ []))) next ≡ and_then found (λ a. next (a ∷ []))
one-by next None = refl
one-by next (Some p) = refl

of-one : (means : Expression → Meaning) (next : List Value → Computation Value) (s : Scope) (x : Expression) (left : Counter)
    → and_then (each_after s [] (map means (x ∷ [])) left) next ≡ and_then (means x s left) (λ a. next (a ∷ []))
of-one means next s x left = one-by next (means x s left)

-- behind a step
pub behind : (m : Computation Value) (u : Unit {0}) (left : Counter) (found : Option (Unit {0} × Counter)) → found ≡ Some (u, left) → and_then found (λ done. m) ≡ m left
behind m u left found is = rw is refl

-- of several behind a step
pub called-list : (means : Expression → Meaning) (next : List Value → Computation Value) (s : Scope) (trees : List Expression) (none : List Value) (u : Unit {0}) (old left : Counter) → none ≡ [] → steps 1 old ≡ Some (u, left)
    → charged 1 (followed (each_after s [] (map means trees)) next) old ≡ and_then (each_after s none (map means trees) left) next
called-list means next s trees none u old left is step =
    behind (each_after s [] (map means trees) >>= next) u left (steps 1 old) step
    ∙ ap (λ found. and_then (each_after s found (map means trees) left) next) (sym is)

pub called-one : (means : Expression → Meaning) (next : List Value → Computation Value) (s : Scope) (trees : List Expression) (x : Expression) (u : Unit {0}) (old left : Counter) → trees ≡ x ∷ [] → steps 1 old ≡ Some (u, left)
    → charged 1 (followed (each_after s [] (map means trees)) next) old ≡ and_then (means x s left) (λ a. next (a ∷ []))
called-one means next s trees x u old left is step =
    behind (each_after s [] (map means trees) >>= next) u left (steps 1 old) step
    ∙ (ap (λ ts. and_then (each_after s [] (map means ts) left) next) is ∙ of-one means next s x left)

module _ (means : Expression → Meaning) (next : List Value → Computation Value) (s : Scope) where
  second-by : (a : Value) (found : Option (Value × Counter)) → and_then (and_then found (λ b. pure (a ∷ b ∷ []))) next ≡ and_then found (λ b. next (a ∷ b ∷ []))
  second-by a None = refl
  second-by a (Some p) = refl

  first-by : (y : Expression) (found : Option (Value × Counter))
      → and_then (and_then found (λ a. means y s >>= (λ b. pure (a ∷ b ∷ [])))) next ≡ and_then found (λ a. means y s >>= (λ b. next (a ∷ b ∷ [])))
  first-by y None = refl
  first-by y (Some p) = second-by p.0 (means y s p.1)

  pub called-two : (trees : List Expression) (x y : Expression) (u : Unit {0}) (old left : Counter) → trees ≡ x ∷ y ∷ [] → steps 1 old ≡ Some (u, left)
      → charged 1 (followed (each_after s [] (map means trees)) next) old ≡ and_then (means x s left) (λ a. means y s >>= (λ b. next (a ∷ b ∷ [])))
  called-two trees x y u old left is step =
      behind (each_after s [] (map means trees) >>= next) u left (steps 1 old) step
      ∙ (ap (λ ts. and_then (each_after s [] (map means ts) left) next) is ∙ first-by y (means x s left))
