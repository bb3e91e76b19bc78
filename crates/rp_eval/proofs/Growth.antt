-- An assignment of a variable to which an operator is applied.
use Rattle.std.proofs.Common.{◌≡◌, ℕ, slice_index_or, Option, Some, None, [], ◌∷◌, refl, ap, ◌∙◌}
use Rattle.std.proofs.lemmas.List.{set-set}
use Rattle.ex_tree.specs.declared.expression.BinaryOperator.{BinaryOperator}
use Rattle.rp_code.specs.declared.tree.Expression.{Expression}
use Rattle.rp_code.specs.declared.tree.Expression.TheVariants as e
use Rattle.rp_code.specs.declared.tree.Operation.{roll-Operation}
use Rattle.rp_eval.proofs.Nodes.{chain-is, operation-by, variable-is}
use Rattle.rp_eval_parts.specs.Charges.{charged, followed}
use Rattle.rp_meaning.specs.Computations.{Computation, and_then, pure, steps, ◌>>=◌}
use Rattle.rp_meaning.specs.Expressions.{Scope, World, Meaning, Operating, expression, in_turn, operated, operation}
use Rattle.rp_meaning.specs.Statements.{assigned}
use Rattle.rp_meaning.specs.declared.body.Body.{Body}
use Rattle.rp_meaning.specs.declared.counter.Counter.{Counter}
use Rattle.rp_value.specs.declared.value.Value.{Value}
use Rattle.rp_value.specs.declared.value.Value.TheVariants as v

last-by : (s : Scope) (found : Option (Value × Counter)) → and_then found (in_turn s []) ≡ found
last-by s None = refl
last-by s (Some p) = refl

one-by : (s : Scope) (means : Operating) (a : Value) (found : Option (Unit {0} × Counter)) → and_then (and_then found (λ u. pure a)) (in_turn s (means ∷ [])) ≡ and_then found (λ u. means s a)
one-by s means a None = refl
one-by s means a (Some p) = last-by s (means s a p.1)

-- the variable takes a step, and the operator too
pub grown_is : (world : World) (below : Body → Computation Value) (s : Scope) (slot : ℕ) (operator : BinaryOperator) (right : Expression) (old : Counter)
    → expression world below (e.Chain (e.Variable slot) (roll-Operation (record { operator = operator; right = right }) ∷ [])) s old
    ≡ charged 1 (charged 1 (followed (expression world below right s) (operated operator (slice_index_or s.variables slot v.Indet)))) old
grown_is world below s slot operator right old =
    let x = roll-Operation (record { operator = operator; right = right }) in
    let a = slice_index_or s.variables slot v.Indet in
    ap (λ means. means s old) (chain-is world below (e.Variable slot) (x ∷ []))
    ∙ (ap (λ (means : Meaning). (means s >>= in_turn s (operation world below x ∷ [])) old) (variable-is world below slot)
    ∙ (one-by s (operation world below x) a (steps 1 old)
    ∙ ap (λ (means : Operating). charged 1 (means s a) old) (operation-by world below operator right)))

-- what a variable got before doesn't count
pub assigned_twice : (s : Scope) (slot : ℕ) (x y : Value) → assigned (assigned s slot y) slot x ≡ assigned s slot x
assigned_twice s slot x y = ap (λ xs. record { itself = s.itself; variables = xs }) (set-set s.variables slot y x)
