-- What the expression means with which instructions begin.
use Rattle.std.proofs.Common.{◌≡◌, ℕ, slice_index_or, Option, Some, None, List, [], ◌∷◌, map, refl, sym, ap, ◌∙◌}
use Rattle.ex_named.specs.declared.reference.AttributePlace.{AttributePlace}
use Rattle.ex_tree.specs.declared.expression.BinaryOperator.{BinaryOperator}
use Rattle.ex_tree.specs.declared.expression.BuiltInFunction.{BuiltInFunction}
use Rattle.ex_tree.specs.declared.expression.UnaryOperator.{UnaryOperator}
use Rattle.rp_value.specs.declared.value.Value.{Value}
use Rattle.rp_value.specs.declared.value.Value.TheVariants as v
use Rattle.rp_code.specs.Denoted.{at, as_expression, as_operations, as_qualifiers, expression_of, operations_of, qualifiers_of}
use Rattle.rp_code.specs.declared.instruction.Instruction.{Instruction}
use Rattle.rp_code.specs.declared.role.Role.{Role}
use Rattle.rp_code.specs.declared.tree.Expression.{Expression}
use Rattle.rp_code.specs.declared.tree.Expression.TheFolds.{fold-roll-Expression, fold-roll-Interval, fold-roll-Operation, fold-roll-Qualifier, fold-roll-Query}
use Rattle.rp_code.specs.declared.tree.Expression.TheOpen.{Expression-F, Qualifier-F}
use Rattle.rp_code.specs.declared.tree.Expression.TheVariants as e
use Rattle.rp_code.specs.declared.tree.Interval.{Interval}
use Rattle.rp_code.specs.declared.tree.Operation.{Operation, roll-Operation}
use Rattle.rp_code.specs.declared.tree.Qualifier.{Qualifier}
use Rattle.rp_code.specs.declared.tree.Qualifier.TheVariants as q
use Rattle.rp_code.specs.declared.tree.Query.{Query, roll-Query}
use Rattle.rp_meaning.specs.Bare.{aggregate_of, place_of}
use Rattle.rp_meaning.specs.BuiltIns.{index, range}
use Rattle.rp_meaning.specs.Computations.{Computation, and_then, pure, steps, ◌>>=◌, ◌>>◌}
use Rattle.rp_meaning.specs.Expressions.{Scope, World, Meaning, Operating, attribute, built_in, costing, each_after, extent_value, group, in_turn, operated, queried, used_in_role, expression, qualifier, interval, operation, query, expression_layer, qualifier_layer, interval_layer, operation_layer, query_layer}
use Rattle.rp_meaning.specs.Operators.{applied_to, interval_cost, within}
use Rattle.rp_meaning.specs.declared.body.Body.{Body}
use Rattle.rp_meaning.specs.declared.body.Body.TheVariants as b
use Rattle.rp_meaning.specs.declared.counter.Counter.{Counter}
use Rattle.rp_eval_parts.specs.Callings.{initialized}
use Rattle.rp_eval.specs.Parts.{interval_of}
use Rattle.rp_eval.specs.declared.expressions.IntervalEnds.{IntervalEnds}

-- what begins with this instruction
pub begins-with : (code rest : List Instruction) (first x : Instruction) → code ≡ first ∷ rest → first ≡ x → expression_of code ≡ as_expression (at rest) x
begins-with code rest first x split is = ap expression_of (split ∙ ap (λ y. y ∷ rest) is)

pub operations-begin : (code rest : List Instruction) (first x : Instruction) → code ≡ first ∷ rest → first ≡ x → operations_of code ≡ as_operations (at rest) x
operations-begin code rest first x split is = ap operations_of (split ∙ ap (λ y. y ∷ rest) is)

pub qualifiers-begin : (code rest : List Instruction) (first x : Instruction) → code ≡ first ∷ rest → first ≡ x → qualifiers_of code ≡ as_qualifiers (at rest) x
qualifiers-begin code rest first x split is = ap qualifiers_of (split ∙ ap (λ y. y ∷ rest) is)

-- a value that is there takes its step, and then what follows
known-by : (x : Value) (next : Value → Computation Value) (found : Option (Unit {0} × Counter)) → and_then (and_then found (λ u. pure x)) next ≡ and_then found (λ u. next x)
known-by x next None = refl
known-by x next (Some p) = refl

both-by : (x : Value) (next : Value → Computation Value) (found : Option (Unit {0} × Counter)) → and_then found (λ u. (steps 1 >> pure x) >>= next) ≡ and_then found (λ u. steps 1 >> next x)
both-by x next None = refl
both-by x next (Some p) = known-by x next (steps 1 p.1)

module _ (world : World) (below : Body → Computation Value) where
  pub literal-is : (x : Value) → expression world below (e.Literal x) ≡ (λ s. steps 1 >> pure x)
  unfolding expression qualifier interval operation query
  literal-is x = ap (expression world below) (sym (e.rolls-Literal x))
      ∙ fold-roll-Expression Meaning Operating Meaning Operating Meaning (expression_layer world below) (qualifier_layer world below) (interval_layer world below) (operation_layer world below) (query_layer world below) (Expression-F.Literal x)

  pub itself-is : expression world below e.Itself ≡ (λ s. steps 1 >> pure s.itself)
  unfolding expression qualifier interval operation query
  itself-is = ap (expression world below) (sym e.rolls-Itself)
      ∙ fold-roll-Expression Meaning Operating Meaning Operating Meaning (expression_layer world below) (qualifier_layer world below) (interval_layer world below) (operation_layer world below) (query_layer world below) Expression-F.Itself

  pub variable-is : (slot : ℕ) → expression world below (e.Variable slot) ≡ (λ s. steps 1 >> pure (slice_index_or s.variables slot v.Indet))
  unfolding expression qualifier interval operation query
  variable-is slot = ap (expression world below) (sym (e.rolls-Variable slot))
      ∙ fold-roll-Expression Meaning Operating Meaning Operating Meaning (expression_layer world below) (qualifier_layer world below) (interval_layer world below) (operation_layer world below) (query_layer world below) (Expression-F.Variable slot)

  pub own-is : (a : AttributePlace) → expression world below (e.Attribute a) ≡ (λ s. steps 1 >> attribute world below (a ∷ []) s.itself)
  unfolding expression qualifier interval operation query
  own-is a = ap (expression world below) (sym (e.rolls-Attribute a))
      ∙ fold-roll-Expression Meaning Operating Meaning Operating Meaning (expression_layer world below) (qualifier_layer world below) (interval_layer world below) (operation_layer world below) (query_layer world below) (Expression-F.«Expression::Attribute» a)

  pub constant-is : (number : ℕ) → expression world below (e.Constant number) ≡ (λ s. steps 1 >> below (b.Constant number))
  unfolding expression qualifier interval operation query
  constant-is number = ap (expression world below) (sym (e.rolls-Constant number))
      ∙ fold-roll-Expression Meaning Operating Meaning Operating Meaning (expression_layer world below) (qualifier_layer world below) (interval_layer world below) (operation_layer world below) (query_layer world below) (Expression-F.Constant number)

  pub population-is : (entity : ℕ) → expression world below (e.Population entity) ≡ (λ s. steps 1 >> extent_value world below entity)
  unfolding expression qualifier interval operation query
  population-is entity = ap (expression world below) (sym (e.rolls-Population entity))
      ∙ fold-roll-Expression Meaning Operating Meaning Operating Meaning (expression_layer world below) (qualifier_layer world below) (interval_layer world below) (operation_layer world below) (query_layer world below) (Expression-F.Population entity)

  pub call-is : (number : ℕ) (arguments : List Expression) → expression world below (e.Call number arguments) ≡ (λ s. steps 1 >> (each_after s [] (map (expression world below) arguments) >>= (λ values. below (b.Function number values))))
  unfolding expression qualifier interval operation query
  call-is number arguments = ap (expression world below) (sym (e.rolls-Call number arguments))
      ∙ fold-roll-Expression Meaning Operating Meaning Operating Meaning (expression_layer world below) (qualifier_layer world below) (interval_layer world below) (operation_layer world below) (query_layer world below) (Expression-F.Call number arguments)

  pub built-in-is : (function : BuiltInFunction) (arguments : List Expression) → expression world below (e.BuiltIn function arguments) ≡ (λ s. steps 1 >> (each_after s [] (map (expression world below) arguments) >>= built_in world below function))
  unfolding expression qualifier interval operation query
  built-in-is function arguments = ap (expression world below) (sym (e.rolls-BuiltIn function arguments))
      ∙ fold-roll-Expression Meaning Operating Meaning Operating Meaning (expression_layer world below) (qualifier_layer world below) (interval_layer world below) (operation_layer world below) (query_layer world below) (Expression-F.BuiltIn function arguments)

  pub used-in-is : (x : Expression) (role : Option Role) → expression world below (e.UsedIn x role) ≡ (λ s. steps 2 >> (expression world below x s >>= (λ a. used_in_role world below role (place_of a))))
  unfolding expression qualifier interval operation query
  used-in-is x role = ap (expression world below) (sym (e.rolls-UsedIn x role))
      ∙ fold-roll-Expression Meaning Operating Meaning Operating Meaning (expression_layer world below) (qualifier_layer world below) (interval_layer world below) (operation_layer world below) (query_layer world below) (Expression-F.UsedIn x role)

  pub qualified-is : (x : Expression) (qualifiers : List Qualifier) → expression world below (e.Qualified x qualifiers) ≡ (λ s. expression world below x s >>= in_turn s (map (qualifier world below) qualifiers))
  unfolding expression qualifier interval operation query
  qualified-is x qualifiers = ap (expression world below) (sym (e.rolls-Qualified x qualifiers))
      ∙ fold-roll-Expression Meaning Operating Meaning Operating Meaning (expression_layer world below) (qualifier_layer world below) (interval_layer world below) (operation_layer world below) (query_layer world below) (Expression-F.Qualified x qualifiers)

  pub unary-is : (operator : UnaryOperator) (x : Expression) → expression world below (e.Unary operator x) ≡ (λ s. steps 1 >> (expression world below x s >>= (λ a. pure (applied_to operator a))))
  unfolding expression qualifier interval operation query
  unary-is operator x = ap (expression world below) (sym (e.rolls-Unary operator x))
      ∙ fold-roll-Expression Meaning Operating Meaning Operating Meaning (expression_layer world below) (qualifier_layer world below) (interval_layer world below) (operation_layer world below) (query_layer world below) (Expression-F.Unary operator x)

  pub chain-is : (x : Expression) (operations : List Operation) → expression world below (e.Chain x operations) ≡ (λ s. expression world below x s >>= in_turn s (map (operation world below) operations))
  unfolding expression qualifier interval operation query
  chain-is x operations = ap (expression world below) (sym (e.rolls-Chain x operations))
      ∙ fold-roll-Expression Meaning Operating Meaning Operating Meaning (expression_layer world below) (qualifier_layer world below) (interval_layer world below) (operation_layer world below) (query_layer world below) (Expression-F.Chain x operations)

  pub interval-is : (x : Interval) → expression world below (e.Interval x) ≡ (λ s. steps 1 >> interval world below x s)
  unfolding expression qualifier interval operation query
  interval-is x = ap (expression world below) (sym (e.rolls-Interval x))
      ∙ fold-roll-Expression Meaning Operating Meaning Operating Meaning (expression_layer world below) (qualifier_layer world below) (interval_layer world below) (operation_layer world below) (query_layer world below) (Expression-F.Interval x)

  pub query-is : (x : Query) → expression world below (e.Query x) ≡ (λ s. steps 1 >> query world below x s)
  unfolding expression qualifier interval operation query
  query-is x = ap (expression world below) (sym (e.rolls-Query x))
      ∙ fold-roll-Expression Meaning Operating Meaning Operating Meaning (expression_layer world below) (qualifier_layer world below) (interval_layer world below) (operation_layer world below) (query_layer world below) (Expression-F.Query x)

  pub initializer-is : (elements : List Expression) → expression world below (e.Initializer elements) ≡ (λ s. steps 1 >> (each_after s [] (map (expression world below) elements) >>= initialized))
  unfolding expression qualifier interval operation query
  initializer-is elements = ap (expression world below) (sym (e.rolls-Initializer elements))
      ∙ fold-roll-Expression Meaning Operating Meaning Operating Meaning (expression_layer world below) (qualifier_layer world below) (interval_layer world below) (operation_layer world below) (query_layer world below) (Expression-F.Initializer elements)

  pub attribute-of : (attributes : List AttributePlace) → qualifier world below (q.Attribute attributes) ≡ (λ s a. steps 1 >> attribute world below attributes a)
  unfolding expression qualifier interval operation query
  attribute-of attributes = ap (qualifier world below) (sym (q.rolls-Attribute attributes))
      ∙ fold-roll-Qualifier Meaning Operating Meaning Operating Meaning (expression_layer world below) (qualifier_layer world below) (interval_layer world below) (operation_layer world below) (query_layer world below) (Qualifier-F.«Qualifier::Attribute» attributes)

  pub group-of : (entity : ℕ) → qualifier world below (q.Group entity) ≡ (λ s a. steps 1 >> pure (group world below entity a))
  unfolding expression qualifier interval operation query
  group-of entity = ap (qualifier world below) (sym (q.rolls-Group entity))
      ∙ fold-roll-Qualifier Meaning Operating Meaning Operating Meaning (expression_layer world below) (qualifier_layer world below) (interval_layer world below) (operation_layer world below) (query_layer world below) (Qualifier-F.Group entity)

  pub index-of : (x : Expression) → qualifier world below (q.Index x) ≡ (λ s a. steps 1 >> (expression world below x s >>= (λ place. pure (index a place))))
  unfolding expression qualifier interval operation query
  index-of x = ap (qualifier world below) (sym (q.rolls-Index x))
      ∙ fold-roll-Qualifier Meaning Operating Meaning Operating Meaning (expression_layer world below) (qualifier_layer world below) (interval_layer world below) (operation_layer world below) (query_layer world below) (Qualifier-F.Index x)

  pub range-of : (x y : Expression) → qualifier world below (q.Range x y) ≡ (λ s a. steps 1 >> (expression world below x s >>= (λ first. expression world below y s >>= (λ last. pure (range a first last)))))
  unfolding expression qualifier interval operation query
  range-of x y = ap (qualifier world below) (sym (q.rolls-Range x y))
      ∙ fold-roll-Qualifier Meaning Operating Meaning Operating Meaning (expression_layer world below) (qualifier_layer world below) (interval_layer world below) (operation_layer world below) (query_layer world below) (Qualifier-F.Range x y)

  pub operation-by : (operator : BinaryOperator) (x : Expression) → operation world below (roll-Operation (record { operator = operator; right = x })) ≡ (λ s a. steps 1 >> (expression world below x s >>= operated operator a))
  unfolding expression qualifier interval operation query
  operation-by operator x = fold-roll-Operation Meaning Operating Meaning Operating Meaning (expression_layer world below) (qualifier_layer world below) (interval_layer world below) (operation_layer world below) (query_layer world below) (record { operator = operator; right = x })

  pub query-by : (source condition : Expression) → query world below (roll-Query (record { source = source; condition = condition })) ≡ (λ s. expression world below source s >>= (λ a. queried (expression world below condition) s (aggregate_of a)))
  unfolding expression qualifier interval operation query
  query-by source condition = fold-roll-Query Meaning Operating Meaning Operating Meaning (expression_layer world below) (qualifier_layer world below) (interval_layer world below) (operation_layer world below) (query_layer world below) (record { source = source; condition = condition })

  pub interval-by : (low : Expression) (x : IntervalEnds) → interval world below (interval_of low x) ≡ (λ s. expression world below low s >>= (λ a. expression world below (expression_of x.item.now) s >>= (λ item. expression world below (expression_of x.high.now) s >>= (λ high. costing (interval_cost a item high) (within x.low_operator x.high_operator a item high)))))
  unfolding expression qualifier interval operation query
  interval-by low x = fold-roll-Interval Meaning Operating Meaning Operating Meaning (expression_layer world below) (qualifier_layer world below) (interval_layer world below) (operation_layer world below) (query_layer world below) (record { low = low; low_operator = x.low_operator; item = expression_of x.item.now; high_operator = x.high_operator; high = expression_of x.high.now })

  -- operators with a literal or a variable as their right operand

  pub operation-literal : (operator : BinaryOperator) (x : Value) (s : Scope) (a : Value) (old : Counter) → operation world below (roll-Operation (record { operator = operator; right = e.Literal x })) s a old ≡ (steps 1 >> (steps 1 >> operated operator a x)) old
  operation-literal operator x s a old = ap (λ m. m s a old) (operation-by operator (e.Literal x))
      ∙ (ap (λ (m : Meaning). (steps 1 >> (m s >>= operated operator a)) old) (literal-is x) ∙ both-by x (operated operator a) (steps 1 old))

  pub operation-variable : (operator : BinaryOperator) (slot : ℕ) (s : Scope) (a : Value) (old : Counter) → operation world below (roll-Operation (record { operator = operator; right = e.Variable slot })) s a old ≡ (steps 1 >> (steps 1 >> operated operator a (slice_index_or s.variables slot v.Indet))) old
  operation-variable operator slot s a old = ap (λ m. m s a old) (operation-by operator (e.Variable slot))
      ∙ (ap (λ (m : Meaning). (steps 1 >> (m s >>= operated operator a)) old) (variable-is slot) ∙ both-by (slice_index_or s.variables slot v.Indet) (operated operator a) (steps 1 old))
