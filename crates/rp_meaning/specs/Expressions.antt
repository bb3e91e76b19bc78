-- What an expression means, by recursion on the tree (ISO 10303-11:1994, clause 12).
use Rattle.std.specs.Prelude.{ℕ, Bool, List, [], ◌∷◌, ◌++◌, length, Option, Some, None, slice_get, slice_index_or, if◌then◌else◌}
use Rattle.ex_named.specs.declared.reference.AttributePlace.{AttributePlace}
use Rattle.ex_named.specs.declared.reference.AttributeSort.{AttributeSort}
use Rattle.ex_named.specs.declared.reference.AttributeSort.TheVariants as sort
use Rattle.ex_tree.specs.declared.expression.BinaryOperator.{BinaryOperator}
use Rattle.ex_tree.specs.declared.expression.BuiltInFunction.{BuiltInFunction}
use Rattle.ex_tree.specs.declared.expression.BuiltInFunction.TheVariants as f
use Rattle.rp_value.specs.Elements.{Elements}
use Rattle.rp_value.specs.declared.value.AggregateKind.{AggregateKind}
use Rattle.rp_value.specs.declared.value.AggregateKind.TheVariants as k
use Rattle.rp_value.specs.declared.value.Value.{Value}
use Rattle.rp_value.specs.declared.value.Value.TheVariants as v
use Rattle.rp_meaning.specs.declared.body.Body.{Body}
use Rattle.rp_meaning.specs.declared.body.Body.TheVariants as b
use Rattle.rp_code.specs.declared.role.Role.{Role}
use Rattle.rp_meaning.specs.declared.schema.Derivation.{Derivation}
use Rattle.rp_meaning.specs.declared.schema.Inverse.{Inverse}
use Rattle.rp_meaning.specs.declared.schema.Schema.{Schema}
use Rattle.rp_code.specs.declared.tree.Expression.{Expression}
use Rattle.rp_code.specs.declared.tree.Expression.TheFolds.{fold-Expression, fold-Interval, fold-Operation, fold-Qualifier, fold-Query}
use Rattle.rp_code.specs.declared.tree.Expression.TheOpen.{Expression-F, Interval-F, Operation-F, Qualifier-F, Query-F}
use Rattle.rp_code.specs.declared.tree.Interval.{Interval}
use Rattle.rp_code.specs.declared.tree.Operation.{Operation}
use Rattle.rp_code.specs.declared.tree.Qualifier.{Qualifier}
use Rattle.rp_code.specs.declared.tree.Query.{Query}
use Rattle.rp_meaning.specs.Attributes.{chosen, stored_value, derivation_in, explicit_derivations, own_derivations, inverse_at, inverse_places, of_users, aggregate, role_named}
use Rattle.rp_meaning.specs.Bare.{is_true, aggregate_of, place_of, text_of}
use Rattle.rp_meaning.specs.BuiltIns.{absolute, binary_length, exists, high_index, index, initializer, low_index, null_value, odd, range, size, size_of, text_length, value_in}
use Rattle.rp_meaning.specs.Computations.{Computation, pure, steps, ◌>>=◌, ◌>>◌}
use Rattle.rp_meaning.specs.Operators.{applied, applied_to, cost, count, interval_cost, within}
use Rattle.rp_meaning.specs.Populations.{Instance, extent, is_of}
use Rattle.rp_meaning.specs.TypeNames.{type_names, texts}
use Rattle.rp_meaning.specs.Uses.{users}

-- What an expression stands in.
pub record Scope : Type 0 where
  -- SELF
  pub itself : Value
  -- by their slots
  pub variables : List Value

abbrev pub with_variable : Scope → Value → Scope
with_variable s x = record { itself = s.itself; variables = s.variables ++ x ∷ [] }

abbrev pub Meaning : Type 0
Meaning = Scope → Computation Value

-- a value that costs so many steps
abbrev pub costing : ℕ → Value → Computation Value
costing n x = steps n >> pure x

-- the values of several
abbrev pub each_after : Scope → List Value → List Meaning → Computation (List Value)
each_after s found [] = pure found
each_after s found (x ∷ others) = x s >>= (λ a. each_after s (found ++ a ∷ []) others)

-- ---- operators

-- an operator with what it gives of the value on its left
abbrev pub Operating : Type 0
Operating = Scope → Value → Computation Value

abbrev pub operated : BinaryOperator → Value → Value → Computation Value
operated operator x y = costing (cost operator x y) (applied operator x y)

-- operators of one level, or qualifiers, from left to right
abbrev pub in_turn : Scope → List Operating → Value → Computation Value
in_turn s [] x = pure x
in_turn s (operation ∷ others) x = operation s x >>= in_turn s others

-- ---- QUERY

-- an element of a QUERY, of which the condition is TRUE or not
abbrev pub tested : Meaning → Scope → Value → Computation Bool
tested condition s x = steps 1 >> (condition (with_variable s x) >>= (λ a. pure (is_true a)))

abbrev pub kept_one : List Value → Value → Bool → List Value
kept_one found x holds = if holds then found ++ x ∷ [] else found

-- the elements for which the condition is TRUE
abbrev pub kept_after : Meaning → Scope → List Value → List Value → Computation (List Value)
kept_after condition s found [] = pure found
kept_after condition s found (x ∷ others) = tested condition s x >>= (λ holds. kept_after condition s (kept_one found x holds) others)

abbrev pub queried : Meaning → Scope → Option (AggregateKind × Elements Value) → Computation Value
queried condition s (Some a) = kept_after condition s [] a.1.items >>= (λ found. pure (v.Agg a.0 (record { low = a.1.low; items = found })))
queried condition s None = pure v.Indet

-- What all evaluations see.
pub record World : Type 0 where
  pub schema : Schema
  pub population : List Instance

-- what is seen, and what the bodies beneath mean
module _ (world : World) (below : Body → Computation Value) where
  -- ---- attributes of an instance at a place

  abbrev pub derived_by : Option Derivation → Value → ℕ → Computation Value
  derived_by (Some d) stored place = below (b.Derived d.entity d.place place)
  derived_by None stored place = pure stored

  abbrev pub inverse_by : Option Inverse → ℕ → Computation Value
  inverse_by (Some x) place = costing (length (inverse_places world.population x place)) (of_users x.aggregate (inverse_places world.population x place))
  inverse_by None place = pure v.Indet

  abbrev pub attribute_by : AttributeSort → AttributePlace → Instance → ℕ → Computation Value
  attribute_by sort.Explicit a i place = derived_by (derivation_in world.schema (explicit_derivations world.schema a) i) (stored_value i a) place
  attribute_by sort.Derived a i place = derived_by (derivation_in world.schema (own_derivations world.schema a) i) v.Indet place
  attribute_by sort.Inverse a i place = inverse_by (inverse_at world.schema a.entity a.place) place

  -- an instance that isn't of the attribute's entity has none
  abbrev pub attribute_of : Option AttributePlace → Instance → ℕ → Computation Value
  attribute_of (Some a) i place = if is_of i a.entity then attribute_by a.sort a i place else pure v.Indet
  attribute_of None i place = pure v.Indet

  abbrev pub attribute_at : List AttributePlace → Option Instance → ℕ → Computation Value
  attribute_at attributes (Some i) place = attribute_of (chosen attributes i) i place
  attribute_at attributes None place = pure v.Indet

  abbrev pub attribute_in : List AttributePlace → Option ℕ → Computation Value
  attribute_in attributes (Some place) = attribute_at attributes (slice_get world.population place) place
  attribute_in attributes None = pure v.Indet

  -- `x.a`, where a means the first of these of which the instance has the entity
  abbrev pub attribute : List AttributePlace → Value → Computation Value
  attribute attributes x = attribute_in attributes (place_of x)

  -- ---- `x\e`

  abbrev pub group_at : ℕ → Value → Option Instance → Value
  group_at entity x (Some i) = if is_of i entity then x else v.Indet
  group_at entity x None = v.Indet

  abbrev pub group_in : ℕ → Value → Option ℕ → Value
  group_in entity x (Some place) = group_at entity x (slice_get world.population place)
  group_in entity x None = v.Indet

  abbrev pub group : ℕ → Value → Value
  group entity x = group_in entity x (place_of x)

  -- ---- functions

  abbrev pub extent_value : ℕ → Computation Value
  extent_value entity = costing (length (extent world.population entity)) (aggregate k.Set (extent world.population entity))

  abbrev pub users_in : Option Role → ℕ → List Value
  users_in (Some role) place = users world.population role place
  users_in None place = []

  -- in what is no role there are none
  abbrev pub used_in_role : Option Role → Option ℕ → Computation Value
  used_in_role role (Some place) = costing (length (users_in role place)) (aggregate k.Bag (users_in role place))
  used_in_role role None = pure v.Indet

  abbrev pub used_in_by : Option (List ℕ) → Option ℕ → Computation Value
  used_in_by (Some text) place = used_in_role (role_named world.schema.roles text) place
  used_in_by None place = pure v.Indet

  abbrev pub type_names_value : Value → Computation Value
  type_names_value x = costing (length (type_names world.schema world.population x)) (aggregate k.Set (texts world.schema world.population (type_names world.schema world.population x)))

  abbrev pub of_one : BuiltInFunction → Value → Computation Value
  of_one f.Abs x = pure (absolute x)
  of_one f.BLength x = pure (binary_length x)
  of_one f.Exists x = pure (exists x)
  of_one f.HiIndex x = pure (high_index x)
  of_one f.Length x = pure (text_length x)
  of_one f.LoIndex x = pure (low_index x)
  of_one f.Odd x = pure (odd x)
  of_one f.SizeOf x = pure (size_of x)
  of_one f.TypeOf x = type_names_value x
  of_one _ x = pure v.Indet

  abbrev pub of_two : BuiltInFunction → Value → Value → Computation Value
  of_two f.Nvl x y = pure (null_value x y)
  of_two f.UsedIn x y = used_in_by (text_of y) (place_of x)
  of_two f.ValueIn x y = costing (count x) (value_in x y)
  of_two _ x y = pure v.Indet

  abbrev pub built_in : BuiltInFunction → List Value → Computation Value
  built_in function (x ∷ []) = of_one function x
  built_in function (x ∷ y ∷ []) = of_two function x y
  built_in function _ = pure v.Indet

  -- ---- the tree

  abbrev pub expression_layer : Expression-F Meaning Operating Meaning Operating Meaning → Meaning
  expression_layer (Expression-F.Literal x) = λ s. steps 1 >> pure x
  expression_layer Expression-F.Itself = λ s. steps 1 >> pure s.itself
  expression_layer (Expression-F.Variable slot) = λ s. steps 1 >> pure (slice_index_or s.variables slot v.Indet)
  expression_layer (Expression-F.«Expression::Attribute» a) = λ s. steps 1 >> attribute (a ∷ []) s.itself
  expression_layer (Expression-F.Constant number) = λ s. steps 1 >> below (b.Constant number)
  expression_layer (Expression-F.Population entity) = λ s. steps 1 >> extent_value entity
  expression_layer (Expression-F.Call number arguments) = λ s. steps 1 >> (each_after s [] arguments >>= (λ values. below (b.Function number values)))
  expression_layer (Expression-F.BuiltIn function arguments) = λ s. steps 1 >> (each_after s [] arguments >>= built_in function)
  expression_layer (Expression-F.UsedIn x role) = λ s. steps 2 >> (x s >>= (λ a. used_in_role role (place_of a)))
  expression_layer (Expression-F.Qualified x qualifiers) = λ s. x s >>= in_turn s qualifiers
  expression_layer (Expression-F.Unary operator x) = λ s. steps 1 >> (x s >>= (λ a. pure (applied_to operator a)))
  expression_layer (Expression-F.Chain x operations) = λ s. x s >>= in_turn s operations
  expression_layer (Expression-F.Interval x) = λ s. steps 1 >> x s
  expression_layer (Expression-F.Query x) = λ s. steps 1 >> x s
  expression_layer (Expression-F.Initializer elements) = λ s. steps 1 >> (each_after s [] elements >>= (λ values. costing (size (initializer values)) (initializer values)))

  abbrev pub operation_layer : Operation-F Meaning Operating Meaning Operating Meaning → Operating
  operation_layer x = λ s a. steps 1 >> (x.right s >>= operated x.operator a)

  abbrev pub qualifier_layer : Qualifier-F Meaning Operating Meaning Operating Meaning → Operating
  qualifier_layer (Qualifier-F.«Qualifier::Attribute» attributes) = λ s a. steps 1 >> attribute attributes a
  qualifier_layer (Qualifier-F.Group entity) = λ s a. steps 1 >> pure (group entity a)
  qualifier_layer (Qualifier-F.Index x) = λ s a. steps 1 >> (x s >>= (λ at. pure (index a at)))
  qualifier_layer (Qualifier-F.Range x y) = λ s a. steps 1 >> (x s >>= (λ first. y s >>= (λ last. pure (range a first last))))

  abbrev pub interval_layer : Interval-F Meaning Operating Meaning Operating Meaning → Meaning
  interval_layer x = λ s. x.low s >>= (λ low. x.item s >>= (λ item. x.high s >>= (λ high.
      costing (interval_cost low item high) (within x.low_operator x.high_operator low item high))))

  abbrev pub query_layer : Query-F Meaning Operating Meaning Operating Meaning → Meaning
  query_layer x = λ s. x.source s >>= (λ a. queried x.condition s (aggregate_of a))

  unfoldable pub expression : Expression → Meaning
  expression = fold-Expression Meaning Operating Meaning Operating Meaning expression_layer qualifier_layer interval_layer operation_layer query_layer

  unfoldable pub qualifier : Qualifier → Operating
  qualifier = fold-Qualifier Meaning Operating Meaning Operating Meaning expression_layer qualifier_layer interval_layer operation_layer query_layer

  unfoldable pub interval : Interval → Meaning
  interval = fold-Interval Meaning Operating Meaning Operating Meaning expression_layer qualifier_layer interval_layer operation_layer query_layer

  unfoldable pub operation : Operation → Operating
  operation = fold-Operation Meaning Operating Meaning Operating Meaning expression_layer qualifier_layer interval_layer operation_layer query_layer

  unfoldable pub query : Query → Meaning
  query = fold-Query Meaning Operating Meaning Operating Meaning expression_layer qualifier_layer interval_layer operation_layer query_layer
