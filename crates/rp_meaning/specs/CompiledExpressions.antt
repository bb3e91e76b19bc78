-- Expressions as they are evaluated, beside what their values may be, by recursion on the tree (ISO 10303-11:1994, clause 12).
-- What a value may be decides which attribute is meant behind a point.
use Rattle.std.specs.Prelude.{ℕ, zero, pos, Bool, true, false, not, ◌==◌, ◌^◌, nat_lt, if◌then◌else◌, List, [], ◌∷◌, ◌++◌, map, filter, Option, Some, None}
use Rattle.std.specs.List.{flat_map, list_any}
use Rattle.ex_kinds.specs.declared.kind.Sort.{Sort}
use Rattle.ex_kinds.specs.declared.kind.Sort.TheVariants as k
use Rattle.ex_kinds.specs.declared.typed.Typed.{Typed}
use Rattle.ex_kinds.specs.Kinds.{Kinds}
use Rattle.ex_kinds.specs.Types.{plain}
use Rattle.ex_named.specs.declared.expression.NamedExpression.{NamedExpression, map-NamedExpression}
use Rattle.ex_named.specs.declared.expression.NamedExpression.TheFolds.{fold-NamedExpression}
use Rattle.ex_named.specs.declared.expression.NamedExpression.TheOpen.{NamedExpression-F, NamedQualifier-F, NamedInterval-F, NamedOperation-F, NamedQuery-F}
use Rattle.ex_named.specs.declared.expression.NamedInterval.{map-NamedInterval}
use Rattle.ex_named.specs.declared.expression.NamedOperation.{map-NamedOperation}
use Rattle.ex_named.specs.declared.expression.NamedQualifier.{map-NamedQualifier}
use Rattle.ex_named.specs.declared.expression.NamedQuery.{map-NamedQuery}
use Rattle.ex_named.specs.declared.reference.AttributeMeaning.{AttributeMeaning}
use Rattle.ex_named.specs.declared.reference.AttributeMeaning.TheVariants as m
use Rattle.ex_named.specs.declared.reference.AttributePlace.{AttributePlace}
use Rattle.ex_operators.specs.Taken.{elements_of}
use Rattle.ex_tree.specs.declared.expression.BuiltInFunction.{BuiltInFunction}
use Rattle.ex_tree.specs.declared.expression.BuiltInFunction.TheVariants as f
use Rattle.ex_tree.specs.declared.expression.Literal.{Literal}
use Rattle.ex_tree.specs.declared.expression.Literal.TheVariants as l
use Rattle.ex_typing.specs.Expressions as typing
use Rattle.ex_typing.specs.Expressions.{Known, TypingScope, within, TypedExpression, TypedQualifier, TypedOperation}
use Rattle.graphs.specs.Graphs.{family}
use Rattle.name_tables.specs.Names.{named}
use Rattle.plain_data.specs.Numbers.{is_among}
use Rattle.rp_value.specs.declared.value.Value.{Value, out-Value}
use Rattle.rp_value.specs.declared.value.Value.TheOpen.{Value-F}
use Rattle.rp_value.specs.declared.value.Value.TheVariants as v
use Rattle.rp_code.specs.declared.role.NamedRole.{NamedRole}
use Rattle.rp_code.specs.declared.tree.Expression.{Expression, out-Expression}
use Rattle.rp_code.specs.declared.tree.Expression.TheOpen.{Expression-F}
use Rattle.rp_code.specs.declared.tree.Expression.TheVariants as e
use Rattle.rp_code.specs.declared.tree.Interval.{Interval, roll-Interval}
use Rattle.rp_code.specs.declared.tree.Operation.{Operation, roll-Operation}
use Rattle.rp_code.specs.declared.tree.Qualifier.{Qualifier}
use Rattle.rp_code.specs.declared.tree.Qualifier.TheVariants as q
use Rattle.rp_code.specs.declared.tree.Query.{Query, roll-Query}
pub use Rattle.rp_meaning.specs.Attributes.{role_named}
use Rattle.rp_meaning.specs.CompiledNames.{Rows}

-- What is said of the value, and the tree.
pub record Both (Said Tree : Type 0) : Type 0 where
  pub typed : Said
  pub tree : Tree

abbrev pub CompiledExpression : Type 0
CompiledExpression = Both TypedExpression (TypingScope → Expression)

-- behind a value of which this is said
abbrev pub CompiledQualifier : Type 0
CompiledQualifier = Both TypedQualifier (TypingScope → Typed → Qualifier)

abbrev pub CompiledInterval : Type 0
CompiledInterval = Both (TypingScope → Typed) (TypingScope → Interval)

abbrev pub CompiledOperation : Type 0
CompiledOperation = Both TypedOperation (TypingScope → Operation)

abbrev pub CompiledQuery : Type 0
CompiledQuery = Both (TypingScope → Typed) (TypingScope → Query)

-- a layer of each tree, of compiled parts
abbrev pub ExpressionParts : Type 0
ExpressionParts = NamedExpression-F CompiledExpression CompiledQualifier CompiledInterval CompiledOperation CompiledQuery

abbrev pub QualifierParts : Type 0
QualifierParts = NamedQualifier-F CompiledExpression CompiledQualifier CompiledInterval CompiledOperation CompiledQuery

abbrev pub IntervalParts : Type 0
IntervalParts = NamedInterval-F CompiledExpression CompiledQualifier CompiledInterval CompiledOperation CompiledQuery

abbrev pub OperationParts : Type 0
OperationParts = NamedOperation-F CompiledExpression CompiledQualifier CompiledInterval CompiledOperation CompiledQuery

abbrev pub QueryParts : Type 0
QueryParts = NamedQuery-F CompiledExpression CompiledQualifier CompiledInterval CompiledOperation CompiledQuery

abbrev pub each : TypingScope → List CompiledExpression → List Expression
each s = map (λ x. x.tree s)

-- each behind what is said of the ones before
abbrev pub qualifiers_behind : TypingScope → Typed → List CompiledQualifier → List Qualifier
qualifiers_behind s base [] = []
qualifiers_behind s base (x ∷ others) = x.tree s base ∷ qualifiers_behind s (x.typed s base) others

-- ---- literals

abbrev pub bit : ℕ → Bool
bit digit = digit == 49

abbrev pub literal : Literal → Value
literal (l.Integer n) = if nat_lt n (2 ^ 63) then v.Int (pos n) else v.Indet
literal (l.Real decimal) = v.Dec decimal
literal (l.String text at) = v.Str text
literal (l.Binary digits) = v.Bin (map bit digits)
literal (l.Logical x) = v.Log x

-- ---- attributes

-- by its name alone an attribute of SELF is one that the entity at hand declares or inherits
abbrev pub own_attribute : AttributeMeaning → Expression
own_attribute (m.One place) = e.Attribute place
own_attribute m.Several = e.Literal v.Indet

abbrev pub is_any_at : ℕ → Sort → Bool
is_any_at zero k.Instance = true
is_any_at zero k.Generic = true
is_any_at _ _ = false

-- whether a value of one of these kinds may be an instance of any entity
abbrev pub may_be_any : Kinds → Bool
may_be_any = list_any (λ kind. is_any_at kind.depth kind.sort)

abbrev pub family_at : List (List ℕ) → ℕ → Sort → List ℕ
family_at supertypes zero (k.Entity entity) = family supertypes entity
family_at supertypes _ _ = []

-- The entities that a value of these kinds, which are plain, may be of, and those above them. Where it may be of any, no entity is
-- nearer than others.
abbrev pub near : List (List ℕ) → Kinds → List ℕ
near supertypes kinds = if may_be_any kinds then [] else flat_map (λ kind. family_at supertypes kind.depth kind.sort) kinds

-- those of near entities come first
abbrev pub nearest_first : List ℕ → List AttributePlace → List AttributePlace
nearest_first near places = filter (λ p. is_among near p.entity) places ++ filter (λ p. not (is_among near p.entity)) places

-- ---- USEDIN

abbrev pub text_in : Value-F Value → Option (List ℕ)
text_in (Value-F.Str text) = Some text
text_in _ = None

-- the text that an expression is, where it is a literal
abbrev pub text_of : Expression → Option (List ℕ)
text_of x = elim (out-Expression x) [ Expression-F.Literal value ↦ text_in (out-Value value) | _ ↦ None ]

-- ---- expressions

-- What a schema declares, as expressions are compiled by it.
pub record Declared : Type 0 where
  pub known : Known
  -- the attributes of entities, in the order of the names of these
  pub attributes : Rows
  pub roles : List NamedRole

module _ (schema : Declared) where
  abbrev pub used_in : Expression → Expression → Option (List ℕ) → Expression
  used_in x y None = e.BuiltIn f.UsedIn (x ∷ y ∷ [])
  used_in x y (Some text) = e.UsedIn x (role_named schema.roles text)

  abbrev pub built_in : BuiltInFunction → List Expression → Expression
  built_in f.UsedIn (x ∷ y ∷ []) = used_in x y (text_of y)
  built_in word arguments = e.BuiltIn word arguments

  -- the attributes that a name may mean behind a value of these kinds
  abbrev pub meant : List ℕ → Kinds → List AttributePlace
  meant name kinds = nearest_first (near schema.known.attributes.supertypes (plain schema.known.types kinds)) (named name schema.attributes)

  -- ---- one layer of each tree, given its parts

  abbrev pub expression_tree : ExpressionParts → TypingScope → Expression
  expression_tree (NamedExpression-F.Literal value) = λ s. e.Literal (literal value)
  expression_tree NamedExpression-F.Itself = λ s. e.Itself
  expression_tree NamedExpression-F.Indeterminate = λ s. e.Literal v.Indet
  expression_tree (NamedExpression-F.Variable slot) = λ s. e.Variable slot
  expression_tree (NamedExpression-F.«NamedExpression::Attribute» name) = λ s. own_attribute name.meaning
  expression_tree (NamedExpression-F.Constant number) = λ s. e.Constant number
  expression_tree (NamedExpression-F.Population entity) = λ s. e.Population entity
  expression_tree (NamedExpression-F.Item item) = λ s. e.Literal (v.Item item.type_number item.place)
  expression_tree (NamedExpression-F.AmbiguousItem at) = λ s. e.Literal v.Indet
  expression_tree (NamedExpression-F.Call function at arguments) = λ s. e.Call function (each s arguments)
  expression_tree (NamedExpression-F.BuiltIn word at arguments) = λ s. built_in word (each s arguments)
  expression_tree (NamedExpression-F.Qualified base qualifiers) = λ s. e.Qualified (base.tree s) (qualifiers_behind s (base.typed s) qualifiers)
  expression_tree (NamedExpression-F.Unary operator at operand) = λ s. e.Unary operator (operand.tree s)
  expression_tree (NamedExpression-F.Chain left operations) = λ s. e.Chain (left.tree s) (map (λ o. o.tree s) operations)
  expression_tree (NamedExpression-F.Interval interval) = λ s. e.Interval (interval.tree s)
  expression_tree (NamedExpression-F.Query query) = λ s. e.Query (query.tree s)
  expression_tree (NamedExpression-F.Initializer elements) = λ s. e.Initializer (each s elements)

  abbrev pub qualifier_tree : QualifierParts → TypingScope → Typed → Qualifier
  qualifier_tree (NamedQualifier-F.«NamedQualifier::Attribute» at name) = λ s base. q.Attribute (meant name.text base.kinds)
  qualifier_tree (NamedQualifier-F.Group at entity) = λ s base. q.Group entity
  qualifier_tree (NamedQualifier-F.Index at index) = λ s base. q.Index (index.tree s)
  qualifier_tree (NamedQualifier-F.Range at low high) = λ s base. q.Range (low.tree s) (high.tree s)

  abbrev pub interval_tree : IntervalParts → TypingScope → Interval
  interval_tree i = λ s. roll-Interval (record { low = i.low.tree s; low_operator = i.low_operator; item = i.item.tree s; high_operator = i.high_operator; high = i.high.tree s })

  abbrev pub operation_tree : OperationParts → TypingScope → Operation
  operation_tree o = λ s. roll-Operation (record { operator = o.operator; right = o.right.tree s })

  -- the variable is one of the source's elements
  abbrev pub query_tree : QueryParts → TypingScope → Query
  query_tree x = λ s. roll-Query (record { source = x.source.tree s; condition = x.condition.tree (within s (elements_of schema.known.types (x.source.typed s).kinds)) })

  -- ---- the same beside what is said of the value

  abbrev pub expression_layer : ExpressionParts → CompiledExpression
  expression_layer x = record { typed = typing.expression_layer schema.known (map-NamedExpression CompiledExpression CompiledQualifier CompiledInterval CompiledOperation CompiledQuery TypedExpression TypedQualifier (TypingScope → Typed) TypedOperation (TypingScope → Typed) (λ y. y.typed) (λ y. y.typed) (λ y. y.typed) (λ y. y.typed) (λ y. y.typed) x); tree = expression_tree x }

  abbrev pub qualifier_layer : QualifierParts → CompiledQualifier
  qualifier_layer x = record { typed = typing.qualifier_layer schema.known (map-NamedQualifier CompiledExpression CompiledQualifier CompiledInterval CompiledOperation CompiledQuery TypedExpression TypedQualifier (TypingScope → Typed) TypedOperation (TypingScope → Typed) (λ y. y.typed) (λ y. y.typed) (λ y. y.typed) (λ y. y.typed) (λ y. y.typed) x); tree = qualifier_tree x }

  abbrev pub interval_layer : IntervalParts → CompiledInterval
  interval_layer x = record { typed = typing.interval_layer schema.known (map-NamedInterval CompiledExpression CompiledQualifier CompiledInterval CompiledOperation CompiledQuery TypedExpression TypedQualifier (TypingScope → Typed) TypedOperation (TypingScope → Typed) (λ y. y.typed) (λ y. y.typed) (λ y. y.typed) (λ y. y.typed) (λ y. y.typed) x); tree = interval_tree x }

  abbrev pub operation_layer : OperationParts → CompiledOperation
  operation_layer x = record { typed = typing.operation_layer schema.known (map-NamedOperation CompiledExpression CompiledQualifier CompiledInterval CompiledOperation CompiledQuery TypedExpression TypedQualifier (TypingScope → Typed) TypedOperation (TypingScope → Typed) (λ y. y.typed) (λ y. y.typed) (λ y. y.typed) (λ y. y.typed) (λ y. y.typed) x); tree = operation_tree x }

  abbrev pub query_layer : QueryParts → CompiledQuery
  query_layer x = record { typed = typing.query_layer schema.known (map-NamedQuery CompiledExpression CompiledQualifier CompiledInterval CompiledOperation CompiledQuery TypedExpression TypedQualifier (TypingScope → Typed) TypedOperation (TypingScope → Typed) (λ y. y.typed) (λ y. y.typed) (λ y. y.typed) (λ y. y.typed) (λ y. y.typed) x); tree = query_tree x }

  -- ---- whole trees

  unfoldable pub compiled_expression : NamedExpression → CompiledExpression
  compiled_expression = fold-NamedExpression CompiledExpression CompiledQualifier CompiledInterval CompiledOperation CompiledQuery
      expression_layer qualifier_layer interval_layer operation_layer query_layer

  abbrev pub expression : TypingScope → NamedExpression → Expression
  expression s x = (compiled_expression x).tree s
