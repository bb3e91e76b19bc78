-- What the value of an expression may be, and the fault that is told of it, by recursion on the tree
-- (ISO 10303-11:1994, clause 12).
use Rattle.std.specs.Prelude.{ℕ, Bool, nat_lt, length, List, [], ◌∷◌, ◌++◌, Option, Some, None, slice_get, slice_index_or}
use Rattle.std.specs.Option.{option_map_or}
use Rattle.ex_tree.specs.declared.expression.BinaryOperator.{BinaryOperator}
use Rattle.ex_tree.specs.declared.expression.BuiltInFunction.{BuiltInFunction}
use Rattle.ex_tree.specs.declared.expression.Literal.{Literal}
use Rattle.ex_tree.specs.declared.expression.Literal.TheVariants as l
use Rattle.ex_tree.specs.declared.expression.UnaryOperator.{UnaryOperator}
use Rattle.ex_named.specs.declared.expression.NamedExpression.{NamedExpression}
use Rattle.ex_named.specs.declared.expression.NamedExpression.TheFolds.{fold-NamedExpression}
use Rattle.ex_named.specs.declared.expression.NamedExpression.TheOpen.{NamedExpression-F, NamedQualifier-F, NamedInterval-F, NamedOperation-F, NamedQuery-F}
use Rattle.ex_named.specs.declared.reference.AttributeUse.{AttributeUse}
use Rattle.ex_kinds.specs.declared.fault.TypeFault.{TypeFault}
use Rattle.ex_kinds.specs.declared.fault.TypeFaultKind.TheVariants.{Ambiguous}
use Rattle.ex_kinds.specs.declared.kind.Sort.TheVariants as k
use Rattle.ex_kinds.specs.declared.typed.Typed.{Typed}
use Rattle.ex_kinds.specs.Faults.{either, fine, refused, ruled, behind}
use Rattle.ex_kinds.specs.Kinds.{Kinds, itself, joined, aggregate_of}
use Rattle.ex_kinds.specs.Types.{plain}
use Rattle.ex_operators.specs.Operators.{unary, unary_anyway, binary, binary_anyway, comparison, logical}
use Rattle.ex_operators.specs.Taken.{built_in, built_in_anyway, called, indexed, ranged, grouped, queried, elements_of}
use Rattle.ex_attributes.specs.Attributes.{Attributes, used, taken}
use Rattle.ex_typing.specs.declared.known.Signature.{Signature}

-- What a schema's declarations say of kinds, each list in the order of the schema.
pub record Known : Type 0 where
  -- of each defined type, by its declaration
  pub types : List Kinds
  pub attributes : Attributes
  pub constants : List Kinds
  pub functions : List Signature

-- What an expression or a statement stands in.
pub record TypingScope : Type 0 where
  -- the entity at hand
  pub entity : Option ℕ
  -- what SELF may be
  pub itself : Kinds
  -- of each variable, by its slot
  pub variables : List Kinds
  -- what the function at hand gives
  pub result : Kinds

-- a scope with one variable more
abbrev pub within : TypingScope → Kinds → TypingScope
within s kinds = record s { variables = s.variables ++ kinds ∷ [] }

abbrev pub TypedExpression : Type 0
TypedExpression = TypingScope → Typed

-- what comes of the value of these kinds
abbrev pub TypedQualifier : Type 0
TypedQualifier = TypingScope → Typed → Typed

abbrev pub TypedOperation : Type 0
TypedOperation = TypingScope → Typed → Typed

-- ---- several expressions

abbrev pub TypedList : Type 0
TypedList = List Kinds × Option TypeFault

abbrev pub and_one : TypedList → Typed → TypedList
and_one found next = (found.0 ++ next.kinds ∷ [], either found.1 next.fault)

abbrev pub each_after : TypingScope → TypedList → List TypedExpression → TypedList
each_after s found [] = found
each_after s found (x ∷ xs) = each_after s (and_one found (x s)) xs

abbrev pub each : TypingScope → List TypedExpression → TypedList
each s = each_after s ([], None)

-- one after the other, each on what came of the ones before
abbrev pub one_after_another : TypingScope → Typed → List (TypingScope → Typed → Typed) → Typed
one_after_another s found [] = found
one_after_another s found (next ∷ others) = one_after_another s (next s found) others

-- ---- names and literals

abbrev pub literal : Literal → Kinds
literal (l.Integer value) = itself k.Integer ∷ []
literal (l.Real value) = itself k.Real ∷ []
literal (l.String value at) = itself k.String ∷ []
literal (l.Binary bits) = itself k.Binary ∷ []
literal (l.Logical value) = itself k.Logical ∷ []

abbrev pub used_by : Attributes → Option ℕ → AttributeUse → Typed
used_by attributes None name = fine []
used_by attributes (Some entity) name = used attributes entity name

-- ---- initialisers

abbrev pub joined_after : Kinds → List Kinds → Kinds
joined_after found [] = found
joined_after found (kinds ∷ others) = joined_after (joined found kinds) others

abbrev pub initializer : TypedList → Typed
initializer elements = record { kinds = aggregate_of (joined_after [] elements.0); fault = elements.1 }

-- ---- what is given even where a rule refuses it

abbrev pub kinds_anyway : Kinds → Option TypeFault → Kinds → Kinds
kinds_anyway kinds None found = found
kinds_anyway kinds (Some fault) found = kinds

abbrev pub anyway : Kinds → Typed → Typed
anyway kinds typed = record { kinds = kinds_anyway kinds typed.fault typed.kinds; fault = typed.fault }

abbrev pub compared : Option TypeFault → Typed
compared fault = record { kinds = logical; fault = fault }

module _ (schema : Known) where
  -- ---- calls

  -- by the signature of the function of this number
  abbrev pub called_by : ℕ → ℕ → List Kinds → Typed
  called_by function at arguments = option_map_or (λ s. anyway s.result (ruled at (called schema.types s.parameters s.result arguments))) (slice_get schema.functions function) (fine [])

  abbrev pub call : ℕ → ℕ → TypedList → Typed
  call function at arguments = behind arguments.1 (called_by function at arguments.0)

  abbrev pub has_entities : Bool
  has_entities = nat_lt 0 (length schema.attributes.supertypes)

  abbrev pub built_in_at : BuiltInFunction → ℕ → List Kinds → Typed
  built_in_at word at arguments = anyway (built_in_anyway has_entities word) (ruled at (built_in schema.types has_entities word arguments))

  -- ---- operators

  abbrev pub unary_at : UnaryOperator → ℕ → Kinds → Typed
  unary_at operator at operand = anyway (unary_anyway operator) (ruled at (unary schema.types operator operand))

  abbrev pub binary_at : BinaryOperator → ℕ → Kinds → Kinds → Typed
  binary_at operator at left right = anyway (binary_anyway operator) (ruled at (binary schema.types operator left right))

  abbrev pub grouped_at : ℕ → Kinds → ℕ → Typed
  grouped_at at base entity = anyway (itself (k.Entity entity) ∷ []) (ruled at (grouped schema.types base entity))

  -- ---- one layer of each tree, given what is said of its parts

  abbrev pub expression_layer : NamedExpression-F TypedExpression TypedQualifier (TypingScope → Typed) TypedOperation (TypingScope → Typed) → TypedExpression
  expression_layer (NamedExpression-F.Literal value) = λ s. fine (literal value)
  expression_layer NamedExpression-F.Itself = λ s. fine s.itself
  expression_layer NamedExpression-F.Indeterminate = λ s. fine []
  expression_layer (NamedExpression-F.Variable slot) = λ s. fine (slice_index_or s.variables slot [])
  expression_layer (NamedExpression-F.«NamedExpression::Attribute» name) = λ s. used_by schema.attributes s.entity name
  expression_layer (NamedExpression-F.Constant number) = λ s. fine (slice_index_or schema.constants number [])
  expression_layer (NamedExpression-F.Population entity) = λ s. fine (aggregate_of (itself (k.Entity entity) ∷ []))
  expression_layer (NamedExpression-F.Item item) = λ s. fine (itself (k.Enumeration item.type_number) ∷ [])
  expression_layer (NamedExpression-F.AmbiguousItem at) = λ s. refused Ambiguous at
  expression_layer (NamedExpression-F.Call function at arguments) = λ s. call function at (each s arguments)
  expression_layer (NamedExpression-F.BuiltIn word at arguments) = λ s. behind (each s arguments).1 (built_in_at word at (each s arguments).0)
  expression_layer (NamedExpression-F.Qualified base qualifiers) = λ s. one_after_another s (base s) qualifiers
  expression_layer (NamedExpression-F.Unary operator at operand) = λ s. behind (operand s).fault (unary_at operator at (operand s).kinds)
  expression_layer (NamedExpression-F.Chain left operations) = λ s. one_after_another s (left s) operations
  expression_layer (NamedExpression-F.Interval interval) = interval
  expression_layer (NamedExpression-F.Query query) = query
  expression_layer (NamedExpression-F.Initializer elements) = λ s. initializer (each s elements)

  abbrev pub qualifier_layer : NamedQualifier-F TypedExpression TypedQualifier (TypingScope → Typed) TypedOperation (TypingScope → Typed) → TypedQualifier
  qualifier_layer (NamedQualifier-F.«NamedQualifier::Attribute» at name) = λ s base. behind base.fault (taken schema.attributes (plain schema.types base.kinds) at name)
  qualifier_layer (NamedQualifier-F.Group at entity) = λ s base. behind base.fault (grouped_at at base.kinds entity)
  qualifier_layer (NamedQualifier-F.Index at index) = λ s base. behind (either base.fault (index s).fault) (ruled at (indexed schema.types base.kinds (index s).kinds))
  qualifier_layer (NamedQualifier-F.Range at low high) = λ s base. behind (either (either base.fault (low s).fault) (high s).fault)
      (ruled at (ranged schema.types base.kinds (low s).kinds (high s).kinds))

  abbrev pub operation_layer : NamedOperation-F TypedExpression TypedQualifier (TypingScope → Typed) TypedOperation (TypingScope → Typed) → TypedOperation
  operation_layer o = λ s left. behind (either left.fault (o.right s).fault) (binary_at o.operator o.at left.kinds (o.right s).kinds)

  abbrev pub interval_of : Typed → Typed → Typed → Typed → Typed → Typed
  interval_of low item high first second = compared (either (either (either low.fault item.fault) high.fault) (either first.fault second.fault))

  abbrev pub interval_layer : NamedInterval-F TypedExpression TypedQualifier (TypingScope → Typed) TypedOperation (TypingScope → Typed) → TypingScope → Typed
  interval_layer i = λ s. interval_of (i.low s) (i.item s) (i.high s)
      (binary_at (comparison i.low_operator) i.low_at (i.low s).kinds (i.item s).kinds)
      (binary_at (comparison i.high_operator) i.high_at (i.item s).kinds (i.high s).kinds)

  -- the variable is one of the source's elements
  abbrev pub query_layer : NamedQuery-F TypedExpression TypedQualifier (TypingScope → Typed) TypedOperation (TypingScope → Typed) → TypingScope → Typed
  query_layer q = λ s. behind (either (q.source s).fault (q.condition (within s (elements_of schema.types (q.source s).kinds))).fault)
      (ruled q.at (queried schema.types (q.source s).kinds))

  -- ---- whole trees

  unfoldable pub typed_expression : NamedExpression → TypedExpression
  typed_expression = fold-NamedExpression TypedExpression TypedQualifier (TypingScope → Typed) TypedOperation (TypingScope → Typed)
      expression_layer qualifier_layer interval_layer operation_layer query_layer

  abbrev pub expression : TypingScope → NamedExpression → Typed
  expression s x = typed_expression x s
