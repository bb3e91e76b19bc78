-- What is said of the trees in an expression.
use Rattle.std.specs.Prelude.{ℕ, List, map, Option}
use Rattle.ex_tree.specs.declared.expression.BuiltInFunction.{BuiltInFunction}
use Rattle.ex_tree.specs.declared.expression.UnaryOperator.{UnaryOperator}
use Rattle.ex_named.specs.declared.expression.NamedExpression.{NamedExpression}
use Rattle.ex_named.specs.declared.expression.NamedExpression.TheFolds.{fold-NamedQualifier, fold-NamedInterval, fold-NamedOperation, fold-NamedQuery}
use Rattle.ex_named.specs.declared.expression.NamedInterval.{NamedInterval}
use Rattle.ex_named.specs.declared.expression.NamedOperation.{NamedOperation}
use Rattle.ex_named.specs.declared.expression.NamedQualifier.{NamedQualifier}
use Rattle.ex_named.specs.declared.expression.NamedQuery.{NamedQuery}
use Rattle.ex_kinds.specs.declared.fault.TypeFault.{TypeFault}
use Rattle.ex_kinds.specs.declared.typed.Typed.{Typed}
use Rattle.ex_kinds.specs.Faults.{behind}
use Rattle.ex_kinds.specs.Kinds.{Kinds}
use Rattle.ex_typing.specs.Expressions.{Known, TypingScope, within, called_by, built_in_at, unary_at, TypedExpression, TypedQualifier, TypedOperation, TypedList, expression_layer, qualifier_layer, interval_layer, operation_layer, query_layer, each, one_after_another, initializer, typed_expression}

module _ (schema : Known) where
  unfoldable pub typed_qualifier : NamedQualifier → TypedQualifier
  typed_qualifier = fold-NamedQualifier TypedExpression TypedQualifier (TypingScope → Typed) TypedOperation (TypingScope → Typed)
      (expression_layer schema) (qualifier_layer schema) (interval_layer schema) (operation_layer schema) (query_layer schema)

  unfoldable pub typed_interval : NamedInterval → TypingScope → Typed
  typed_interval = fold-NamedInterval TypedExpression TypedQualifier (TypingScope → Typed) TypedOperation (TypingScope → Typed)
      (expression_layer schema) (qualifier_layer schema) (interval_layer schema) (operation_layer schema) (query_layer schema)

  unfoldable pub typed_operation : NamedOperation → TypedOperation
  typed_operation = fold-NamedOperation TypedExpression TypedQualifier (TypingScope → Typed) TypedOperation (TypingScope → Typed)
      (expression_layer schema) (qualifier_layer schema) (interval_layer schema) (operation_layer schema) (query_layer schema)

  unfoldable pub typed_query : NamedQuery → TypingScope → Typed
  typed_query = fold-NamedQuery TypedExpression TypedQualifier (TypingScope → Typed) TypedOperation (TypingScope → Typed)
      (expression_layer schema) (qualifier_layer schema) (interval_layer schema) (operation_layer schema) (query_layer schema)

  -- ---- lists

  abbrev pub expressions : TypingScope → List NamedExpression → TypedList
  expressions s list = each s (map (typed_expression schema) list)

  abbrev pub qualifiers : TypingScope → Typed → List NamedQualifier → Typed
  qualifiers s base list = one_after_another s base (map typed_qualifier list)

  abbrev pub operations : TypingScope → Typed → List NamedOperation → Typed
  operations s left list = one_after_another s left (map typed_operation list)

  -- ---- in a scope

  abbrev pub call : TypingScope → ℕ → ℕ → List NamedExpression → Typed
  call s function at arguments = behind (expressions s arguments).1 (called_by schema function at (expressions s arguments).0)

  abbrev pub call_built_in : TypingScope → BuiltInFunction → ℕ → List NamedExpression → Typed
  call_built_in s word at arguments = behind (expressions s arguments).1 (built_in_at schema word at (expressions s arguments).0)

  abbrev pub initialized : TypingScope → List NamedExpression → Typed
  initialized s elements = initializer (expressions s elements)

  abbrev pub signed : TypingScope → UnaryOperator → ℕ → NamedExpression → Typed
  signed s operator at operand = behind (typed_expression schema operand s).fault (unary_at schema operator at (typed_expression schema operand s).kinds)

  abbrev pub qualifier : TypingScope → Typed → NamedQualifier → Typed
  qualifier s base q = typed_qualifier q s base

  abbrev pub operation : TypingScope → Typed → NamedOperation → Typed
  operation s left o = typed_operation o s left

  abbrev pub interval : TypingScope → NamedInterval → Typed
  interval s i = typed_interval i s

  abbrev pub query : TypingScope → NamedQuery → Typed
  query s q = typed_query q s

  -- the fault of a condition in which a variable of these kinds stands
  abbrev pub condition : TypingScope → Kinds → NamedExpression → Option TypeFault
  condition s variable x = (typed_expression schema x (within s variable)).fault
