-- Functions and rules (ISO 10303-11:1994, 9.5, 9.6).
use Rattle.std.specs.Prelude.{true, false, ◌-◌, List, [], if◌then◌else◌}
use Rattle.text_forms.specs.Forms.{◌>>=◌, ◌>>◌, pure}
use Rattle.ex_tree.specs.declared.kind.TokenKind.TheVariants as k
use Rattle.ex_tree.specs.declared.expression.Expression.{Expression}
use Rattle.ex_tree.specs.declared.statement.Statement.{Statement}
use Rattle.ex_tree.specs.declared.declaration.Parameter.{Parameter}
use Rattle.ex_tree.specs.declared.declaration.LocalVariable.{LocalVariable}
use Rattle.ex_tree.specs.declared.declaration.FunctionHead.{FunctionHead}
use Rattle.ex_tree.specs.declared.declaration.Function.{Function}
use Rattle.ex_tree.specs.declared.declaration.RuleHead.{RuleHead}
use Rattle.ex_tree.specs.declared.declaration.Rule.{Rule}
use Rattle.ex_forms.specs.Input.{Parser, sees, expect, enter, name, some, separated, optional}
use Rattle.ex_expressions.specs.Expressions.{expression}
use Rattle.ex_statements.specs.declared.place.Place.{Place}
use Rattle.ex_statements.specs.Statements.{statements, begins_statement}
use Rattle.ex_declaration_syntax.specs.DataTypes.{base_type, parameter_type}
use Rattle.ex_declaration_syntax.specs.Declarations.{max_levels, name_list, where_clause}

-- ---- parameters and local variables

-- one level down: between the parentheses of the parameters
unfoldable pub formal_parameter : Parser Parameter
formal_parameter = do
  names ← separated k.Comma name
  expect k.Colon
  data_type ← parameter_type (max_levels - 1)
  pure (record { names = names; data_type = data_type })

unfoldable pub parameter_list : Parser (List Parameter)
parameter_list = do
  enter max_levels k.OpenParenthesis
  found ← separated k.Semicolon formal_parameter
  expect k.CloseParenthesis
  pure found

-- the list, if it stands here
unfoldable pub parameters : Parser (List Parameter)
parameters s = if sees k.OpenParenthesis s then parameter_list s else pure [] s

unfoldable pub initial_value : Parser Expression
initial_value = do
  expect k.Becomes
  expression max_levels

unfoldable pub local_variable : Parser LocalVariable
local_variable = do
  names ← separated k.Comma name
  expect k.Colon
  data_type ← base_type max_levels
  value ← optional (sees k.Becomes) initial_value
  expect k.Semicolon
  pure (record { names = names; data_type = data_type; value = value })

unfoldable pub local_decl : Parser (List LocalVariable)
local_decl = do
  expect k.Local
  found ← some (sees k.Identifier) local_variable
  expect k.EndLocal
  expect k.Semicolon
  pure found

-- the declaration, if it stands here
unfoldable pub algorithm_head : Parser (List LocalVariable)
algorithm_head s = if sees k.Local s then local_decl s else pure [] s

-- ---- functions

abbrev pub in_functions : Place
in_functions = record { in_function = true; in_repeat = false }

unfoldable pub function_head : Parser FunctionHead
function_head = do
  expect k.Function
  name' ← name
  parameters' ← parameters
  expect k.Colon
  result ← parameter_type max_levels
  expect k.Semicolon
  pure (record { name = name'; parameters = parameters'; result = result })

unfoldable pub function_decl : Parser Function
function_decl = do
  head ← function_head
  locals ← algorithm_head
  statements' ← statements in_functions max_levels
  expect k.EndFunction
  expect k.Semicolon
  pure (record { head = head; locals = locals; statements = statements' })

-- ---- rules

abbrev pub in_rules : Place
in_rules = record { in_function = false; in_repeat = false }

unfoldable pub rule_head : Parser RuleHead
rule_head = do
  expect k.Rule
  name' ← name
  expect k.For
  entities ← name_list
  expect k.Semicolon
  pure (record { name = name'; entities = entities })

-- a rule may have no statement
unfoldable pub rule_statements : Parser (List Statement)
rule_statements s = if begins_statement in_rules s then statements in_rules max_levels s else pure [] s

unfoldable pub rule_decl : Parser Rule
rule_decl = do
  head ← rule_head
  locals ← algorithm_head
  statements' ← rule_statements
  domain_rules ← where_clause
  expect k.EndRule
  expect k.Semicolon
  pure (record { head = head; locals = locals; statements = statements'; domain_rules = domain_rules })
