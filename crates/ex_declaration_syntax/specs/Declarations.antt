-- Rules with their labels, names of attributes, constants and types (ISO 10303-11:1994, 8.3, 9.1, 9.2.2, 9.4).
use Rattle.std.specs.Prelude.{ℕ, Bool, ◌&&◌, ◌||◌, List, [], if◌then◌else◌}
use Rattle.text_forms.specs.Forms.{◌>>=◌, ◌>>◌, ◌<$>◌, pure}
use Rattle.ex_tree.specs.declared.kind.TokenKind.{TokenKind}
use Rattle.ex_tree.specs.declared.kind.TokenKind.TheVariants as k
use Rattle.ex_tree.specs.declared.expression.Name.{Name}
use Rattle.ex_tree.specs.declared.declaration.DomainRule.{DomainRule}
use Rattle.ex_tree.specs.declared.declaration.AttributeDeclaration.{AttributeDeclaration}
use Rattle.ex_tree.specs.declared.declaration.AttributeDeclaration.TheVariants.{Own, Qualified}
use Rattle.ex_tree.specs.declared.declaration.QualifiedAttribute.{QualifiedAttribute}
use Rattle.ex_tree.specs.declared.declaration.Constant.{Constant}
use Rattle.ex_tree.specs.declared.declaration.UnderlyingType.{UnderlyingType}
use Rattle.ex_tree.specs.declared.declaration.UnderlyingType.TheVariants.{Enumeration, Select, Data}
use Rattle.ex_tree.specs.declared.declaration.TypeDeclaration.{TypeDeclaration}
use Rattle.ex_forms.specs.Input.{Parser, Lexemes, sees, sees_second, peek, expect, enter, refuse, name, some, separated, optional}
use Rattle.ex_expressions.specs.Expressions.{expression, begins_expression}
use Rattle.ex_declaration_syntax.specs.DataTypes.{base_type}

-- so many parentheses, statements and types may be open at once
abbrev pub max_levels : ℕ
max_levels = 64

-- names between parentheses
unfoldable pub name_list : Parser (List Name)
name_list = do
  enter max_levels k.OpenParenthesis
  names ← separated k.Comma name
  expect k.CloseParenthesis
  pure names

-- ---- rules

abbrev pub begins_label : Lexemes → Bool
begins_label s = sees k.Identifier s && sees_second k.Colon s

unfoldable pub label : Parser Name
label = do
  found ← name
  expect k.Colon
  pure found

unfoldable pub domain_rule : Parser DomainRule
domain_rule = do
  label ← optional begins_label label
  condition ← expression max_levels
  expect k.Semicolon
  pure (record { label = label; condition = condition })

unfoldable pub where_clause : Parser (List DomainRule)
where_clause = do
  expect k.Where
  some begins_expression domain_rule

-- the clause, if it stands here
unfoldable pub where_rules : Parser (List DomainRule)
where_rules s = if sees k.Where s then where_clause s else pure [] s

-- ---- names of attributes

unfoldable pub qualified_attribute : Parser QualifiedAttribute
qualified_attribute = do
  expect k.Itself
  expect k.Backslash
  entity ← name
  expect k.Point
  attribute ← name
  pure (record { entity = entity; attribute = attribute })

abbrev pub begins_attribute : Lexemes → Bool
begins_attribute s = sees k.Identifier s || sees k.Itself s

abbrev pub attribute_by : TokenKind → Parser AttributeDeclaration
attribute_by k.Identifier = Own <$> name
attribute_by k.Itself = Qualified <$> qualified_attribute
attribute_by _ = refuse

unfoldable pub attribute_decl : Parser AttributeDeclaration
attribute_decl = peek >>= attribute_by

-- ---- constants

unfoldable pub constant_body : Parser Constant
constant_body = do
  name ← name
  expect k.Colon
  data_type ← base_type max_levels
  expect k.Becomes
  value ← expression max_levels
  expect k.Semicolon
  pure (record { name = name; data_type = data_type; value = value })

unfoldable pub constant_decl : Parser (List Constant)
constant_decl = do
  expect k.Constant
  constants ← some (sees k.Identifier) constant_body
  expect k.EndConstant
  expect k.Semicolon
  pure constants

-- the declaration, if it stands here
unfoldable pub constants : Parser (List Constant)
constants s = if sees k.Constant s then constant_decl s else pure [] s

-- ---- types

unfoldable pub enumeration_type : Parser UnderlyingType
enumeration_type = do
  expect k.Enumeration
  expect k.Of
  items ← name_list
  pure (Enumeration items)

unfoldable pub select_type : Parser UnderlyingType
select_type = do
  expect k.Select
  members ← name_list
  pure (Select members)

abbrev pub underlying_by : TokenKind → Parser UnderlyingType
underlying_by k.Enumeration = enumeration_type
underlying_by k.Select = select_type
underlying_by _ = Data <$> base_type max_levels

unfoldable pub underlying_type : Parser UnderlyingType
underlying_type = peek >>= underlying_by

unfoldable pub type_decl : Parser TypeDeclaration
type_decl = do
  expect k.Type
  name ← name
  expect k.Equals
  underlying ← underlying_type
  expect k.Semicolon
  domain_rules ← where_rules
  expect k.EndType
  expect k.Semicolon
  pure (record { name = name; underlying = underlying; domain_rules = domain_rules })
