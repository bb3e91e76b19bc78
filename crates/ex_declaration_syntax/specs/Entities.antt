-- Entities (ISO 10303-11:1994, 9.2).
use Rattle.std.specs.Prelude.{Bool, true, false, ◌-◌, List, [], Option, Some, None, if◌then◌else◌}
use Rattle.text_forms.specs.Forms.{◌>>=◌, ◌>>◌, pure}
use Rattle.ex_tree.specs.declared.kind.TokenKind.{TokenKind}
use Rattle.ex_tree.specs.declared.kind.TokenKind.TheVariants as k
use Rattle.ex_tree.specs.declared.expression.Name.{Name}
use Rattle.ex_tree.specs.declared.declaration.ExplicitAttribute.{ExplicitAttribute}
use Rattle.ex_tree.specs.declared.declaration.DerivedAttribute.{DerivedAttribute}
use Rattle.ex_tree.specs.declared.declaration.SetOrBag.{SetOrBag}
use Rattle.ex_tree.specs.declared.declaration.SetOrBag.TheVariants.{Set, Bag}
use Rattle.ex_tree.specs.declared.declaration.InverseAggregate.{InverseAggregate}
use Rattle.ex_tree.specs.declared.declaration.InverseAttribute.{InverseAttribute}
use Rattle.ex_tree.specs.declared.declaration.UniqueRule.{UniqueRule}
use Rattle.ex_tree.specs.declared.declaration.SupertypeExpression.{SupertypeExpression}
use Rattle.ex_tree.specs.declared.declaration.EntityHead.{EntityHead}
use Rattle.ex_tree.specs.declared.declaration.EntityBody.{EntityBody}
use Rattle.ex_tree.specs.declared.declaration.Entity.{Entity}
use Rattle.ex_forms.specs.Input.{Parser, Lexemes, sees, peek, eat, expect, enter, name, many, some, separated, optional}
use Rattle.ex_expressions.specs.Expressions.{expression}
use Rattle.ex_declaration_syntax.specs.DataTypes.{base_type, optional_bounds}
use Rattle.ex_declaration_syntax.specs.Supertypes.{supertype_expression}
use Rattle.ex_declaration_syntax.specs.Declarations.{max_levels, name_list, begins_label, label, begins_attribute, attribute_decl, where_rules}

-- ---- attributes

unfoldable pub explicit_attr : Parser ExplicitAttribute
explicit_attr = do
  attributes ← separated k.Comma attribute_decl
  expect k.Colon
  optional ← eat k.Optional
  data_type ← base_type max_levels
  expect k.Semicolon
  pure (record { attributes = attributes; optional = optional; data_type = data_type })

unfoldable pub derived_attr : Parser DerivedAttribute
derived_attr = do
  attribute ← attribute_decl
  expect k.Colon
  data_type ← base_type max_levels
  expect k.Becomes
  value ← expression max_levels
  expect k.Semicolon
  pure (record { attribute = attribute; data_type = data_type; value = value })

abbrev pub set_or_bag : TokenKind → Option SetOrBag
set_or_bag k.Set = Some Set
set_or_bag k.Bag = Some Bag
set_or_bag _ = None

-- SET or BAG, its bounds, and OF; it is open up to the entity's name
abbrev pub aggregate_by : TokenKind → Option SetOrBag → Parser (Option InverseAggregate)
aggregate_by word None = pure None
aggregate_by word (Some kind) = do
  enter max_levels word
  bounds ← optional_bounds (max_levels - 1)
  expect k.Of
  pure (Some (record { kind = kind; bounds = bounds }))

unfoldable pub inverse_aggregate : Parser (Option InverseAggregate)
inverse_aggregate = peek >>= (λ word. aggregate_by word (set_or_bag word))

unfoldable pub inverse_attr : Parser InverseAttribute
inverse_attr = do
  name' ← name
  expect k.Colon
  aggregate ← inverse_aggregate
  entity ← name
  expect k.For
  attribute ← name
  expect k.Semicolon
  pure (record { name = name'; aggregate = aggregate; entity = entity; attribute = attribute })

-- ---- rules

unfoldable pub unique_rule : Parser UniqueRule
unique_rule = do
  label ← optional begins_label label
  attributes ← separated k.Comma attribute_decl
  expect k.Semicolon
  pure (record { label = label; attributes = attributes })

-- ---- clauses, each if its word stands next

-- what stands behind the word
abbrev pub clause : {A : Type 0} → TokenKind → (Lexemes → Bool) → Parser A → Parser (List A)
clause word begins item s = if sees word s then (expect word >> some begins item) s else pure [] s

unfoldable pub entity_body : Parser EntityBody
entity_body = do
  explicit ← many begins_attribute explicit_attr
  derived ← clause k.Derive begins_attribute derived_attr
  inverse ← clause k.Inverse (sees k.Identifier) inverse_attr
  unique_rules ← clause k.Unique begins_attribute unique_rule
  domain_rules ← where_rules
  pure (record { explicit = explicit; derived = derived; inverse = inverse; unique_rules = unique_rules; domain_rules = domain_rules })

-- ---- the head

unfoldable pub subtype_constraint : Parser SupertypeExpression
subtype_constraint = do
  expect k.Of
  enter max_levels k.OpenParenthesis
  found ← supertype_expression (max_levels - 1)
  expect k.CloseParenthesis
  pure found

unfoldable pub supertype_rule : Parser SupertypeExpression
supertype_rule = do
  expect k.Supertype
  subtype_constraint

-- after ABSTRACT: SUPERTYPE, with OF or alone
unfoldable pub abstract_supertype : Parser (Option SupertypeExpression)
abstract_supertype = do
  expect k.Supertype
  optional (sees k.Of) subtype_constraint

abbrev pub supertype_constraint : Bool → Parser (Option SupertypeExpression)
supertype_constraint true = abstract_supertype
supertype_constraint false = optional (sees k.Supertype) supertype_rule

unfoldable pub subtype_declaration : Parser (List Name)
subtype_declaration = do
  expect k.Subtype
  expect k.Of
  name_list

-- the declaration, if it stands here
unfoldable pub supertypes : Parser (List Name)
supertypes s = if sees k.Subtype s then subtype_declaration s else pure [] s

unfoldable pub entity_head : Parser EntityHead
entity_head = do
  expect k.Entity
  name' ← name
  is_abstract ← eat k.Abstract
  constraint ← supertype_constraint is_abstract
  supertypes' ← supertypes
  expect k.Semicolon
  pure (record { name = name'; is_abstract = is_abstract; constraint = constraint; supertypes = supertypes' })

unfoldable pub entity_decl : Parser Entity
entity_decl = do
  head ← entity_head
  body ← entity_body
  expect k.EndEntity
  expect k.Semicolon
  pure (record { head = head; body = body })
