-- A schema as it is evaluated (ISO 10303-11:1994, clause 9).
use Rattle.std.specs.Prelude.{ℕ, zero, ◌==◌, ◌+◌, List, [], ◌∷◌, ◌++◌, map, filter, length, Option, unwrap_or, slice_get}
use Rattle.std.specs.List.{flat_map, filter_map}
use Rattle.std.specs.Option.{option_map, option_map_or, option_to_list}
use Rattle.ex_attributes.specs.Attributes.{own, redeclaration, meant, same_place}
use Rattle.ex_named.specs.declared.declaration.NamedConstant.{NamedConstant}
use Rattle.ex_named.specs.declared.declaration.NamedDerived.{NamedDerived}
use Rattle.ex_named.specs.declared.declaration.NamedDomainRule.{NamedDomainRule}
use Rattle.ex_named.specs.declared.declaration.NamedEntity.{NamedEntity}
use Rattle.ex_named.specs.declared.declaration.NamedExplicit.{NamedExplicit}
use Rattle.ex_named.specs.declared.declaration.NamedFunction.{NamedFunction}
use Rattle.ex_named.specs.declared.declaration.NamedInverse.{NamedInverse}
use Rattle.ex_named.specs.declared.declaration.NamedLocal.{NamedLocal}
use Rattle.ex_named.specs.declared.declaration.NamedParameter.{NamedParameter}
use Rattle.ex_named.specs.declared.declaration.NamedRule.{NamedRule}
use Rattle.ex_named.specs.declared.declaration.NamedSchema.{NamedSchema}
use Rattle.ex_named.specs.declared.declaration.NamedType.{NamedType}
use Rattle.ex_named.specs.declared.expression.NamedDataType.{NamedDataType}
use Rattle.ex_named.specs.declared.expression.NamedExpression.{NamedExpression}
use Rattle.ex_named.specs.declared.reference.AttributePlace.{AttributePlace}
use Rattle.ex_named.specs.declared.reference.AttributeSort.TheVariants as sort
use Rattle.ex_named.specs.declared.reference.AttributeUse.{AttributeUse}
use Rattle.ex_named.specs.declared.statement.NamedStatement.{NamedStatement}
use Rattle.ex_slots.specs.Slots.{declared_by, derived_place}
use Rattle.ex_types.specs.Checked.{Checked, entity_names, type_names}
use Rattle.ex_types.specs.Declarations.{known, nowhere, of_type_number, of_entity, of_function, of_rule}
use Rattle.ex_typing.specs.Expressions.{TypingScope}
use Rattle.graphs.specs.Graphs.{family, numbers_from}
use Rattle.plain_data.specs.Numbers.{numbered}
use Rattle.rp_code.specs.declared.role.NamedRole.{NamedRole}
use Rattle.rp_code.specs.declared.role.Role.TheVariants as role
use Rattle.rp_meaning.specs.declared.schema.Algorithm.{Algorithm}
use Rattle.rp_meaning.specs.declared.schema.DefinedType.{DefinedType}
use Rattle.rp_meaning.specs.declared.schema.Derivation.{Derivation}
use Rattle.rp_meaning.specs.declared.schema.Entity.{Entity}
use Rattle.rp_meaning.specs.declared.schema.Explicit.{Explicit}
use Rattle.rp_meaning.specs.declared.schema.ExplicitAttribute.{ExplicitAttribute}
use Rattle.rp_meaning.specs.declared.schema.Function.{Function}
use Rattle.rp_meaning.specs.declared.schema.Given.{Given}
use Rattle.rp_meaning.specs.declared.schema.GlobalRule.{GlobalRule}
use Rattle.rp_meaning.specs.declared.schema.Initial.{Initial}
use Rattle.rp_meaning.specs.declared.schema.Inverse.{Inverse}
use Rattle.rp_meaning.specs.declared.schema.Redeclaration.{Redeclaration}
use Rattle.rp_meaning.specs.declared.schema.Schema.{Schema}
use Rattle.rp_code.specs.declared.tree.Expression.{Expression}
use Rattle.rp_meaning.specs.CompiledExpressions as expressions
use Rattle.rp_meaning.specs.CompiledExpressions.{Declared}
use Rattle.rp_meaning.specs.CompiledNames.{in_order, joined, own_rows, roles_of}
use Rattle.rp_meaning.specs.CompiledStatements.{statements}
use Rattle.rp_meaning.specs.CompiledTypes.{underlying, beneath, selects, choices}

-- ---- attributes

-- where no attribute is declared
abbrev pub nothing : AttributePlace
nothing = record { entity = zero; sort = sort.Explicit; place = zero }

-- the declaration that a name means; it means one in a schema that was checked
abbrev pub declaration : AttributeUse → AttributePlace
declaration x = unwrap_or (meant x.meaning) nothing

abbrev pub explicit_declaration : NamedExplicit → Explicit
explicit_declaration x = record { data_type = x.data_type; is_optional = x.optional }

-- the inherited attributes that are redeclared there
abbrev pub redeclarations_in : NamedExplicit → List Redeclaration
redeclarations_in x = map (λ r. record { attribute = declaration r.attribute; declaration = explicit_declaration x }) (filter_map redeclaration x.attributes)

abbrev pub inverse : NamedInverse → Inverse
inverse x = record { aggregate = x.aggregate; role = role.Of x.entity (declaration x.attribute ∷ []) }

-- ---- DERIVE

abbrev pub derivation_at : ℕ → ℕ → Derivation
derivation_at entity place = record { entity = entity; place = place }

-- what gives the attributes of an entity's own their values
abbrev pub own_derivation : ℕ → ℕ → NamedDerived → Option Derivation
own_derivation entity place x = option_map (λ name. derivation_at entity place) (own x.attribute)

abbrev pub own_derivations : ℕ → List NamedDerived → List Derivation
own_derivations entity list = filter_map (λ d. d) (numbered (own_derivation entity) list)

-- an inherited attribute, and what gives it its value
abbrev pub Rederived : Type 0
Rederived = AttributePlace × Derivation

abbrev pub rederived : ℕ → ℕ → NamedDerived → Option Rederived
rederived entity place x = option_map (λ attribute. (attribute, derivation_at entity place)) (derived_place x)

module _ (entities : List NamedEntity) (supertypes : List (List ℕ)) where
  -- how many entities stand above one, and itself
  abbrev pub depth : ℕ → ℕ
  depth entity = length (family supertypes entity)

  -- the entities, those with most ancestors first, and of several such in the order of their names
  abbrev pub deepest_first : List ℕ
  deepest_first = flat_map (λ above. filter (λ entity. depth entity + above == length supertypes) (in_order (entity_names entities))) (numbers_from zero (length supertypes))

  abbrev pub rederived_by : ℕ → List Rederived
  rederived_by entity = option_map_or (λ x. filter_map (λ d. d) (numbered (rederived entity) x.derived)) (slice_get entities entity) []

  -- what redeclares attributes in DERIVE: the first whose entity an instance has gives the value
  abbrev pub all_rederived : List Rederived
  all_rederived = flat_map rederived_by deepest_first

  abbrev pub derivations : AttributePlace → List Derivation
  derivations attribute = map (λ d. d.1) (filter (λ d. same_place d.0 attribute) all_rederived)

  abbrev pub explicit : ℕ → ℕ → NamedExplicit → ExplicitAttribute
  explicit entity place x = record { declaration = explicit_declaration x; derivations = derivations (record { entity = entity; sort = sort.Explicit; place = place }) }

  abbrev pub derived : ℕ → ℕ → Derivation → List Derivation
  derived entity place itself = derivations (record { entity = entity; sort = sort.Derived; place = place }) ++ itself ∷ []

-- ---- variables

-- the declared types of the variables, in the order of their slots
abbrev pub of_parameters : List NamedParameter → List NamedDataType
of_parameters = flat_map (λ p. map (λ n. p.data_type) p.names)

abbrev pub of_locals : List NamedLocal → List NamedDataType
of_locals = flat_map (λ l. map (λ n. l.data_type) l.names)

-- ---- what it is compiled by

module _ (schema : NamedSchema) where
  abbrev pub entity_name : NamedEntity → List ℕ
  entity_name x = joined schema.name.text x.name.text

  abbrev pub supertypes : List (List ℕ)
  supertypes = (known schema).attributes.supertypes

  abbrev pub entity_order : List ℕ
  entity_order = in_order (entity_names schema.entities)

  abbrev pub roles : List NamedRole
  roles = flat_map (λ r. r) (numbered (λ number x. roles_of schema.entities supertypes number (entity_name x)) schema.entities)

  abbrev pub declared : Declared
  declared = record { known = known schema; attributes = flat_map (own_rows schema.entities) entity_order; roles = roles }

  abbrev pub expression : TypingScope → NamedExpression → Expression
  expression = expressions.expression declared

  -- what gives a value to a constant, an attribute or variables of this type
  abbrev pub given : TypingScope → NamedDataType → NamedExpression → Given
  given s data_type value = record { data_type = data_type; value = expression s value }

  abbrev pub conditions : TypingScope → List NamedDomainRule → List Expression
  conditions s = map (λ x. expression s x.condition)

  -- ---- defined types, constants

  abbrev pub defined_type : ℕ → NamedType → DefinedType
  defined_type number x = record {
    name = joined schema.name.text x.name.text;
    beneath = beneath schema.types number;
    underlying = underlying schema.types number;
    selects = selects schema.types number;
    choices = choices schema.types number;
    domain_rules = conditions (of_type_number number) x.domain_rules;
  }

  abbrev pub constant : NamedConstant → Given
  constant x = given nowhere x.data_type x.value

  -- ---- entities

  abbrev pub entity : ℕ → NamedEntity → Entity
  entity number x = record {
    name = entity_name x;
    explicit = numbered (λ place d. explicit schema.entities supertypes number place d.1) (declared_by x);
    redeclarations = flat_map redeclarations_in x.explicit;
    derived = numbered (derived schema.entities supertypes number) (own_derivations number x.derived);
    derivations = map (λ d. given (of_entity number) d.data_type d.value) x.derived;
    inverse = map inverse x.inverse;
    unique_rules = map (λ rule. map declaration rule.attributes) x.unique_rules;
    domain_rules = conditions (of_entity number) x.domain_rules;
  }

  -- ---- functions and rules

  -- the locals from this slot on that have an initial value
  abbrev pub initial_from : TypingScope → ℕ → List NamedLocal → List Initial
  initial_from s slot [] = []
  initial_from s slot (x ∷ others) =
      option_to_list (option_map (λ value. record { slot = slot; count = length x.names; given = given s x.data_type value }) x.value) ++ initial_from s (slot + length x.names) others

  -- locals behind these parameters, and statements
  abbrev pub algorithm : TypingScope → List NamedDataType → List NamedLocal → List NamedStatement → Algorithm
  algorithm s parameters locals list = record {
    locals = length (of_locals locals);
    initial = initial_from s (length parameters) locals;
    statements = statements expression (parameters ++ of_locals locals) s list;
  }

  abbrev pub function : NamedFunction → Function
  function x = record {
    parameters = of_parameters x.parameters;
    result = x.result;
    algorithm = algorithm (of_function x) (of_parameters x.parameters) x.locals x.statements;
  }

  abbrev pub rule : NamedRule → GlobalRule
  rule x = record { algorithm = algorithm (of_rule x) [] x.locals x.statements; domain_rules = conditions (of_rule x) x.domain_rules }

-- ---- the whole

abbrev pub compiled_by : NamedSchema → Schema
compiled_by schema = record {
  types = numbered (defined_type schema) schema.types;
  entities = numbered (entity schema) schema.entities;
  constants = map (constant schema) schema.constants;
  functions = map (function schema) schema.functions;
  rules = map (rule schema) schema.rules;
  roles = roles schema;
  type_order = in_order (type_names schema.types);
  entity_order = entity_order schema;
  rule_order = in_order (map (λ x. x.name.text) schema.rules);
}

-- what evaluation looks at of a schema that was checked
unfoldable pub compiled : Checked → Schema
compiled schema = compiled_by schema.named.schema
