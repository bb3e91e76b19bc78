-- Declarations as they are evaluated, by what expressions are compiled by.
use Rattle.std.specs.Prelude.{ℕ, ◌+◌, List, [], ◌∷◌, ◌++◌, map, length, option_map}
use Rattle.std.specs.List.{flat_map}
use Rattle.std.specs.Option.{option_to_list}
use Rattle.ex_named.specs.declared.declaration.NamedConstant.{NamedConstant}
use Rattle.ex_named.specs.declared.declaration.NamedDerived.{NamedDerived}
use Rattle.ex_named.specs.declared.declaration.NamedDomainRule.{NamedDomainRule}
use Rattle.ex_named.specs.declared.declaration.NamedEntity.{NamedEntity}
use Rattle.ex_named.specs.declared.declaration.NamedExplicit.{NamedExplicit}
use Rattle.ex_named.specs.declared.declaration.NamedFunction.{NamedFunction}
use Rattle.ex_named.specs.declared.declaration.NamedLocal.{NamedLocal}
use Rattle.ex_named.specs.declared.declaration.NamedRule.{NamedRule}
use Rattle.ex_named.specs.declared.declaration.NamedType.{NamedType}
use Rattle.ex_named.specs.declared.expression.NamedDataType.{NamedDataType}
use Rattle.ex_named.specs.declared.expression.NamedExpression.{NamedExpression}
use Rattle.ex_named.specs.declared.reference.AttributeSort.TheVariants as sort
use Rattle.ex_named.specs.declared.statement.NamedStatement.{NamedStatement}
use Rattle.ex_slots.specs.Slots.{declared_by}
use Rattle.ex_types.specs.Declarations.{nowhere, of_type_number, of_entity, of_function, of_rule}
use Rattle.ex_typing.specs.Expressions.{TypingScope}
use Rattle.plain_data.specs.Numbers.{numbered}
use Rattle.rp_meaning.specs.declared.schema.Algorithm.{Algorithm}
use Rattle.rp_meaning.specs.declared.schema.DefinedType.{DefinedType}
use Rattle.rp_meaning.specs.declared.schema.Derivation.{Derivation}
use Rattle.rp_meaning.specs.declared.schema.Entity.{Entity}
use Rattle.rp_meaning.specs.declared.schema.ExplicitAttribute.{ExplicitAttribute}
use Rattle.rp_meaning.specs.declared.schema.Function.{Function}
use Rattle.rp_meaning.specs.declared.schema.Given.{Given}
use Rattle.rp_meaning.specs.declared.schema.GlobalRule.{GlobalRule}
use Rattle.rp_meaning.specs.declared.schema.Initial.{Initial}
use Rattle.rp_code.specs.declared.tree.Expression.{Expression}
use Rattle.rp_meaning.specs.Compiled as compiled
use Rattle.rp_meaning.specs.Compiled.{Rederived, explicit_declaration, of_parameters, of_locals, own_derivations, redeclarations_in}
use Rattle.rp_meaning.specs.CompiledExpressions as expressions
use Rattle.rp_meaning.specs.CompiledExpressions.{Declared}
use Rattle.rp_meaning.specs.CompiledNames.{joined}
use Rattle.rp_meaning.specs.CompiledStatements.{statements}
use Rattle.rp_meaning.specs.CompiledTypes as types_of
use Rattle.rp_compile_names.specs.Found.{derivations}

-- ---- attributes

abbrev pub explicit : List Rederived → ℕ → ℕ → NamedExplicit → ExplicitAttribute
explicit rederived entity place x = record { declaration = explicit_declaration x; derivations = derivations rederived (record { entity = entity; sort = sort.Explicit; place = place }) }

abbrev pub derived : List Rederived → ℕ → ℕ → Derivation → List Derivation
derived rederived entity place itself = derivations rederived (record { entity = entity; sort = sort.Derived; place = place }) ++ itself ∷ []

module _ (schema : Declared) where
  abbrev pub given : TypingScope → NamedDataType → NamedExpression → Given
  given s data_type value = record { data_type = data_type; value = expressions.expression schema s value }

  abbrev pub conditions : TypingScope → List NamedDomainRule → List Expression
  conditions s = map (λ x. expressions.expression schema s x.condition)

  abbrev pub constant : NamedConstant → Given
  constant x = given nowhere x.data_type x.value

  -- ---- defined types

  abbrev pub type_rules : ℕ → List NamedDomainRule → List Expression
  type_rules number = conditions (of_type_number number)

  abbrev pub defined_type : List ℕ → List NamedType → ℕ → NamedType → DefinedType
  defined_type schema_name types number x = record {
    name = joined schema_name x.name.text;
    beneath = types_of.beneath types number;
    underlying = types_of.underlying types number;
    selects = types_of.selects types number;
    choices = types_of.choices types number;
    domain_rules = type_rules number x.domain_rules;
  }

  -- ---- entities

  abbrev pub derivations_of : ℕ → List NamedDerived → List Given
  derivations_of number = map (λ d. given (of_entity number) d.data_type d.value)

  abbrev pub entity_rules : ℕ → List NamedDomainRule → List Expression
  entity_rules number = conditions (of_entity number)

  -- given what redeclares its attributes in DERIVE
  abbrev pub entity : List ℕ → List Rederived → ℕ → NamedEntity → Entity
  entity schema_name rederived number x = record {
    name = joined schema_name x.name.text;
    explicit = numbered (λ place d. explicit rederived number place d.1) (declared_by x);
    redeclarations = flat_map redeclarations_in x.explicit;
    derived = numbered (derived rederived number) (own_derivations number x.derived);
    derivations = derivations_of number x.derived;
    inverse = map compiled.inverse x.inverse;
    unique_rules = map (λ rule. map compiled.declaration rule.attributes) x.unique_rules;
    domain_rules = entity_rules number x.domain_rules;
  }

  -- ---- functions and rules

  abbrev pub initial : TypingScope → ℕ → NamedLocal → List Initial
  initial s slot x = option_to_list (option_map (λ value. record { slot = slot; count = length x.names; given = given s x.data_type value }) x.value)

  abbrev pub initial_from : TypingScope → ℕ → List NamedLocal → List Initial
  initial_from s slot [] = []
  initial_from s slot (x ∷ others) = initial s slot x ++ initial_from s (slot + length x.names) others

  -- so many locals behind so many parameters, and statements, where variables are declared with these types
  abbrev pub algorithm_by : TypingScope → List NamedDataType → ℕ → ℕ → List NamedLocal → List NamedStatement → Algorithm
  algorithm_by s types parameters count locals list = record {
    locals = count;
    initial = initial_from s parameters locals;
    statements = statements (expressions.expression schema) types s list;
  }

  abbrev pub function_body : NamedFunction → Algorithm
  function_body x = algorithm_by (of_function x) (of_parameters x.parameters ++ of_locals x.locals) (length (of_parameters x.parameters)) (length (of_locals x.locals)) x.locals x.statements

  abbrev pub function : NamedFunction → Function
  function x = record { parameters = of_parameters x.parameters; result = x.result; algorithm = function_body x }

  abbrev pub rule : NamedRule → GlobalRule
  rule x = record { algorithm = algorithm_by (of_rule x) (of_locals x.locals) 0 (length (of_locals x.locals)) x.locals x.statements; domain_rules = conditions (of_rule x) x.domain_rules }
