-- Constants, functions and rules with their names bound (ISO 10303-11:1994, 9.4 to 9.6).
use Rattle.std.specs.Prelude.{ℕ, false, List, [], ◌∷◌, ◌++◌, map}
use Rattle.std.specs.BTreeSet.{insert_key}
use Rattle.std.specs.List.{filter_map, flat_map}
use Rattle.std.specs.Ordering.{nat_cmp}
use Rattle.ex_tree.specs.declared.expression.Name.{Name}
use Rattle.ex_tree.specs.declared.declaration.Constant.{Constant}
use Rattle.ex_tree.specs.declared.declaration.Function.{Function}
use Rattle.ex_tree.specs.declared.declaration.LocalVariable.{LocalVariable}
use Rattle.ex_tree.specs.declared.declaration.Parameter.{Parameter}
use Rattle.ex_tree.specs.declared.declaration.Rule.{Rule}
use Rattle.ex_named.specs.declared.declaration.NamedConstant.{NamedConstant}
use Rattle.ex_named.specs.declared.declaration.NamedFunction.{NamedFunction}
use Rattle.ex_named.specs.declared.declaration.NamedLocal.{NamedLocal}
use Rattle.ex_named.specs.declared.declaration.NamedParameter.{NamedParameter}
use Rattle.ex_named.specs.declared.declaration.NamedRule.{NamedRule}
use Rattle.ex_named.specs.Outcomes.{Outcome, given, both, each, optional}
use Rattle.ex_named.specs.Scopes.{Declarations, Scope, and_then, as_entity, declared, entity}
use Rattle.ex_named.specs.DataTypes.{data_type}
use Rattle.ex_named.specs.Expressions.{expression}
use Rattle.ex_named.specs.Statements.{statements}
use Rattle.ex_declarations.specs.Declared.{once}
use Rattle.ex_bind.specs.Rules.{domain_rules, labels, scope_of}

-- where a function's or rule's statements stand: these variables, and the entities that it is for
abbrev pub body_scope : List Name → List ℕ → Scope
body_scope variables populations = record {
  nested = [];
  frame = map (λ n. n.text) variables;
  has_self = false;
  family = [];
  populations = populations;
}

-- each number once, in ascending order
abbrev pub in_order : List ℕ → List ℕ
in_order [] = []
in_order (n ∷ others) = insert_key nat_cmp (in_order others) n

abbrev pub parameter_names : List Parameter → List Name
parameter_names parameters = flat_map (λ p. p.names) parameters

abbrev pub local_names : List LocalVariable → List Name
local_names locals = flat_map (λ l. l.names) locals

module _ (schema : Declarations) where
  unfoldable pub constant : Constant → Outcome NamedConstant
  constant c = given (λ p. record { name = c.name; data_type = p.0; value = p.1 })
      (both (data_type schema c.data_type) (expression schema (scope_of false []) c.value))

  unfoldable pub parameter : Parameter → Outcome NamedParameter
  parameter x = given (λ found. record { names = x.names; data_type = found }) (data_type schema x.data_type)

  unfoldable pub local_variable : Scope → LocalVariable → Outcome NamedLocal
  local_variable s x = given (λ p. record { names = x.names; data_type = p.0; value = p.1 })
      (both (data_type schema x.data_type) (optional (expression schema s) x.value))

  -- ---- functions: parameters and locals are one scope

  abbrev pub function_names : Function → List Name
  function_names f = parameter_names f.head.parameters ++ local_names f.locals

  unfoldable pub function_in : Scope → Function → Outcome NamedFunction
  function_in s f = given
      (λ p. record { name = f.head.name; parameters = p.0.0; result = p.0.1; locals = p.1.0; statements = p.1.1 })
      (both (both (each parameter f.head.parameters) (data_type schema f.head.result)) (both (each (local_variable s) f.locals) (statements schema s f.statements)))

  unfoldable pub named_function : Function → Outcome NamedFunction
  named_function f = given (λ p. p.1) (both (once (function_names f)) (function_in (body_scope (function_names f) []) f))

  -- ---- rules: locals and labels are one scope, and the labels hide nothing

  abbrev pub entities_of : List Name → List ℕ
  entities_of names = filter_map (λ n. and_then (declared schema n.text) (as_entity schema)) names

  -- the entities that FOR lists
  abbrev pub populations : List Name → List ℕ
  populations names = in_order (entities_of names)

  unfoldable pub rule_in : Scope → Rule → Outcome NamedRule
  rule_in s r = given
      (λ p. record { name = r.head.name; entities = p.0.0; locals = p.0.1; statements = p.1.0; domain_rules = p.1.1 })
      (both (both (each (entity schema) r.head.entities) (each (local_variable s) r.locals)) (both (statements schema s r.statements) (domain_rules schema s r.domain_rules)))

  unfoldable pub named_rule : Rule → Outcome NamedRule
  named_rule r = given (λ p. p.1) (both (once (local_names r.locals ++ labels (λ x. x.label) r.domain_rules))
      (rule_in (body_scope (local_names r.locals) (populations r.head.entities)) r))
