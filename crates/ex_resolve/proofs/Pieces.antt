-- A declaration that is accepted is accepted in its parts.
use Rattle.std.proofs.Common.{◌≡◌, ℕ, true, false, List, [], Ok, ap, subst, ◌∙◌}
use Rattle.ex_tree.specs.declared.declaration.Constant.{Constant}
use Rattle.ex_tree.specs.declared.declaration.Entity.{Entity}
use Rattle.ex_tree.specs.declared.declaration.Function.{Function}
use Rattle.ex_tree.specs.declared.declaration.Rule.{Rule}
use Rattle.ex_tree.specs.declared.declaration.TypeDeclaration.{TypeDeclaration}
use Rattle.ex_named.specs.declared.declaration.NamedConstant.{NamedConstant}
use Rattle.ex_named.specs.declared.declaration.NamedEntity.{NamedEntity}
use Rattle.ex_named.specs.declared.declaration.NamedFunction.{NamedFunction}
use Rattle.ex_named.specs.declared.declaration.NamedRule.{NamedRule}
use Rattle.ex_named.specs.declared.declaration.NamedType.{NamedType}
use Rattle.ex_named.specs.DataTypes.{data_type}
use Rattle.ex_named.specs.Expressions.{expression}
use Rattle.ex_named.specs.Outcomes.{each, optional}
use Rattle.ex_named.specs.Scopes.{Declarations, Scope, entity}
use Rattle.ex_named.specs.Statements.{statements}
use Rattle.graphs.specs.Graphs.{family}
use Rattle.ex_bind.specs.Rules.{domain_rules, scope_of}
use Rattle.ex_bind_algorithms.specs.Algorithms.{body_scope, constant, function_in, function_names, local_names, local_variable, named_function, named_rule, parameter, populations, rule_in}
use Rattle.ex_bind_entities.specs.Entities.{derived_attribute, entity_attributes, entity_head, entity_rules, explicit_attribute, inverse_attribute, make_entity, named_entity, named_type, supertype, underlying, unique_rule}
use Rattle.ex_resolve.proofs.Wholes.{given_ok, both_ok}

module _ (schema : Declarations) where
  pub record ConstantParts (c : Constant) (y : NamedConstant) : Type 0 where
    pub data_type : data_type schema c.data_type ≡ Ok y.data_type
    pub value : expression schema (scope_of false []) c.value ≡ Ok y.value

  pub constant_parts : (c : Constant) (y : NamedConstant) → constant schema c ≡ Ok y → ConstantParts c y
  unfolding constant
  constant_parts c y h =
      let whole = given_ok _ _ y h in
      let parts = both_ok _ _ whole.0 whole.1.0 in
      let is : ConstantParts c (record { name = c.name; data_type = whole.0.0; value = whole.0.1 }) = record { data_type = parts.0; value = parts.1 } in
      subst (ConstantParts c) whole.1.1 is

  pub record TypeParts (x : TypeDeclaration) (y : NamedType) : Type 0 where
    pub underlying : underlying schema [] x.underlying ≡ Ok y.underlying
    pub domain_rules : domain_rules schema (scope_of true []) x.domain_rules ≡ Ok y.domain_rules

  pub type_parts : (held : List (List ℕ)) (k : ℕ) (x : TypeDeclaration) (y : NamedType) → named_type schema [] held k x ≡ Ok y → TypeParts x y
  unfolding named_type
  type_parts held k x y h =
      let whole = given_ok _ _ y h in
      let parts = both_ok _ _ whole.0 whole.1.0 in
      let body = both_ok _ _ whole.0.1 parts.1 in
      let is : TypeParts x (record { name = x.name; underlying = whole.0.1.0; domain_rules = whole.0.1.1 }) = record { underlying = body.0; domain_rules = body.1 } in
      subst (TypeParts x) whole.1.1 is

  -- ---- entities

  module _ (graph : List (List ℕ)) (k : ℕ) where
    pub record EntityParts (e : Entity) (y : NamedEntity) : Type 0 where
      pub constraint : optional (supertype schema graph) e.head.constraint ≡ Ok y.constraint
      pub supertypes : each (entity schema) e.head.supertypes ≡ Ok y.supertypes
      pub explicit : each (explicit_attribute schema graph k) e.body.explicit ≡ Ok y.explicit
      pub derived : each (derived_attribute schema graph k) e.body.derived ≡ Ok y.derived
      pub inverse : each (inverse_attribute schema graph) e.body.inverse ≡ Ok y.inverse
      pub unique_rules : each (unique_rule schema graph k) e.body.unique_rules ≡ Ok y.unique_rules
      pub domain_rules : domain_rules schema (scope_of true (family graph k)) e.body.domain_rules ≡ Ok y.domain_rules

    pub entity_parts : (e : Entity) (y : NamedEntity) → named_entity schema graph k e ≡ Ok y → EntityParts e y
    unfolding named_entity entity_head entity_attributes entity_rules
    entity_parts e y h =
        let whole = given_ok _ _ y h in
        let p = whole.0.1 in
        let all = both_ok _ _ p (both_ok _ _ whole.0 whole.1.0).1 in
        let pair = given_ok _ _ p.0 all.0 in
        let head = both_ok _ _ pair.0.1 (both_ok _ _ pair.0 pair.1.0).1 in
        let listed : pair.0.1 ≡ p.0 = pair.1.1 in
        let body = both_ok _ _ p.1 all.1 in
        let attributes = both_ok _ _ p.1.0 body.0 in
        let own = both_ok _ _ p.1.0.0 attributes.0 in
        let rules = both_ok _ _ p.1.1 body.1 in
        let is : EntityParts e (make_entity schema graph e p) = record {
          constraint = head.0 ∙ ap (λ q. Ok q.0) listed;
          supertypes = head.1 ∙ ap (λ q. Ok q.1) listed;
          explicit = own.0;
          derived = own.1;
          inverse = attributes.1;
          unique_rules = rules.0;
          domain_rules = rules.1;
        } in
        subst (EntityParts e) whole.1.1 is

  -- ---- functions and rules

  pub record FunctionParts (s : Scope) (f : Function) (y : NamedFunction) : Type 0 where
    pub parameters : each (parameter schema) f.head.parameters ≡ Ok y.parameters
    pub result : data_type schema f.head.result ≡ Ok y.result
    pub locals : each (local_variable schema s) f.locals ≡ Ok y.locals
    pub statements : statements schema s f.statements ≡ Ok y.statements

  pub function_parts : (f : Function) (y : NamedFunction) → named_function schema f ≡ Ok y → FunctionParts (body_scope (function_names schema f) []) f y
  unfolding named_function function_in
  function_parts f y h =
      let whole = given_ok _ _ y h in
      let found = given_ok _ _ whole.0.1 (both_ok _ _ whole.0 whole.1.0).1 in
      let p = found.0 in
      let parts = both_ok _ _ p found.1.0 in
      let head = both_ok _ _ p.0 parts.0 in
      let body = both_ok _ _ p.1 parts.1 in
      let is : FunctionParts (body_scope (function_names schema f) []) f (record { name = f.head.name; parameters = p.0.0; result = p.0.1; locals = p.1.0; statements = p.1.1 }) =
      record { parameters = head.0; result = head.1; locals = body.0; statements = body.1 } in
      subst (FunctionParts (body_scope (function_names schema f) []) f) (found.1.1 ∙ whole.1.1) is

  pub record RuleParts (s : Scope) (x : Rule) (y : NamedRule) : Type 0 where
    pub entities : each (entity schema) x.head.entities ≡ Ok y.entities
    pub locals : each (local_variable schema s) x.locals ≡ Ok y.locals
    pub statements : statements schema s x.statements ≡ Ok y.statements
    pub domain_rules : domain_rules schema s x.domain_rules ≡ Ok y.domain_rules

  abbrev pub rule_scope : Rule → Scope
  rule_scope x = body_scope (local_names x.locals) (populations schema x.head.entities)

  pub rule_parts : (x : Rule) (y : NamedRule) → named_rule schema x ≡ Ok y → RuleParts (rule_scope x) x y
  unfolding named_rule rule_in
  rule_parts x y h =
      let whole = given_ok _ _ y h in
      let found = given_ok _ _ whole.0.1 (both_ok _ _ whole.0 whole.1.0).1 in
      let p = found.0 in
      let parts = both_ok _ _ p found.1.0 in
      let head = both_ok _ _ p.0 parts.0 in
      let body = both_ok _ _ p.1 parts.1 in
      let is : RuleParts (rule_scope x) x (record { name = x.head.name; entities = p.0.0; locals = p.0.1; statements = p.1.0; domain_rules = p.1.1 }) =
      record { entities = head.0; locals = head.1; statements = body.0; domain_rules = body.1 } in
      subst (RuleParts (rule_scope x) x) (found.1.1 ∙ whole.1.1) is
