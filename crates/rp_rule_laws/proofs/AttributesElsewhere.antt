-- Constants, types, functions and rules use no attribute by its name alone.
use Rattle.std.proofs.Common.{◌≡◌, ℕ, zero, true, false, List, [], Ok, refl, sym, ap, ◌∙◌}
use Rattle.std.specs.List.{list_all}
use Rattle.ex_bind.specs.Rules.{domain_rule, domain_rules, scope_of}
use Rattle.ex_bind_algorithms.specs.Algorithms.{body_scope, constant, function_names, local_variable, named_function, named_rule}
use Rattle.ex_bind_entities.specs.Entities.{named_type}
use Rattle.ex_declarations.specs.Declared.{declarations, functions, rules, type_graph, types}
use Rattle.ex_named.specs.declared.declaration.NamedConstant.{NamedConstant}
use Rattle.ex_named.specs.declared.declaration.NamedDomainRule.{NamedDomainRule}
use Rattle.ex_named.specs.declared.declaration.NamedFunction.{NamedFunction}
use Rattle.ex_named.specs.declared.declaration.NamedLocal.{NamedLocal}
use Rattle.ex_named.specs.declared.declaration.NamedRule.{NamedRule}
use Rattle.ex_named.specs.declared.declaration.NamedSchema.{NamedSchema}
use Rattle.ex_named.specs.declared.declaration.NamedType.{NamedType}
use Rattle.ex_named.specs.Expressions.{expression}
use Rattle.ex_named.specs.Scopes.{Declarations, Scope}
use Rattle.ex_resolve.proofs.Accepted.{Parts, parts_of}
use Rattle.ex_resolve.proofs.Pieces.{constant_parts, function_parts, rule_parts, rule_scope, type_parts}
use Rattle.ex_resolve.proofs.Tables.{gave_types}
use Rattle.ex_resolve.proofs.Truths.{all_gave, all_gave_numbered, true_and}
use Rattle.ex_resolve.proofs.Wholes.{both_ok, each_ok, given_ok}
use Rattle.ex_resolve.specs.Schemas.{IsResolved, Resolved, named_functions, named_rules, named_schema, resolved}
use Rattle.ex_tree.specs.declared.declaration.Constant.{Constant}
use Rattle.ex_tree.specs.declared.declaration.DomainRule.{DomainRule}
use Rattle.ex_tree.specs.declared.declaration.Function.{Function}
use Rattle.ex_tree.specs.declared.declaration.LocalVariable.{LocalVariable}
use Rattle.ex_tree.specs.declared.declaration.Rule.{Rule}
use Rattle.ex_tree.specs.declared.declaration.Schema.{Schema}
use Rattle.ex_tree.specs.declared.declaration.TypeDeclaration.{TypeDeclaration}
use Rattle.rp_rule_laws.proofs.AttributesBound.{expression_in}
use Rattle.rp_rule_laws.proofs.AttributesStatements.{optional_in, statements_in}
use Rattle.rp_rule_laws.specs.Attributes as law
use Rattle.rp_rule_laws.specs.Attributes.{AttributesMeanOne}

module _ (schema : Declarations) where
  domain_rule_one : (s : Scope) → s.family ≡ [] → (x : DomainRule) (y : NamedDomainRule) → domain_rule schema s x ≡ Ok y → law.expression y.condition ≡ true
  unfolding domain_rule
  domain_rule_one s w x y h =
      let found = given_ok _ _ y h in
      ap (λ (z : NamedDomainRule). law.expression z.condition) (sym found.1.1) ∙ expression_in schema x.condition s w found.0 found.1.0

  domain_rules_one : (s : Scope) → s.family ≡ [] → (xs : List DomainRule) (ys : List NamedDomainRule) → domain_rules schema s xs ≡ Ok ys → law.domain_rules ys ≡ true
  domain_rules_one s w xs ys h = all_gave (domain_rule schema s) (λ (y : NamedDomainRule). law.expression y.condition) (domain_rule_one s w) xs ys (each_ok (domain_rule schema s) xs ys h)

  local_one : (s : Scope) → s.family ≡ [] → (x : LocalVariable) (y : NamedLocal) → local_variable schema s x ≡ Ok y → law.local y ≡ true
  unfolding local_variable
  local_one s w x y h =
      let found = given_ok _ _ y h in
      let parts = both_ok _ _ found.0 found.1.0 in
      ap law.local (sym found.1.1) ∙ optional_in (expression schema s) law.expression (λ a b. expression_in schema a s w b) x.value found.0.1 parts.1

  constant_one : (x : Constant) (y : NamedConstant) → constant schema x ≡ Ok y → law.constant y ≡ true
  constant_one x y h = expression_in schema x.value (scope_of false []) refl y.value (constant_parts schema x y h).value

  type_one : (held : List (List ℕ)) (k : ℕ) (x : TypeDeclaration) (y : NamedType) → named_type schema [] held k x ≡ Ok y → law.defined_type y ≡ true
  type_one held k x y h = domain_rules_one (scope_of true []) refl x.domain_rules y.domain_rules (type_parts schema held k x y h).domain_rules

  function_one : (x : Function) (y : NamedFunction) → named_function schema x ≡ Ok y → law.function y ≡ true
  function_one x y h =
      let s = body_scope (function_names schema x) [] in
      let parts = function_parts schema x y h in
      true_and _ _ (all_gave (local_variable schema s) law.local (local_one s refl) x.locals y.locals (each_ok (local_variable schema s) x.locals y.locals parts.locals))
      (statements_in schema s refl x.statements y.statements parts.statements)

  rule_one : (x : Rule) (y : NamedRule) → named_rule schema x ≡ Ok y → law.rule y ≡ true
  rule_one x y h =
      let s = rule_scope schema x in
      let parts = rule_parts schema x y h in
      true_and _ _ (true_and _ _ (all_gave (local_variable schema s) law.local (local_one s refl) x.locals y.locals (each_ok (local_variable schema s) x.locals y.locals parts.locals))
      (statements_in schema s refl x.statements y.statements parts.statements))
      (domain_rules_one s refl x.domain_rules y.domain_rules parts.domain_rules)

all_elsewhere : (tree : Schema) (found : NamedSchema) → Parts tree found → list_all law.entity found.entities ≡ true → AttributesMeanOne found
unfolding named_functions named_rules
all_elsewhere tree found parts are =
    let schema = declarations tree in
    record {
      constants = all_gave (constant schema) law.constant (constant_one schema) tree.constants found.constants (each_ok (constant schema) tree.constants found.constants parts.constants);
      types = all_gave_numbered (named_type schema [] (type_graph schema (types tree))) law.defined_type (type_one schema (type_graph schema (types tree))) zero (types tree) found.types (gave_types tree found parts);
      entities = are;
      functions = all_gave (named_function schema) law.function (function_one schema) (functions tree) found.functions (each_ok (named_function schema) (functions tree) found.functions parts.functions);
      rules = all_gave (named_rule schema) law.rule (rule_one schema) (rules tree) found.rules (each_ok (named_rule schema) (rules tree) found.rules parts.rules);
    }

pub everywhere : (r : Resolved) → IsResolved r → list_all law.entity r.schema.entities ≡ true → AttributesMeanOne r.schema
unfolding resolved
everywhere r is are =
    let found = given_ok _ (named_schema is.0) r is.1 in
    all_elsewhere is.0 r.schema (parts_of is.0 r.schema (found.1.0 ∙ ap (λ (x : Resolved). Ok x.schema) found.1.1)) are
