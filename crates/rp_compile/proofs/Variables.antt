-- Functions and rules of a schema, by what expressions are compiled by.
use Rattle.std.proofs.Common.{◌≡◌, ℕ, ◌+◌, ◌<◌, List, [], ◌∷◌, ◌++◌, map, length, drop, get_or, None, refl, sym, ◌∙◌, ap, append_assoc, drop-cons, add-one}
use Rattle.std.proofs.lemmas.List.{map-append}
use Rattle.ex_kinds.specs.Kinds.{Kinds, of_type}
use Rattle.ex_named.specs.declared.declaration.NamedDomainRule.{NamedDomainRule}
use Rattle.ex_named.specs.declared.declaration.NamedFunction.{NamedFunction}
use Rattle.ex_named.specs.declared.declaration.NamedLocal.{NamedLocal}
use Rattle.ex_named.specs.declared.declaration.NamedParameter.{NamedParameter}
use Rattle.ex_named.specs.declared.declaration.NamedRule.{NamedRule}
use Rattle.ex_named.specs.declared.declaration.NamedSchema.{NamedSchema}
use Rattle.ex_named.specs.declared.expression.NamedDataType.{NamedDataType}
use Rattle.ex_named.specs.declared.statement.NamedStatement.{NamedStatement}
use Rattle.ex_tree.specs.declared.expression.Name.{Name}
use Rattle.ex_types.specs.Declarations.{parameters as parameters-of, locals as locals-of, for_each, of_function, of_rule}
use Rattle.ex_typing.specs.Expressions.{TypingScope}
use Rattle.rp_meaning.specs.declared.schema.Algorithm.{Algorithm}
use Rattle.rp_meaning.specs.declared.schema.GlobalRule.{GlobalRule}
use Rattle.rp_code.specs.declared.tree.Expression.{Expression}
use Rattle.rp_meaning.specs.CompiledStatements.{statements}
use Rattle.rp_meaning.specs.CompiledExpressions as expressions
use Rattle.rp_meaning.specs.Compiled as compiled
use Rattle.rp_meaning.specs.Compiled.{of_parameters, of_locals}
use Rattle.rp_compile.specs.Declarations as spec

-- ---- what variables may be

each-kinds : (names : List Name) (data_type : NamedDataType) → map of_type (map (λ n. data_type) names) ≡ for_each names (of_type data_type)
each-kinds [] data_type = refl
each-kinds (n ∷ names) data_type = ap (λ xs. of_type data_type ∷ xs) (each-kinds names data_type)

pub parameter-kinds : (list : List NamedParameter) → map of_type (of_parameters list) ≡ parameters-of list
parameter-kinds [] = refl
parameter-kinds (p ∷ list) = map-append of_type (map (λ n. p.data_type) p.names) (of_parameters list) ∙ (λ i. each-kinds p.names p.data_type i ++ parameter-kinds list i)

pub local-kinds : (list : List NamedLocal) → map of_type (of_locals list) ≡ locals-of list
local-kinds [] = refl
local-kinds (l ∷ list) = map-append of_type (map (λ n. l.data_type) l.names) (of_locals list) ∙ (λ i. each-kinds l.names l.data_type i ++ local-kinds list i)

pub variable-kinds : (p : List NamedParameter) (l : List NamedLocal) → map of_type (of_parameters p ++ of_locals l) ≡ parameters-of p ++ locals-of l
variable-kinds p l = map-append of_type (of_parameters p) (of_locals l) ∙ (λ i. parameter-kinds p i ++ local-kinds l i)

-- ---- what is declared, declaration by declaration

pub next-parameter : (list : List NamedParameter) (i : ℕ) (p : NamedParameter) (before after : List NamedDataType) (names : List Name) → i < length list → p ≡ get_or list i p → names ≡ p.names
    → after ≡ before ++ map (λ n. p.data_type) names → after ++ of_parameters (drop (i + 1) list) ≡ before ++ of_parameters (drop i list)
next-parameter list i p before after names h is of-names put =
    let rest = of_parameters (drop (i + 1) list) in
    let whole : drop i list ≡ p ∷ drop (i + 1) list = drop-cons list i p h ∙ (λ j. sym is j ∷ drop (sym (add-one i) j) list) in
    ap (λ (xs : List NamedDataType). xs ++ rest) (put ∙ ap (λ (ns : List Name). before ++ map (λ n. p.data_type) ns) of-names)
    ∙ append_assoc before (map (λ n. p.data_type) p.names) rest ∙ ap (λ (ps : List NamedParameter). before ++ of_parameters ps) (sym whole)

pub next-local : (list : List NamedLocal) (i : ℕ) (l : NamedLocal) (before after : List NamedDataType) (names : List Name) → i < length list → l ≡ get_or list i l → names ≡ l.names
    → after ≡ before ++ map (λ n. l.data_type) names → after ++ of_locals (drop (i + 1) list) ≡ before ++ of_locals (drop i list)
next-local list i l before after names h is of-names put =
    let rest = of_locals (drop (i + 1) list) in
    let whole : drop i list ≡ l ∷ drop (i + 1) list = drop-cons list i l h ∙ (λ j. sym is j ∷ drop (sym (add-one i) j) list) in
    ap (λ (xs : List NamedDataType). xs ++ rest) (put ∙ ap (λ (ns : List Name). before ++ map (λ n. l.data_type) ns) of-names)
    ∙ append_assoc before (map (λ n. l.data_type) l.names) rest ∙ ap (λ (ls : List NamedLocal). before ++ of_locals ls) (sym whole)

-- ---- what is run

pub body-same : (schema : expressions.Declared) (f : NamedFunction) (s : TypingScope) (frame : List Kinds) (result : Kinds) (types parameters others : List NamedDataType) (n count : ℕ) (locals : List NamedLocal) (list : List NamedStatement)
    → s ≡ record { entity = None; itself = []; variables = frame; result = result } → frame ≡ map of_type types → result ≡ of_type f.result → types ≡ parameters ++ others
    → parameters ≡ of_parameters f.parameters → others ≡ of_locals f.locals → n ≡ length parameters → count ≡ length (of_locals f.locals) → locals ≡ f.locals → list ≡ f.statements
    → spec.algorithm_by schema s types n count locals list ≡ spec.function_body schema f
body-same schema f s frame result types parameters others n count locals list of-scope of-frame of-result of-types of-parameters-types of-others of-n of-count of-locals-list of-list =
    let all : types ≡ of_parameters f.parameters ++ of_locals f.locals = of-types ∙ (λ i. of-parameters-types i ++ of-others i) in
    let variables : frame ≡ parameters-of f.parameters ++ locals-of f.locals = of-frame ∙ ap (map of_type) all ∙ variable-kinds f.parameters f.locals in
    let scope : s ≡ of_function f = of-scope ∙ (λ i. record { entity = None; itself = []; variables = variables i; result = of-result i }) in
    let many : n ≡ length (of_parameters f.parameters) = of-n ∙ ap length of-parameters-types in
    λ i. spec.algorithm_by schema (scope i) (all i) (many i) (of-count i) (of-locals-list i) (of-list i)

pub rule-scope : (r : NamedRule) (s : TypingScope) (frame : List Kinds) (types : List NamedDataType)
    → s ≡ record { entity = None; itself = []; variables = frame; result = [] } → frame ≡ map of_type types → types ≡ of_locals r.locals → s ≡ of_rule r
rule-scope r s frame types of-scope of-frame of-types =
    of-scope ∙ ap (λ (variables : List Kinds). record { entity = None; itself = []; variables = variables; result = [] }) (of-frame ∙ ap (map of_type) of-types ∙ local-kinds r.locals)

abbrev pub made : Algorithm → List Expression → GlobalRule
made algorithm rules = record { algorithm = algorithm; domain_rules = rules }

pub rule-found : (schema : expressions.Declared) (r : NamedRule) (s : TypingScope) (types : List NamedDataType) (count : ℕ) (locals : List NamedLocal) (list : List NamedStatement) (rules : List NamedDomainRule) (a : Algorithm) (conditions : List Expression)
    → s ≡ of_rule r → types ≡ of_locals r.locals → count ≡ length (of_locals r.locals) → locals ≡ r.locals → list ≡ r.statements → rules ≡ r.domain_rules
    → a ≡ spec.algorithm_by schema s types 0 count locals list → conditions ≡ spec.conditions schema s rules → made a conditions ≡ spec.rule schema r
rule-found schema r s types count locals list rules a conditions of-scope of-types of-count of-locals-list of-list of-rules of-a of-conditions =
    (λ i. made (of-a i) (of-conditions i)) ∙ (λ i. made (spec.algorithm_by schema (of-scope i) (of-types i) 0 (of-count i) (of-locals-list i) (of-list i)) (spec.conditions schema (of-scope i) (of-rules i)))

module _ (schema : NamedSchema) where
  initial-same : (s : TypingScope) (slot : ℕ) (list : List NamedLocal) → spec.initial_from (compiled.declared schema) s slot list ≡ compiled.initial_from schema s slot list
  initial-same s slot [] = refl
  initial-same s slot (x ∷ list) = ap (λ ys. spec.initial (compiled.declared schema) s slot x ++ ys) (initial-same s (slot + length x.names) list)

  function-same : (x : NamedFunction) → spec.function (compiled.declared schema) x ≡ compiled.function schema x
  function-same x = λ i. record {
    parameters = of_parameters x.parameters;
    result = x.result;
    algorithm = record {
      locals = length (of_locals x.locals);
      initial = initial-same (of_function x) (length (of_parameters x.parameters)) x.locals i;
      statements = statements (expressions.expression (compiled.declared schema)) (of_parameters x.parameters ++ of_locals x.locals) (of_function x) x.statements;
    };
  }

  rule-same : (x : NamedRule) → spec.rule (compiled.declared schema) x ≡ compiled.rule schema x
  rule-same x = λ i. record {
    algorithm = record {
      locals = length (of_locals x.locals);
      initial = initial-same (of_rule x) 0 x.locals i;
      statements = statements (expressions.expression (compiled.declared schema)) (of_locals x.locals) (of_rule x) x.statements;
    };
    domain_rules = spec.conditions (compiled.declared schema) (of_rule x) x.domain_rules;
  }

  pub functions-same : (list : List NamedFunction) → map (spec.function (compiled.declared schema)) list ≡ map (compiled.function schema) list
  functions-same list = λ i. map (λ x. function-same x i) list

  pub rules-same : (list : List NamedRule) → map (spec.rule (compiled.declared schema)) list ≡ map (compiled.rule schema) list
  rules-same list = λ i. map (λ x. rule-same x i) list

  pub functions-found : (declared : expressions.Declared) (list : List NamedFunction) → declared ≡ compiled.declared schema → list ≡ schema.functions
      → map (spec.function declared) list ≡ map (compiled.function schema) schema.functions
  functions-found declared list of-declared of-list = (λ i. map (spec.function (of-declared i)) (of-list i)) ∙ functions-same schema.functions

  pub rules-found : (declared : expressions.Declared) (list : List NamedRule) → declared ≡ compiled.declared schema → list ≡ schema.rules
      → map (spec.rule declared) list ≡ map (compiled.rule schema) schema.rules
  rules-found declared list of-declared of-list = (λ i. map (spec.rule (of-declared i)) (of-list i)) ∙ rules-same schema.rules
