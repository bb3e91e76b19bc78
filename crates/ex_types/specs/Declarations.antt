-- The fault of types of a schema's declarations (ISO 10303-11:1994, clause 9).
use Rattle.std.specs.Prelude.{ℕ, zero, suc, Bool, List, [], ◌∷◌, ◌++◌, map, Option, Some, None}
use Rattle.std.specs.List.{flat_map}
use Rattle.ex_tree.specs.declared.expression.Name.{Name}
use Rattle.ex_named.specs.declared.declaration.NamedAttribute.{NamedAttribute}
use Rattle.ex_named.specs.declared.declaration.NamedAttribute.TheVariants as na
use Rattle.ex_named.specs.declared.declaration.NamedConstant.{NamedConstant}
use Rattle.ex_named.specs.declared.declaration.NamedDerived.{NamedDerived}
use Rattle.ex_named.specs.declared.declaration.NamedDomainRule.{NamedDomainRule}
use Rattle.ex_named.specs.declared.declaration.NamedEntity.{NamedEntity}
use Rattle.ex_named.specs.declared.declaration.NamedExplicit.{NamedExplicit}
use Rattle.ex_named.specs.declared.declaration.NamedFunction.{NamedFunction}
use Rattle.ex_named.specs.declared.declaration.NamedInverse.{NamedInverse}
use Rattle.ex_named.specs.declared.declaration.NamedLocal.{NamedLocal}
use Rattle.ex_named.specs.declared.declaration.NamedParameter.{NamedParameter}
use Rattle.ex_named.specs.declared.declaration.NamedRule.{NamedRule}
use Rattle.ex_named.specs.declared.declaration.NamedSchema.{NamedSchema}
use Rattle.ex_named.specs.declared.declaration.NamedType.{NamedType}
use Rattle.ex_named.specs.declared.declaration.NamedUniqueRule.{NamedUniqueRule}
use Rattle.ex_named.specs.declared.expression.NamedExpression.{NamedExpression}
use Rattle.ex_named.specs.declared.reference.AttributeMeaning.{AttributeMeaning}
use Rattle.ex_named.specs.declared.reference.AttributeMeaning.TheVariants as m
use Rattle.ex_named.specs.declared.reference.AttributeUse.{AttributeUse}
use Rattle.ex_kinds.specs.declared.fault.TypeFaultKind.TheVariants.{Ambiguous}
use Rattle.ex_kinds.specs.declared.kind.Sort.TheVariants as k
use Rattle.ex_kinds.specs.declared.typed.Typed.{Typed}
use Rattle.ex_kinds.specs.Faults.{either, fault_at}
use Rattle.ex_kinds.specs.Kinds.{Kinds, itself, of_type}
use Rattle.ex_kinds.specs.Types.{of_types}
use Rattle.ex_operators.specs.Fitting.{fits}
use Rattle.ex_attributes.specs.Attributes.{attributes_of}
use Rattle.ex_typing.specs.declared.known.Signature.{Signature}
use Rattle.ex_typing.specs.Expressions.{Known, TypingScope, expression}
use Rattle.ex_typing_statements.specs.Statements.{Told, statements, assigned, assign_unless}

-- ---- what the declarations say of kinds

-- the kinds of a declared type, for each of its names
abbrev pub for_each : List Name → Kinds → List Kinds
for_each names kinds = map (λ n. kinds) names

abbrev pub parameters : List NamedParameter → List Kinds
parameters = flat_map (λ p. for_each p.names (of_type p.data_type))

abbrev pub locals : List NamedLocal → List Kinds
locals = flat_map (λ l. for_each l.names (of_type l.data_type))

abbrev pub signature : NamedFunction → Signature
signature f = record { parameters = parameters f.parameters; result = of_type f.result }

unfoldable pub known : NamedSchema → Known
known schema = record {
  types = of_types schema.types;
  attributes = attributes_of schema.entities;
  constants = map (λ c. of_type c.data_type) schema.constants;
  functions = map signature schema.functions;
}

-- ---- several

abbrev pub told_after : {A : Type 0} → (A → Told) → Told → List A → Told
told_after tell found [] = found
told_after tell found (x ∷ xs) = told_after tell (either found (tell x)) xs

-- the fault that is told of a list
abbrev pub told : {A : Type 0} → (A → Told) → List A → Told
told tell = told_after tell None

abbrev pub told_numbered_after : {A : Type 0} → (ℕ → A → Told) → ℕ → Told → List A → Told
told_numbered_after tell n found [] = found
told_numbered_after tell n found (x ∷ xs) = told_numbered_after tell (suc n) (either found (tell n x)) xs

abbrev pub told_numbered : {A : Type 0} → (ℕ → A → Told) → List A → Told
told_numbered tell = told_numbered_after tell zero None

-- a value that each of these names is given, unless it fits
unfoldable pub each_unless : Bool → List Name → Told
each_unless fine = told (λ n. assign_unless fine n.at)

-- ---- names of attributes that mean two

abbrev pub ambiguous_by : ℕ → AttributeMeaning → Told
ambiguous_by at (m.One place) = None
ambiguous_by at m.Several = fault_at Ambiguous at

abbrev pub ambiguous : AttributeUse → Told
ambiguous name = ambiguous_by name.at name.meaning

abbrev pub attribute : NamedAttribute → Told
attribute (na.Own n) = None
attribute (na.Redeclared r) = ambiguous r.attribute

-- where a fault of an attribute's value lies
abbrev pub place_of : NamedAttribute → ℕ
place_of (na.Own n) = n.at
place_of (na.Redeclared r) = r.attribute.at

-- ---- scopes

-- of constants
abbrev pub nowhere : TypingScope
nowhere = record { entity = None; itself = []; variables = []; result = [] }

abbrev pub of_type_number : ℕ → TypingScope
of_type_number n = record { entity = None; itself = itself (k.Defined n) ∷ []; variables = []; result = [] }

abbrev pub of_entity : ℕ → TypingScope
of_entity n = record { entity = Some n; itself = itself (k.Entity n) ∷ []; variables = []; result = [] }

abbrev pub of_function : NamedFunction → TypingScope
of_function f = record { entity = None; itself = []; variables = parameters f.parameters ++ locals f.locals; result = of_type f.result }

abbrev pub of_rule : NamedRule → TypingScope
of_rule r = record { entity = None; itself = []; variables = locals r.locals; result = [] }

module _ (schema : Known) where
  abbrev pub domain_rules : TypingScope → List NamedDomainRule → Told
  domain_rules s = told (λ r. (expression schema s r.condition).fault)

  unfoldable pub constant : NamedConstant → Told
  constant c = assigned schema nowhere (of_type c.data_type) c.name.at c.value

  unfoldable pub defined_type : ℕ → NamedType → Told
  defined_type n x = domain_rules (of_type_number n) x.domain_rules

  -- ---- entities

  abbrev pub explicit : List NamedExplicit → Told
  explicit = told (λ x. told attribute x.attributes)

  abbrev pub derived_one : TypingScope → NamedDerived → Told
  derived_one s x = either (attribute x.attribute) (assigned schema s (of_type x.data_type) (place_of x.attribute) x.value)

  abbrev pub derived : TypingScope → List NamedDerived → Told
  derived s = told (derived_one s)

  abbrev pub inverse : List NamedInverse → Told
  inverse = told (λ x. ambiguous x.attribute)

  abbrev pub unique_rules : List NamedUniqueRule → Told
  unique_rules = told (λ r. told ambiguous r.attributes)

  unfoldable pub entity : ℕ → NamedEntity → Told
  entity n e = either (either (either (either (explicit e.explicit) (derived (of_entity n) e.derived)) (inverse e.inverse)) (unique_rules e.unique_rules))
      (domain_rules (of_entity n) e.domain_rules)

  -- ---- functions and rules

  -- a value that each of these names is given
  abbrev pub given_each : Kinds → List Name → Typed → Told
  given_each place names value = either value.fault (each_unless (fits schema.types value.kinds place) names)

  abbrev pub local_by : TypingScope → NamedLocal → Option NamedExpression → Told
  local_by s l None = None
  local_by s l (Some value) = given_each (of_type l.data_type) l.names (expression schema s value)

  abbrev pub local : TypingScope → NamedLocal → Told
  local s l = local_by s l l.value

  unfoldable pub function : NamedFunction → Told
  function f = either (told (local (of_function f)) f.locals) (statements schema (of_function f) f.statements)

  unfoldable pub rule : NamedRule → Told
  rule r = either (either (told (local (of_rule r)) r.locals) (statements schema (of_rule r) r.statements)) (domain_rules (of_rule r) r.domain_rules)

  -- ---- all of a schema

  unfoldable pub declarations : NamedSchema → Told
  declarations s = either (either (told constant s.constants) (told_numbered defined_type s.types))
      (either (told_numbered entity s.entities) (either (told function s.functions) (told rule s.rules)))
