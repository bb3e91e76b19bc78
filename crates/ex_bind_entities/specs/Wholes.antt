-- The parts of entities and types with their names bound.
use Rattle.std.specs.Prelude.{ℕ, Bool, true, List, [], Option, if◌then◌else◌, Ok}
use Rattle.ex_tree.specs.declared.declaration.Entity.{Entity}
use Rattle.ex_tree.specs.declared.declaration.TypeDeclaration.{TypeDeclaration}
use Rattle.ex_named.specs.declared.declaration.NamedDerived.{NamedDerived}
use Rattle.ex_named.specs.declared.declaration.NamedDomainRule.{NamedDomainRule}
use Rattle.ex_named.specs.declared.declaration.NamedExplicit.{NamedExplicit}
use Rattle.ex_named.specs.declared.declaration.NamedInverse.{NamedInverse}
use Rattle.ex_named.specs.declared.declaration.NamedSupertype.{NamedSupertype}
use Rattle.ex_named.specs.declared.declaration.NamedUnderlying.{NamedUnderlying}
use Rattle.ex_named.specs.declared.declaration.NamedUniqueRule.{NamedUniqueRule}
use Rattle.ex_named.specs.declared.fault.NameFaultKind.TheVariants.{CyclicType}
use Rattle.ex_named.specs.Outcomes.{Outcome, refused, given, both}
use Rattle.ex_named.specs.Scopes.{Declarations}
use Rattle.ex_bind.specs.Rules.{domain_rules, labels, scope_of}
use Rattle.ex_declarations.specs.Declared.{once}
use Rattle.ex_bind_entities.specs.Entities.{entity_head, entity_attributes, entity_rules, underlying}

-- whether a type doesn't hold itself, and each label of it stands once
unfoldable pub type_names : Bool → TypeDeclaration → Outcome (Unit {0})
type_names is_cyclic x = given (λ p. tt {0}) (both (if is_cyclic then refused CyclicType x.name.at else Ok (tt {0})) (once (labels (λ r. r.label) x.domain_rules)))

module _ (schema : Declarations) where
  -- what an entity is made of, but for whether names are declared once
  unfoldable pub entity_parts : List (List ℕ) → ℕ → Entity → Outcome ((Option NamedSupertype × List ℕ) × (((List NamedExplicit × List NamedDerived) × List NamedInverse) × (List NamedUniqueRule × List NamedDomainRule)))
  entity_parts supertypes k e = both (entity_head schema supertypes k e) (both (entity_attributes schema supertypes k e.body) (entity_rules schema supertypes k e.body))

  unfoldable pub type_parts : TypeDeclaration → Outcome (NamedUnderlying × List NamedDomainRule)
  type_parts x = both (underlying schema [] x.underlying) (domain_rules schema (scope_of true []) x.domain_rules)
