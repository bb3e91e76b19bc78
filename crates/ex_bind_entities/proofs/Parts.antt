-- Entities and types, by their parts.
use Rattle.std.proofs.Common.{◌≡◌, ℕ, Bool, true, if◌then◌else◌, List, [], Ok, refl, sym, ap}
use Rattle.ex_tree.specs.declared.declaration.Entity.{Entity}
use Rattle.ex_tree.specs.declared.declaration.TypeDeclaration.{TypeDeclaration}
use Rattle.ex_named.specs.declared.declaration.NamedDomainRule.{NamedDomainRule}
use Rattle.ex_named.specs.declared.declaration.NamedType.{NamedType}
use Rattle.ex_named.specs.declared.declaration.NamedUnderlying.{NamedUnderlying}
use Rattle.ex_named.specs.declared.fault.NameFaultKind.TheVariants.{CyclicType}
use Rattle.ex_named.specs.Outcomes.{refused, given, both}
use Rattle.ex_named.specs.Scopes.{Declarations}
use Rattle.ex_bind.specs.Rules.{domain_rules, labels, scope_of}
use Rattle.ex_declarations.specs.Declared.{once}
use Rattle.graphs.specs.Graphs.{is_ancestor}
use Rattle.ex_bind_entities.specs.Entities.{entity_names, make_entity, named_entity, underlying, named_type}
use Rattle.ex_bind_entities.specs.Wholes.{entity_parts, type_names, type_parts}

pub entity_by : (schema : Declarations) (graph : List (List ℕ)) (k : ℕ) (e : Entity)
    → named_entity schema graph k e ≡ given (λ p. make_entity schema graph e p.1) (both (entity_names schema graph k e.body) (entity_parts schema graph k e))
unfolding named_entity entity_parts
entity_by schema graph k e = refl

abbrev pub make_type : TypeDeclaration → Unit {0} × (NamedUnderlying × List NamedDomainRule) → NamedType
make_type x p = record { name = x.name; underlying = p.1.0; domain_rules = p.1.1 }

pub type_by : (schema : Declarations) (held : List (List ℕ)) (k : ℕ) (is_cyclic : Bool) (x : TypeDeclaration) → is_cyclic ≡ is_ancestor held k k
    → named_type schema [] held k x ≡ given (make_type x) (both (type_names is_cyclic x) (type_parts schema x))
unfolding named_type type_names type_parts
type_by schema held k is_cyclic x is = ap (λ b. given (make_type x) (both
    (given (λ p. tt {0}) (both (if b then refused CyclicType x.name.at else Ok (tt {0})) (once (labels (λ r. r.label) x.domain_rules))))
    (both (underlying schema [] x.underlying) (domain_rules schema (scope_of true []) x.domain_rules)))) (sym is)
