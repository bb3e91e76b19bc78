-- Rules of a WHERE clause with their names bound (ISO 10303-11:1994, 9.2.2.2), and where they stand.
use Rattle.std.specs.Prelude.{ℕ, Bool, List, [], Option}
use Rattle.std.specs.List.{filter_map}
use Rattle.ex_tree.specs.declared.expression.Name.{Name}
use Rattle.ex_tree.specs.declared.declaration.DomainRule.{DomainRule}
use Rattle.ex_named.specs.declared.declaration.NamedDomainRule.{NamedDomainRule}
use Rattle.ex_named.specs.Outcomes.{Outcome, given, each}
use Rattle.ex_named.specs.Scopes.{Declarations, Scope}
use Rattle.ex_named.specs.Expressions.{expression}

-- where expressions of an entity stand, of a type, or of neither
abbrev pub scope_of : Bool → List ℕ → Scope
scope_of has_self family = record { nested = []; frame = []; has_self = has_self; family = family; populations = [] }

-- the names that label rules
abbrev pub labels : {R : Type 0} → (R → Option Name) → List R → List Name
labels label rules = filter_map label rules

module _ (schema : Declarations) where
  unfoldable pub domain_rule : Scope → DomainRule → Outcome NamedDomainRule
  domain_rule s rule = given (λ found. record { label = rule.label; condition = found }) (expression schema s rule.condition)

  abbrev pub domain_rules : Scope → List DomainRule → Outcome (List NamedDomainRule)
  domain_rules s = each (domain_rule s)
