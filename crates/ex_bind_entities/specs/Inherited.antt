-- The attributes that an entity declares again.
use Rattle.std.specs.Prelude.{ℕ, List, [], ◌∷◌, ◌++◌, map}
use Rattle.std.specs.List.{flat_map}
use Rattle.std.specs.Borrow.{Bor}
use Rattle.ex_tree.specs.declared.declaration.AttributeDeclaration.{AttributeDeclaration}
use Rattle.ex_tree.specs.declared.declaration.AttributeDeclaration.TheVariants as a
use Rattle.ex_tree.specs.declared.declaration.EntityBody.{EntityBody}
use Rattle.ex_tree.specs.declared.declaration.QualifiedAttribute.{QualifiedAttribute}
use Rattle.ex_tree.specs.declared.expression.Name.{Name}
use Rattle.ex_named.specs.Scopes.{Declarations}
use Rattle.ex_scopes.specs.declared.sorts.Sorts.{Sorts}
use Rattle.ex_scopes.specs.declared.sorts.Sorts.TheVariants as s
use Rattle.ex_scopes.specs.Sorts.{admitted}
use Rattle.ex_bind_entities.specs.Entities.{redeclaration, entities_meant}

-- those of a declaration, each with what can be declared again there
abbrev pub inherited_by : Sorts → AttributeDeclaration → List (Sorts × QualifiedAttribute)
inherited_by sorts (a.Own n) = []
inherited_by sorts (a.Qualified q) = (sorts, q) ∷ []

abbrev pub inherited_of : EntityBody → List (Sorts × QualifiedAttribute)
inherited_of body = flat_map (λ x. flat_map (inherited_by s.Explicit) x.attributes) body.explicit
    ++ flat_map (λ x. inherited_by s.ExplicitOrDerived x.attribute) body.derived

abbrev pub read : List (Sorts × Bor QualifiedAttribute) → List (Sorts × QualifiedAttribute)
read list = map (λ p. (p.0, p.1.now)) list

module _ (schema : Declarations) (supertypes : List (List ℕ)) where
  unfoldable pub declaring : ℕ → Sorts → QualifiedAttribute → List ℕ
  declaring e sorts q = entities_meant schema supertypes q.attribute (redeclaration schema supertypes (admitted sorts) e q)

  abbrev pub redeclared_of : ℕ → Sorts × QualifiedAttribute → Name × List ℕ
  redeclared_of e p = (p.1.attribute, declaring e p.0 p.1)
