-- Attributes that are declared again.
use Rattle.std.proofs.Common.{◌≡◌, ℕ, Bool, true, false, if◌then◌else◌, List, [], ◌∷◌, ◌++◌, map, Ok, Err, refl, ◌∙◌, ap}
use Rattle.std.specs.List.{cons_option, filter_map, flat_map}
use Rattle.std.proofs.lemmas.List.{map-append}
use Rattle.std.proofs.lemmas.List.Elements.{filter_map-append}
use Rattle.ex_tree.specs.declared.expression.Name.{Name}
use Rattle.ex_tree.specs.declared.declaration.AttributeDeclaration.{AttributeDeclaration}
use Rattle.ex_tree.specs.declared.declaration.AttributeDeclaration.TheVariants as a
use Rattle.ex_tree.specs.declared.declaration.DerivedAttribute.{DerivedAttribute}
use Rattle.ex_tree.specs.declared.declaration.EntityBody.{EntityBody}
use Rattle.ex_tree.specs.declared.declaration.ExplicitAttribute.{ExplicitAttribute}
use Rattle.ex_tree.specs.declared.declaration.QualifiedAttribute.{QualifiedAttribute}
use Rattle.ex_named.specs.declared.fault.NameFaultKind.{NameFaultKind}
use Rattle.ex_named.specs.Outcomes.{Outcome, refused, given, both, and_one}
use Rattle.ex_named.specs.Scopes.{Declarations}
use Rattle.ex_scopes.specs.declared.sorts.Sorts.{Sorts}
use Rattle.ex_scopes.specs.declared.sorts.Sorts.TheVariants as s
use Rattle.ex_bind_entities.specs.Entities.{entities_meant, redeclaration, redeclared, all_redeclared, once_redeclared_after, once_redeclared}
use Rattle.ex_bind_entities.specs.Inherited.{inherited_by, inherited_of, declaring, redeclared_of}
use Rattle.ex_scopes.specs.Sorts.{admitted}

-- one more that is gathered, as far as faults go
pub told_and_one : (g : Outcome (List ℕ)) (b : Bool) (kind : NameFaultKind) (at : ℕ)
    → given (λ l. tt {0}) (and_one g (if b then refused kind at else Ok at)) ≡ given (λ p. tt {0}) (both (given (λ l. tt {0}) g) (if b then refused kind at else Ok (tt {0})))
told_and_one (Ok l) true kind at = refl
told_and_one (Ok l) false kind at = refl
told_and_one (Err f) true kind at = refl
told_and_one (Err f) false kind at = refl

module _ (schema : Declarations) (graph : List (List ℕ)) (e : ℕ) where
  declaring-is : (sorts : Sorts) (q : QualifiedAttribute) → declaring schema graph e sorts q ≡ entities_meant schema graph q.attribute (redeclaration schema graph (admitted sorts) e q)
  unfolding declaring
  declaring-is sorts q = refl

  of-list : (sorts : Sorts) (xs : List AttributeDeclaration) → map (redeclared_of schema graph e) (flat_map (inherited_by sorts) xs) ≡ filter_map (redeclared schema graph (admitted sorts) e) xs
  of-list sorts [] = refl
  of-list sorts (a.Own n ∷ xs) = of-list sorts xs
  of-list sorts (a.Qualified q ∷ xs) = rw (of-list sorts xs, declaring-is sorts q) refl

  of-explicit : (xs : List ExplicitAttribute) → map (redeclared_of schema graph e) (flat_map (λ x. flat_map (inherited_by s.Explicit) x.attributes) xs)
      ≡ filter_map (redeclared schema graph (admitted s.Explicit) e) (flat_map (λ x. x.attributes) xs)
  of-explicit [] = refl
  of-explicit (x ∷ xs) = rw (
    map-append (redeclared_of schema graph e) (flat_map (inherited_by s.Explicit) x.attributes) (flat_map (λ y. flat_map (inherited_by s.Explicit) y.attributes) xs),
    filter_map-append (redeclared schema graph (admitted s.Explicit) e) x.attributes (flat_map (λ y. y.attributes) xs),
    of-list s.Explicit x.attributes,
    of-explicit xs,
  ) refl

  of-one : (x : DerivedAttribute) (others : List (Sorts × QualifiedAttribute)) (more : List (Name × List ℕ)) → map (redeclared_of schema graph e) others ≡ more
      → map (redeclared_of schema graph e) (inherited_by s.ExplicitOrDerived x.attribute ++ others) ≡ cons_option (redeclared schema graph (admitted s.ExplicitOrDerived) e x.attribute) more
  of-one x others more h = elim x.attribute as (λ d. map (redeclared_of schema graph e) (inherited_by s.ExplicitOrDerived d ++ others) ≡ cons_option (redeclared schema graph (admitted s.ExplicitOrDerived) e d) more) [
    | a.Own n ↦ h
    | a.Qualified q ↦ rw (h, declaring-is s.ExplicitOrDerived q) refl
  ]

  of-derived : (xs : List DerivedAttribute) → map (redeclared_of schema graph e) (flat_map (λ x. inherited_by s.ExplicitOrDerived x.attribute) xs)
      ≡ filter_map (λ x. redeclared schema graph (admitted s.ExplicitOrDerived) e x.attribute) xs
  of-derived [] = refl
  of-derived (x ∷ xs) = of-one x (flat_map (λ y. inherited_by s.ExplicitOrDerived y.attribute) xs) _ (of-derived xs)

  all_of : (body : EntityBody) → map (redeclared_of schema graph e) (inherited_of body) ≡ all_redeclared schema graph e body
  all_of body = map-append (redeclared_of schema graph e) (flat_map (λ x. flat_map (inherited_by s.Explicit) x.attributes) body.explicit) (flat_map (λ x. inherited_by s.ExplicitOrDerived x.attribute) body.derived)
      ∙ rw (of-explicit body.explicit, of-derived body.derived) refl

  pub once_by : (body : EntityBody) (list : List (Sorts × QualifiedAttribute)) → list ≡ inherited_of body
      → once_redeclared_after schema graph [] (Ok (tt {0})) (map (redeclared_of schema graph e) list) ≡ once_redeclared schema graph e body
  unfolding once_redeclared
  once_by body list is = ap (once_redeclared_after schema graph [] (Ok (tt {0}))) (ap (map (redeclared_of schema graph e)) is ∙ all_of body)
