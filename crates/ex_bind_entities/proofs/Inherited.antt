-- Attributes of ancestors: an entity beyond the graph has none.
use Rattle.std.proofs.Common.{◌≡◌, ℕ, ◌≤◌, Bool, true, false, ◌&&◌, ◌||◌, ◌==◌, nat_lt, if◌then◌else◌, List, length, Ok, refl, ◌∙◌, ap, arith}
use Rattle.std.proofs.lemmas.Bool.Decides.{nat_tests}
use Rattle.plain_data.specs.Numbers.{is_among}
use Rattle.name_tables.specs.Names.{named}
use Rattle.ex_tree.specs.declared.declaration.QualifiedAttribute.{QualifiedAttribute}
use Rattle.ex_tree.specs.declared.expression.Name.{Name}
use Rattle.ex_named.specs.declared.fault.NameFaultKind.TheVariants.{NotAnAttribute}
use Rattle.ex_named.specs.declared.reference.AttributeSort.{AttributeSort}
use Rattle.ex_named.specs.declared.reference.AttributeUse.{AttributeUse}
use Rattle.ex_named.specs.declared.declaration.NamedRedeclaration.{NamedRedeclaration}
use Rattle.ex_named.specs.Outcomes.{refused, given}
use Rattle.ex_named.specs.Scopes.{Declarations, entity}
use Rattle.graphs.specs.Graphs.{family, is_ancestor}
use Rattle.ex_scopes.specs.Sorts.{any_sort}
use Rattle.ex_bind_entities.specs.Entities.{next, use_of, attribute_of, redeclaration_in, redeclaration, unique_in}
use Rattle.ex_bind_entities.proofs.Ancestors.{none_declared, in_family}

abbrev pub found_in : ℕ → AttributeUse → NamedRedeclaration
found_in a found = record { entity = a; attribute = found }

module _ (schema : Declarations) (graph : List (List ℕ)) where
  -- of an entity beyond the graph no attribute can be named
  beyond : (can_stand : AttributeSort → Bool) (e : ℕ) (n : Name) → length graph ≤ e → attribute_of schema graph can_stand e n ≡ refused NotAnAttribute n.at
  beyond can_stand e n h = ap (use_of can_stand n.at) (none_declared graph e (λ a. a.entity) (named n.text schema.attributes) h)

  -- whatever is tested first
  refused-beyond : (can_stand : AttributeSort → Bool) (e : ℕ) (n : Name) (b : Bool) → length graph ≤ e
      → (if b then attribute_of schema graph can_stand e n else refused NotAnAttribute n.at) ≡ refused NotAnAttribute n.at
  refused-beyond can_stand e n true h = beyond can_stand e n h
  refused-beyond can_stand e n false h = refl

  pub unique_by : (e : ℕ) (q : QualifiedAttribute) (f : ℕ) → unique_in schema graph e q f
      ≡ (if is_among (family graph e) f then attribute_of schema graph any_sort f q.attribute else refused NotAnAttribute q.attribute.at)
  unique_by e q f = rw (in_family graph e f) ((elim (nat_lt f (length graph)) as (λ t. nat_lt f (length graph) ≡ t
      → unique_in schema graph e q f ≡ (if t && (f == e || is_ancestor graph e f) then attribute_of schema graph any_sort f q.attribute else refused NotAnAttribute q.attribute.at)) [
        | true ↦ λ is. refl
        | false ↦ λ is. let h : length graph ≤ f = grind (arith, nat_tests) in refused-beyond any_sort f q.attribute (f == e || is_ancestor graph e f) h
      ]) refl)

  redeclaration_by : (can_stand : AttributeSort → Bool) (e : ℕ) (q : QualifiedAttribute) (a : ℕ) → redeclaration_in schema graph can_stand e q a
      ≡ (if nat_lt a (length graph) && is_ancestor graph e a
      then given (found_in a) (attribute_of schema graph can_stand a q.attribute)
      else refused NotAnAttribute q.attribute.at)
  redeclaration_by can_stand e q a = (elim (nat_lt a (length graph)) as (λ t. nat_lt a (length graph) ≡ t
      → redeclaration_in schema graph can_stand e q a ≡ (if t && is_ancestor graph e a
      then given (found_in a) (attribute_of schema graph can_stand a q.attribute)
      else refused NotAnAttribute q.attribute.at)) [
        | true ↦ λ is. refl
        | false ↦ λ is. let h : length graph ≤ a = grind (arith, nat_tests) in
            rw (beyond can_stand a q.attribute h) (elim (is_ancestor graph e a) as (λ b. (if b then given (found_in a) (refused NotAnAttribute q.attribute.at) else refused NotAnAttribute q.attribute.at) ≡ refused NotAnAttribute q.attribute.at) [ true ↦ refl | false ↦ refl ])
      ]) refl

  -- what is no ancestor in the graph has no attribute that can be declared again
  pub redeclaration_refused : (can_stand : AttributeSort → Bool) (e : ℕ) (q : QualifiedAttribute) (a : ℕ) → (nat_lt a (length graph) && is_ancestor graph e a) ≡ false → entity schema q.entity ≡ Ok a
      → redeclaration schema graph can_stand e q ≡ refused NotAnAttribute q.attribute.at
  redeclaration_refused can_stand e q a none found = ap (λ o. next o (redeclaration_in schema graph can_stand e q)) found ∙ redeclaration_by can_stand e q a
      ∙ ap (λ b. if b then given (found_in a) (attribute_of schema graph can_stand a q.attribute) else refused NotAnAttribute q.attribute.at) none
