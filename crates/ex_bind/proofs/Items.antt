-- What is taken of `type.item`.
use Rattle.std.proofs.Common.{◌≡◌, ◌<◌, List, [], ◌∷◌, length, map, Option, Some, None, Result, Ok, Err, refl, sym, ◌∙◌, ap, arith}
use Rattle.std.proofs.lemmas.Bool.{le-ltb}
use Rattle.std.specs.Result.{result_transpose}
use Rattle.plain_data.specs.declared.failure.Failure.{Failure}
use Rattle.plain_data.specs.declared.failure.Failure.TheVariants.{NoMemory, Fault}
use Rattle.ex_tree.specs.declared.expression.Qualifier.{Qualifier}
use Rattle.ex_named.specs.declared.expression.NamedExpression.{NamedExpression}
use Rattle.ex_named.specs.declared.expression.NamedQualifier.{NamedQualifier}
use Rattle.ex_named.specs.declared.fault.NameFault.{NameFault}
use Rattle.ex_named.specs.declared.fault.NameFaultKind.{NameFaultKind}
use Rattle.ex_named.specs.declared.fault.NameFaultKind.TheVariants.{Undeclared, DeclaredTwice}
use Rattle.ex_named.specs.Outcomes.{Outcome, Binds, lesser}
use Rattle.ex_named.specs.Scopes.{Declarations, Scope}
use Rattle.ex_named.specs.Expressions.{Bound, BoundQualifier, with_qualifiers, qualified_by}
use Rattle.ex_bind.specs.Trees.{bound_qualifier, taken_of}

-- a fault that none undercuts
abbrev at_front : NameFaultKind → NameFault
at_front kind = record { kind = kind; at = 0 }

least : (kind : NameFaultKind) (g : NameFault) → lesser (at_front kind) g ≡ at_front kind
least kind g = rw (le-ltb g.at 0 (omega arith)) refl

taken_of_fault : (kind : NameFaultKind) (qs : Outcome (List NamedQualifier)) → taken_of (Err (at_front kind)) qs ≡ Err (at_front kind)
taken_of_fault kind (Ok trees) = refl
taken_of_fault kind (Err g) = rw (least kind g) refl

-- what is right whatever the base stands for is want of memory
only_memory : (result : Result NamedExpression (Failure NameFault)) (qs : Outcome (List NamedQualifier)) (o : Outcome NamedExpression)
    → ((b : Outcome NamedExpression) → Binds result (taken_of b qs)) → Binds result o
only_memory (Ok tree) qs o h = let one = h (Err (at_front Undeclared)) in let same = taken_of_fault Undeclared qs in cc
only_memory (Err NoMemory) qs o h = tt
only_memory (Err (Fault f)) qs o h =
    let one = h (Err (at_front Undeclared)) in
    let other = h (Err (at_front DeclaredTwice)) in
    let same_one = taken_of_fault Undeclared qs in
    let same_other = taken_of_fault DeclaredTwice qs in
    let is_one : f ≡ at_front Undeclared = cc in
    let is_other : f ≡ at_front DeclaredTwice = cc in
    let never : Undeclared ≡ DeclaredTwice = sym (ap (λ g. g.kind) is_one) ∙ ap (λ g. g.kind) is_other in
    cc

module _ (schema : Declarations) (s : Scope) (base : Bound) (first : BoundQualifier) where
  pub of_item : (others : List Qualifier) → 0 < length others
      → (found : Result (Option NamedExpression) (Failure NameFault)) (item : Result NamedExpression (Failure NameFault)) → result_transpose found ≡ Some item
      → (meant : Outcome (Option NamedExpression)) → Binds found meant
      → (result : Result NamedExpression (Failure NameFault))
      → ((b : Outcome NamedExpression) → Binds item b → Binds result (with_qualifiers schema s b (map (bound_qualifier schema) others)))
      → Binds result (qualified_by schema s base first (map (bound_qualifier schema) others) meant)
  of_item [] more found item is meant means result h = absurd (omega (arith, more))
  of_item (q ∷ qs) more (Ok None) item is meant means result h = cc
  of_item (q ∷ qs) more (Ok (Some x)) item is meant means result h = let e : item ≡ Ok x = cc in rw means (h (Ok x) (rw e refl))
  of_item (q ∷ qs) more (Err (Fault f)) item is meant means result h = let e : item ≡ Err (Fault f) = cc in rw means (h (Err f) (rw e refl))
  of_item (q ∷ qs) more (Err NoMemory) item is meant means result h =
      let e : item ≡ Err NoMemory = cc in
      only_memory result _ (qualified_by schema s base first (map (bound_qualifier schema) (q ∷ qs)) meant) (λ b. h b (rw e tt))
