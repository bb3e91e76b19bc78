-- Statements that are bound one by one.
use Rattle.std.proofs.Common.{◌≡◌, List, [], ◌∷◌, map, Ok, refl, sym}
use Rattle.ex_tree.specs.declared.statement.Statement.{Statement}
use Rattle.ex_named.specs.Outcomes.{Outcome, each_after, and_one}
use Rattle.ex_named.specs.Scopes.{Declarations, Scope}
use Rattle.ex_named.specs.Statements.{bound_statement, statements}
use Rattle.ex_bind_statements.specs.Parts.{sequence}

each-map : {A B C : Type 0} (f : A → B) (bind : B → Outcome C) (found : Outcome (List C)) (xs : List A) → each_after bind found (map f xs) ≡ each_after (λ x. bind (f x)) found xs
each-map f bind found [] = refl
each-map f bind found (x ∷ xs) = each-map f bind (and_one found (bind (f x))) xs

pub in_sequence : (schema : Declarations) (s : Scope) (xs : List Statement) → statements schema s xs ≡ sequence schema s xs
in_sequence schema s xs = sym (each-map (bound_statement schema) (λ b. b s) (Ok []) xs)
