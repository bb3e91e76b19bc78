-- What is accepted as a whole is accepted in its parts.
use Rattle.std.proofs.Common.{◌≡◌, ℕ, zero, suc, List, [], ◌∷◌, ◌++◌, map, append-nil, Ok, refl, sym, ap, subst, ◌∙◌, append_assoc}
use Rattle.ex_tree.specs.declared.declaration.Schema.{Schema}
use Rattle.ex_named.specs.declared.declaration.NamedSchema.{NamedSchema}
use Rattle.ex_named.specs.Outcomes.{Outcome, both, each, and_one}
use Rattle.ex_declarations.specs.Declared.{declarations, declared_names, once, each_numbered, each_numbered_after}
use Rattle.ex_bind_algorithms.specs.Algorithms.{constant}
use Rattle.ex_resolve.proofs.Wholes.{given_ok, both_ok}
use Rattle.ex_resolve.specs.Schemas.{named_types, named_entities, named_functions, named_rules, named_schema, schema_parts, make_schema}

-- each of a list, with its number, gave what stands at its place in the other
abbrev pub GaveNumbered : {A B : Type 0} → (ℕ → A → Outcome B) → ℕ → List A → List B → Type 0
GaveNumbered bind k [] [] = Unit {0}
GaveNumbered bind k [] (y ∷ ys) = ⊥
GaveNumbered bind k (x ∷ xs) [] = ⊥
GaveNumbered bind k (x ∷ xs) (y ∷ ys) = (bind k x ≡ Ok y) × GaveNumbered bind (suc k) xs ys

-- what is behind those that were found before
abbrev Further : {A B : Type 0} → (ℕ → A → Outcome B) → ℕ → Outcome (List B) → List A → List B → Type 0
Further bind k found xs all = (some : List _) × ((found ≡ Ok some) × ((rest : List _) × ((all ≡ some ++ rest) × GaveNumbered bind k xs rest)))

after_ok : {A B : Type 0} (bind : ℕ → A → Outcome B) (k : ℕ) (found : Outcome (List B)) (xs : List A) (all : List B)
    → each_numbered_after bind k found xs ≡ Ok all → Further bind k found xs all
after_ok bind k found [] all h = (all, (h, ([], (sym (append-nil all), tt))))
after_ok bind k found (x ∷ xs) all h =
    let next = after_ok bind (suc k) (and_one found (bind k x)) xs all h in
    let pair = given_ok (λ p. p.0 ++ p.1 ∷ []) (both found (bind k x)) next.0 next.1.0 in
    let parts = both_ok found (bind k x) pair.0 pair.1.0 in (
      pair.0.0,
      (
        parts.0,
        (
          pair.0.1 ∷ next.1.1.0,
          (next.1.1.1.0 ∙ ap (λ l. l ++ next.1.1.0) (sym pair.1.1) ∙ append_assoc pair.0.0 (pair.0.1 ∷ []) next.1.1.0, (parts.1, next.1.1.1.1)),
        ),
      ),
    )

pub each_numbered_ok : {A B : Type 0} (bind : ℕ → A → Outcome B) (xs : List A) (all : List B) → each_numbered bind xs ≡ Ok all → GaveNumbered bind zero xs all
each_numbered_ok bind xs all h =
    let found = after_ok bind zero (Ok []) xs all h in
    let none : [] ≡ found.0 = cc in
    let same : all ≡ found.1.1.0 = found.1.1.1.0 ∙ ap (λ l. l ++ found.1.1.0) (sym none) in
    rw same found.1.1.1.1

-- what is read of each that was found is read of what it was found for
pub gave_map : {A B C : Type 0} (bind : ℕ → A → Outcome B) (f : B → C) (g : A → C) → ((k : ℕ) (x : A) (y : B) → bind k x ≡ Ok y → f y ≡ g x)
    → (k : ℕ) (xs : List A) (ys : List B) → GaveNumbered bind k xs ys → map f ys ≡ map g xs
gave_map bind f g same k [] [] h = refl
gave_map bind f g same k [] (y ∷ ys) h = absurd h
gave_map bind f g same k (x ∷ xs) [] h = absurd h
gave_map bind f g same k (x ∷ xs) (y ∷ ys) h = let e = same k x y h.0 in let es = gave_map bind f g same (suc k) xs ys h.1 in cc

-- each part of a schema that is accepted is what the tree's part gave
pub record Parts (tree : Schema) (found : NamedSchema) : Type 0 where
  pub names : once (map (λ r. r.0) (declared_names tree)) ≡ Ok (tt {0})
  pub constants : each (constant (declarations tree)) tree.constants ≡ Ok found.constants
  pub types : named_types tree ≡ Ok found.types
  pub entities : named_entities tree ≡ Ok found.entities
  pub functions : named_functions tree ≡ Ok found.functions
  pub rules : named_rules tree ≡ Ok found.rules

pub parts_of : (tree : Schema) (found : NamedSchema) → named_schema tree ≡ Ok found → Parts tree found
unfolding named_schema schema_parts
parts_of tree found h =
    let whole = given_ok (make_schema tree) (schema_parts tree) found h in
    let p = whole.0 in
    let all = both_ok _ _ p whole.1.0 in
    let rest = both_ok _ _ p.1 all.1 in
    let declared = both_ok _ _ p.1.1 rest.1 in
    let classes = both_ok _ _ p.1.1.0 declared.0 in
    let algorithms = both_ok _ _ p.1.1.1 declared.1 in
    let is : Parts tree (make_schema tree p) = record {
      names = all.0;
      constants = rest.0;
      types = classes.0;
      entities = classes.1;
      functions = algorithms.0;
      rules = algorithms.1;
    } in
    subst (Parts tree) whole.1.1 is
