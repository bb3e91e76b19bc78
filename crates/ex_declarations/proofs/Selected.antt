-- The types that names name.
use Rattle.std.proofs.Common.{◌≡◌, List, [], ◌∷◌, ◌++◌, Option, Some, None, refl, ◌∙◌, ap}
use Rattle.std.specs.List.{cons_option, filter_map, flat_map}
use Rattle.ex_tree.specs.declared.expression.Name.{Name}
use Rattle.ex_named.specs.Scopes.{Declarations, declared, as_defined, and_then}
use Rattle.ex_declarations.specs.Declared.{type_named}

in_front : {A : Type 0} (o : Option A) (others : List A) → cons_option o others ≡ cons_option o [] ++ others
in_front None others = refl
in_front (Some a) others = refl

pub selected : (schema : Declarations) (names : List Name) → filter_map (λ n. and_then (declared schema n.text) (as_defined schema)) names ≡ flat_map (type_named schema) names
selected schema [] = refl
selected schema (n ∷ ns) = in_front (and_then (declared schema n.text) (as_defined schema)) _ ∙ ap (λ l. type_named schema n ++ l) (selected schema ns)
