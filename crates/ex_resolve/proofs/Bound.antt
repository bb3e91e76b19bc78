-- What is bound by the lists of a schema is bound by the schema.
use Rattle.std.proofs.Common.{◌≡◌, map, refl}
use Rattle.ex_tree.specs.declared.declaration.Schema.{Schema}
use Rattle.ex_named.specs.Outcomes.{both}
use Rattle.ex_named.specs.Scopes.{Declarations}
use Rattle.ex_declarations.specs.Declared.{declarations, declared_names, once}
use Rattle.ex_resolve.specs.Schemas.{all_bound, named_types, named_entities, named_functions, named_rules, schema_parts}

pub all_of_schema : (schema : Schema) (declared : Declarations) → declared ≡ declarations schema
    → both (once (map (λ r. r.0) (declared_names schema))) (all_bound declared schema.constants schema.declarations) ≡ schema_parts schema
unfolding schema_parts named_types named_entities named_functions named_rules
all_of_schema schema declared is = rw is refl
