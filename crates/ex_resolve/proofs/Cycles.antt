-- A schema that is accepted has no entity that is its own ancestor, and its graph is what SUBTYPE OF lists.
use Rattle.std.proofs.Common.{◌≡◌, ℕ, suc, Bool, true, false, if◌then◌else◌, Option, List, [], ◌∷◌, map, length, Ok, refl, sym, ap, subst, ◌∙◌}
use Rattle.std.proofs.lemmas.List.{length-map}
use Rattle.std.specs.List.{list_any, filter_map, cons_option}
use Rattle.ex_tree.specs.declared.declaration.Entity.{Entity}
use Rattle.ex_tree.specs.declared.declaration.Schema.{Schema}
use Rattle.ex_tree.specs.declared.expression.Name.{Name}
use Rattle.ex_named.specs.declared.declaration.NamedEntity.{NamedEntity}
use Rattle.ex_named.specs.declared.declaration.NamedSchema.{NamedSchema}
use Rattle.ex_named.specs.declared.fault.NameFaultKind.TheVariants.{CyclicSubtype}
use Rattle.ex_named.specs.Outcomes.{refused}
use Rattle.ex_named.specs.Scopes.{Declarations, and_then, as_entity, declared, entity}
use Rattle.graphs.specs.Graphs.{IsAcyclic, is_ancestor, numbers_from}
use Rattle.graphs.proofs.Marks.{acyclic_from_marks}
use Rattle.ex_declarations.specs.Declared.{declarations, entities, supertype_graph}
use Rattle.ex_bind_entities.specs.Entities.{entity_head, named_entity}
use Rattle.ex_resolve.proofs.Wholes.{given_ok, both_ok, Gave, each_ok, meant}
use Rattle.ex_resolve.proofs.Accepted.{GaveNumbered, each_numbered_ok, gave_map, parts_of}
use Rattle.ex_resolve.proofs.Pieces.{entity_parts}
use Rattle.ex_resolve.specs.Schemas.{Resolved, IsResolved, named_entities, named_schema, resolved}

accepted_if : (b : Bool) (at : ℕ) (x : Unit {0}) → (if b then refused CyclicSubtype at else Ok (tt {0})) ≡ Ok x → b ≡ false
accepted_if true at x h = absurd cc
accepted_if false at x h = refl

module _ (schema : Declarations) where
  -- the entity that a name names, if it names one
  abbrev entity_meant : Name → Option ℕ
  entity_meant n = and_then (declared schema n.text) (as_entity schema)

  entities_meant : (ns : List Name) (ks : List ℕ) → Gave (entity schema) ns ks → filter_map entity_meant ns ≡ ks
  entities_meant [] [] h = refl
  entities_meant [] (k ∷ ks) h = absurd h
  entities_meant (n ∷ ns) [] h = absurd h
  entities_meant (n ∷ ns) (k ∷ ks) h =
      ap (λ o. cons_option o (filter_map entity_meant ns)) (meant n (entity_meant n) k h.0) ∙ ap (λ l. k ∷ l) (entities_meant ns ks h.1)

module _ (schema : Declarations) (graph : List (List ℕ)) where
  not_cyclic_of : (k : ℕ) (e : Entity) (found : NamedEntity) → named_entity schema graph k e ≡ Ok found → is_ancestor graph k k ≡ false
  unfolding named_entity entity_head
  not_cyclic_of k e found h =
      let whole = given_ok _ _ found h in
      let parts = both_ok _ _ whole.0 whole.1.0 in
      let head = both_ok _ _ whole.0.1 parts.1 in
      let pair = given_ok _ _ whole.0.1.0 head.0 in
      accepted_if (is_ancestor graph k k) e.head.name.at _ (both_ok _ _ pair.0 pair.1.0).0

  none_cyclic : (k : ℕ) (xs : List Entity) (all : List NamedEntity) → GaveNumbered (named_entity schema graph) k xs all
      → list_any (λ b. b) (map (λ n. is_ancestor graph n n) (numbers_from k (length xs))) ≡ false
  none_cyclic k [] all h = refl
  none_cyclic k (x ∷ xs) [] h = absurd h
  none_cyclic k (x ∷ xs) (e ∷ es) h = rw (not_cyclic_of k x e h.0) (none_cyclic (suc k) xs es h.1)

  supertypes_of : (k : ℕ) (e : Entity) (found : NamedEntity) → named_entity schema graph k e ≡ Ok found
      → found.supertypes ≡ filter_map (entity_meant schema) e.head.supertypes
  supertypes_of k e found h =
      let parts = entity_parts schema graph k e found h in
      sym (entities_meant schema e.head.supertypes found.supertypes (each_ok (entity schema) e.head.supertypes found.supertypes parts.supertypes))

-- what SUBTYPE OF lists of each entity of the tree
abbrev graph_of : Schema → List (List ℕ)
graph_of tree = supertype_graph (declarations tree) (entities tree)

found_entities : (tree : Schema) (all : List NamedEntity) → named_entities tree ≡ Ok all → GaveNumbered (named_entity (declarations tree) (graph_of tree)) 0 (entities tree) all
unfolding named_entities
found_entities tree all h = each_numbered_ok (named_entity (declarations tree) (graph_of tree)) (entities tree) all h

acyclic_entities : (tree : Schema) (all : List NamedEntity) → named_entities tree ≡ Ok all → IsAcyclic (graph_of tree)
unfolding supertype_graph
acyclic_entities tree all h =
    let graph = graph_of tree in
    let size : length graph ≡ length (entities tree) = length-map (entities tree) _ in
    acyclic_from_marks graph (map (λ k. is_ancestor graph k k) (numbers_from 0 (length graph))) (λ b. b) refl refl
    (ap (λ n. list_any (λ b. b) (map (λ k. is_ancestor graph k k) (numbers_from 0 n))) size ∙ none_cyclic (declarations tree) graph 0 (entities tree) all (found_entities tree all h))

listed_entities : (tree : Schema) (all : List NamedEntity) → named_entities tree ≡ Ok all → graph_of tree ≡ map (λ e. e.supertypes) all
unfolding supertype_graph
listed_entities tree all h = sym (gave_map (named_entity (declarations tree) (graph_of tree)) (λ e. e.supertypes) (λ e. filter_map (entity_meant (declarations tree)) e.head.supertypes)
    (supertypes_of (declarations tree) (graph_of tree)) 0 (entities tree) all (found_entities tree all h))

-- ---- what some tree resolves to

-- the tree's schema, and the graph of its entities
whole_of : (tree : Schema) (r : Resolved) → resolved tree ≡ Ok r → (named_schema tree ≡ Ok r.schema) × (graph_of tree ≡ r.supertypes)
unfolding resolved
whole_of tree r h =
    let found = given_ok _ (named_schema tree) r h in
    (found.1.0 ∙ ap (λ x. Ok x.schema) found.1.1, ap (λ x. x.supertypes) found.1.1)

pub resolved_by : (tree : Schema) (found : NamedSchema) → named_schema tree ≡ Ok found → IsResolved (record { schema = found; supertypes = supertype_graph (declarations tree) (entities tree) })
unfolding resolved
resolved_by tree found h = (tree, rw h refl)

pub acyclic : (r : Resolved) → IsResolved r → IsAcyclic r.supertypes
acyclic r h =
    let whole = whole_of h.0 r h.1 in
    let entities = (parts_of h.0 r.schema whole.0).entities in
    subst IsAcyclic whole.1 (acyclic_entities h.0 r.schema.entities entities)

pub listed : (r : Resolved) → IsResolved r → r.supertypes ≡ map (λ e. e.supertypes) r.schema.entities
listed r h =
    let whole = whole_of h.0 r h.1 in
    sym whole.1 ∙ listed_entities h.0 r.schema.entities (parts_of h.0 r.schema whole.0).entities
