-- What a tree declares is in range in the schema that it resolves to.
use Rattle.std.proofs.Common.{◌≡◌, ℕ, zero, suc, ◌+◌, ◌<◌, ◌≤◌, Bool, true, false, cond, nat_lt, List, [], ◌∷◌, map, length, length-append, Option, Some, None, Ok, refl, sym, ap, ◌∙◌, arith}
use Rattle.std.proofs.lemmas.List.{length-map, map-append}
use Rattle.std.specs.Prelude.{slice_get, slice_index_or}
use Rattle.std.specs.List.{cons_option, filter, filter_map, flat_map, list_all}
use Rattle.plain_data.specs.Numbers.{numbered, numbered_from}
use Rattle.ex_tree.specs.declared.declaration.AttributeDeclaration.{AttributeDeclaration}
use Rattle.ex_tree.specs.declared.declaration.AttributeDeclaration.TheVariants as a
use Rattle.ex_tree.specs.declared.declaration.Constant.{Constant}
use Rattle.ex_tree.specs.declared.declaration.Declaration.{Declaration}
use Rattle.ex_tree.specs.declared.declaration.Declaration.TheVariants as t
use Rattle.ex_tree.specs.declared.declaration.DerivedAttribute.{DerivedAttribute}
use Rattle.ex_tree.specs.declared.declaration.Entity.{Entity}
use Rattle.ex_tree.specs.declared.declaration.ExplicitAttribute.{ExplicitAttribute}
use Rattle.ex_tree.specs.declared.declaration.InverseAttribute.{InverseAttribute}
use Rattle.ex_tree.specs.declared.declaration.Schema.{Schema}
use Rattle.ex_tree.specs.declared.declaration.TypeDeclaration.{TypeDeclaration}
use Rattle.ex_tree.specs.declared.declaration.UnderlyingType.{UnderlyingType}
use Rattle.ex_tree.specs.declared.declaration.UnderlyingType.TheVariants as u
use Rattle.ex_tree.specs.declared.expression.Name.{Name}
use Rattle.ex_named.specs.declared.declaration.NamedAttribute.{NamedAttribute}
use Rattle.ex_named.specs.declared.declaration.NamedAttribute.TheVariants as na
use Rattle.ex_named.specs.declared.declaration.NamedDerived.{NamedDerived}
use Rattle.ex_named.specs.declared.declaration.NamedEntity.{NamedEntity}
use Rattle.ex_named.specs.declared.declaration.NamedExplicit.{NamedExplicit}
use Rattle.ex_named.specs.declared.declaration.NamedInverse.{NamedInverse}
use Rattle.ex_named.specs.declared.declaration.NamedSchema.{NamedSchema}
use Rattle.ex_named.specs.declared.declaration.NamedUnderlying.{NamedUnderlying}
use Rattle.ex_named.specs.declared.reference.AttributePlace.{AttributePlace}
use Rattle.ex_named.specs.declared.reference.AttributeSort.{AttributeSort}
use Rattle.ex_named.specs.declared.reference.AttributeSort.TheVariants.{Explicit, Derived, Inverse}
use Rattle.ex_named.specs.declared.reference.Declared.{Declared}
use Rattle.ex_named.specs.declared.reference.Declared.TheVariants as d
use Rattle.ex_named.specs.declared.reference.EnumerationItem.{EnumerationItem}
use Rattle.ex_named.specs.Scopes.{Declarations}
use Rattle.ex_scopes.specs.Sorts.{explicit_alone, explicit_or_derived}
use Rattle.ex_declarations.specs.Declared.{attributes_of_entity, concatenated, declarations, declared_names, derived_names, entities, entity_of, explicit_names, function_of, functions, inverse_names, items_of, items_of_type, names_from, own_name, placed, supertype_graph, type_graph, type_of, types}
use Rattle.ex_bind_algorithms.specs.Algorithms.{constant, named_function}
use Rattle.ex_bind_entities.specs.Entities as bind
use Rattle.ex_bind_entities.specs.Entities.{named_entity, named_type}
use Rattle.ex_resolve.proofs.Accepted.{GaveNumbered, each_numbered_ok, gave_map, Parts}
use Rattle.ex_resolve.proofs.Meanings.{IsIn, declared_in}
use Rattle.ex_resolve.proofs.Pieces.{entity_parts, type_parts}
use Rattle.ex_resolve.proofs.Truths.{true_and, all_append, below}
use Rattle.ex_resolve.proofs.Wholes.{given_ok, both_ok, Gave, each_ok}
use Rattle.ex_resolve.proofs.Wholes as plain
use Rattle.ex_resolve.specs.Ranges.{Range, attribute_count, item_count, range_of}
use Rattle.ex_resolve.specs.Schemas.{is_own, named_types, named_entities, named_functions}

-- ---- numbers of lists

index-map : {A : Type 0} (f : A → ℕ) (xs : List A) (k : ℕ) (x : A) → slice_get xs k ≡ Some x → slice_index_or (map f xs) k zero ≡ f x
index-map f [] k x h = absurd cc
index-map f (y ∷ ys) zero x h = let same : y ≡ x = cc in ap f same
index-map f (y ∷ ys) (suc k) x h = index-map f ys k x h

all_numbered : {A B : Type 0} (test : B → Bool) (make : ℕ → A → B) (n k : ℕ) (xs : List A) → k + length xs ≤ n
    → ((j : ℕ) (x : A) → j < n → test (make j x) ≡ true) → list_all test (numbered_from make k xs) ≡ true
all_numbered test make n k [] h holds = refl
all_numbered test make n k (x ∷ xs) h holds = true_and (test (make k x)) _ (holds k x (omega (arith, h))) (all_numbered test make n (suc k) xs (omega (arith, h)) holds)

all_concatenated : {A B : Type 0} (test : B → Bool) (make : ℕ → A → List B) (k : ℕ) (xs : List A)
    → ((j : ℕ) (x : A) → slice_get xs j ≡ Some x → list_all test (make (k + j) x) ≡ true) → list_all test (concatenated (numbered_from make k xs)) ≡ true
all_concatenated test make k [] holds = refl
all_concatenated test make k (x ∷ xs) holds =
    let first : k + zero ≡ k = omega arith in
    all_append test (make k x) _ (ap (λ n. list_all test (make n x)) (sym first) ∙ holds zero x refl)
    (all_concatenated test make (suc k) xs (λ j y is. let next : suc k + j ≡ k + suc j = omega arith in ap (λ n. list_all test (make n y)) next ∙ holds (suc j) y is))

-- ---- names of declarations

-- what each of these names is declared as is in range
abbrev RowsIn : Range → List (Name × Declared) → Type 0
RowsIn r rows = list_all (λ (row : List ℕ × Declared). declared_in r row.1) (map (λ (row : Name × Declared). (row.0.text, row.1)) rows) ≡ true

module _ (r : Range) (types entities functions : ℕ) (type : (k : ℕ) → k < types → r.type k ≡ true) (entity : (k : ℕ) → k < entities → r.entity k ≡ true)
    (function : (k : ℕ) → k < functions → r.function k ≡ true) where
  pub names_in : (a b c e : ℕ) (ds : List Declaration) → a + length (filter_map type_of ds) ≤ types → b + length (filter_map entity_of ds) ≤ entities
      → c + length (filter_map function_of ds) ≤ functions → RowsIn r (names_from a b c e ds)
  names_in a b c e [] at ae af = refl
  names_in a b c e (t.Type x ∷ ds) at ae af = true_and (r.type a) _ (type a (omega (arith, at))) (names_in (suc a) b c e ds (omega (arith, at)) ae af)
  names_in a b c e (t.Entity x ∷ ds) at ae af = true_and (r.entity b) _ (entity b (omega (arith, ae))) (names_in a (suc b) c e ds at (omega (arith, ae)) af)
  names_in a b c e (t.Function x ∷ ds) at ae af = true_and (r.function c) _ (function c (omega (arith, af))) (names_in a b (suc c) e ds at ae (omega (arith, af)))
  names_in a b c e (t.Rule x ∷ ds) at ae af = names_in a b c (suc e) ds at ae af

constant_names_in : (r : Range) (constants : ℕ) → ((k : ℕ) → k < constants → r.constant k ≡ true) → (k : ℕ) (cs : List Constant) → k + length cs ≤ constants
    → RowsIn r (numbered_from (λ k c. (c.name, d.Constant k)) k cs)
constant_names_in r constants there k [] h = refl
constant_names_in r constants there k (c ∷ cs) h = true_and (r.constant k) _ (there k (omega (arith, h))) (constant_names_in r constants there (suc k) cs (omega (arith, h)))

-- ---- attributes: as many as the tree declares

abbrev if_own : Bool → ℕ
if_own true = suc zero
if_own false = zero

abbrev if_named : Option Name → ℕ
if_named (Some n) = suc zero
if_named None = zero

length-kept : {A : Type 0} (b : Bool) (x : A) (xs : List A) → length (cond b (x ∷ xs) xs) ≡ if_own b + length xs
length-kept true x xs = omega arith
length-kept false x xs = omega arith

length-option : (o : Option Name) (ns : List Name) → length (cons_option o ns) ≡ if_named o + length ns
length-option (Some n) ns = omega arith
length-option None ns = omega arith

module _ (schema : Declarations) (graph : List (List ℕ)) (can_stand : AttributeSort → Bool) (k : ℕ) where
  attribute_same : (x : AttributeDeclaration) (y : NamedAttribute) → bind.attribute schema graph can_stand k x ≡ Ok y → if_own (is_own y) ≡ if_named (own_name x)
  unfolding bind.attribute
  attribute_same (a.Own n) y h = let same : na.Own n ≡ y = cc in ap (λ z. if_own (is_own z)) (sym same)
  attribute_same (a.Qualified q) y h = let found = given_ok na.Redeclared _ y h in ap (λ z. if_own (is_own z)) (sym found.1.1)

  own_same : (xs : List AttributeDeclaration) (ys : List NamedAttribute) → Gave (bind.attribute schema graph can_stand k) xs ys → length (filter is_own ys) ≡ length (filter_map own_name xs)
  own_same [] [] h = refl
  own_same [] (y ∷ ys) h = absurd h
  own_same (x ∷ xs) [] h = absurd h
  own_same (x ∷ xs) (y ∷ ys) h = length-kept (is_own y) y (filter is_own ys) ∙ ap (λ n. n + length (filter is_own ys)) (attribute_same x y h.0)
      ∙ ap (λ n. if_named (own_name x) + n) (own_same xs ys h.1) ∙ sym (length-option (own_name x) (filter_map own_name xs))

module _ (schema : Declarations) (graph : List (List ℕ)) (k : ℕ) where
  explicit_same : (xs : List ExplicitAttribute) (ys : List NamedExplicit) → Gave (bind.explicit_attribute schema graph k) xs ys
      → length (flat_map (λ y. filter is_own y.attributes) ys) ≡ length (flat_map (λ x. filter_map own_name x.attributes) xs)
  unfolding bind.explicit_attribute
  explicit_same [] [] h = refl
  explicit_same [] (y ∷ ys) h = absurd h
  explicit_same (x ∷ xs) [] h = absurd h
  explicit_same (x ∷ xs) (y ∷ ys) h =
      let found = given_ok _ _ y h.0 in
      let names = each_ok (bind.attribute schema graph explicit_alone k) x.attributes found.0.0 (both_ok _ _ found.0 found.1.0).0 in
      let here : length (filter is_own y.attributes) ≡ length (filter_map own_name x.attributes) =
      ap (λ z. length (filter is_own z.attributes)) (sym found.1.1) ∙ own_same schema graph explicit_alone k x.attributes found.0.0 names in
      length-append (filter is_own y.attributes) (flat_map (λ z. filter is_own z.attributes) ys)
      ∙ ap (λ n. n + length (flat_map (λ z. filter is_own z.attributes) ys)) here
      ∙ ap (λ n. length (filter_map own_name x.attributes) + n) (explicit_same xs ys h.1)
      ∙ sym (length-append (filter_map own_name x.attributes) (flat_map (λ z. filter_map own_name z.attributes) xs))

  derived_same : (xs : List DerivedAttribute) (ys : List NamedDerived) → Gave (bind.derived_attribute schema graph k) xs ys
      → length (filter (λ y. is_own y.attribute) ys) ≡ length (filter_map (λ x. own_name x.attribute) xs)
  unfolding bind.derived_attribute
  derived_same [] [] h = refl
  derived_same [] (y ∷ ys) h = absurd h
  derived_same (x ∷ xs) [] h = absurd h
  derived_same (x ∷ xs) (y ∷ ys) h =
      let found = given_ok _ _ y h.0 in
      let first = both_ok _ _ found.0.0 (both_ok _ _ found.0 found.1.0).0 in
      let here : if_own (is_own y.attribute) ≡ if_named (own_name x.attribute) =
      ap (λ z. if_own (is_own z.attribute)) (sym found.1.1) ∙ attribute_same schema graph explicit_or_derived k x.attribute found.0.0.0 first.0 in
      length-kept (is_own y.attribute) y (filter (λ z. is_own z.attribute) ys) ∙ ap (λ n. n + length (filter (λ z. is_own z.attribute) ys)) here
      ∙ ap (λ n. if_named (own_name x.attribute) + n) (derived_same xs ys h.1) ∙ sym (length-option (own_name x.attribute) (filter_map (λ z. own_name z.attribute) xs))

  inverse_same : (xs : List InverseAttribute) (ys : List NamedInverse) → Gave (bind.inverse_attribute schema graph) xs ys → length ys ≡ length (map (λ x. x.name) xs)
  inverse_same [] [] h = refl
  inverse_same [] (y ∷ ys) h = absurd h
  inverse_same (x ∷ xs) [] h = absurd h
  inverse_same (x ∷ xs) (y ∷ ys) h = ap suc (inverse_same xs ys h.1)

-- how many attributes a tree's entity declares so
abbrev declared_count : AttributeSort → Entity → ℕ
declared_count Explicit e = length (explicit_names e.body)
declared_count Derived e = length (derived_names e.body)
declared_count Inverse e = length (inverse_names e.body)

count_same : (schema : Declarations) (graph : List (List ℕ)) (sort : AttributeSort) (k : ℕ) (e : Entity) (y : NamedEntity) → named_entity schema graph k e ≡ Ok y
    → attribute_count sort y ≡ declared_count sort e
count_same schema graph Explicit k e y h = explicit_same schema graph k e.body.explicit y.explicit (each_ok (bind.explicit_attribute schema graph k) e.body.explicit y.explicit (entity_parts schema graph k e y h).explicit)
count_same schema graph Derived k e y h = derived_same schema graph k e.body.derived y.derived (each_ok (bind.derived_attribute schema graph k) e.body.derived y.derived (entity_parts schema graph k e y h).derived)
count_same schema graph Inverse k e y h = inverse_same schema graph k e.body.inverse y.inverse (each_ok (bind.inverse_attribute schema graph) e.body.inverse y.inverse (entity_parts schema graph k e y h).inverse)

-- ---- items: as many as the tree declares

items_same : (schema : Declarations) (x : UnderlyingType) (y : NamedUnderlying) → bind.underlying schema [] x ≡ Ok y → item_count y ≡ length (items_of x)
unfolding bind.underlying
items_same schema (u.Enumeration names) y h = let found = given_ok _ _ y h in ap item_count (sym found.1.1)
items_same schema (u.Select names) y h = let found = given_ok _ _ y h in ap item_count (sym found.1.1)
items_same schema (u.Data x) y h = let found = given_ok _ _ y h in ap item_count (sym found.1.1)

-- ---- all that a tree declares

placed_in : (test : AttributePlace → Bool) (entity : ℕ) (sort : AttributeSort) (names : List Name)
    → ((j : ℕ) → j < length names → test (record { entity = entity; sort = sort; place = j }) ≡ true) → list_all (λ (row : List ℕ × AttributePlace). test row.1) (placed entity sort names) ≡ true
placed_in test entity sort names holds = all_numbered (λ (row : List ℕ × AttributePlace). test row.1) _ (length names) zero names (omega arith) (λ j x less. holds j less)

module _ (tree : Schema) (found : NamedSchema) (parts : Parts tree found) where
  constants_same : length found.constants ≡ length tree.constants
  constants_same = sym (length-map found.constants (λ c. zero)) ∙ ap length (plain.gave_map (constant (declarations tree)) (λ c. zero) (λ c. zero) (λ x y h. refl) tree.constants found.constants
      (each_ok (constant (declarations tree)) tree.constants found.constants parts.constants)) ∙ length-map tree.constants (λ c. zero)

  functions_same : length found.functions ≡ length (functions tree)
  unfolding named_functions
  functions_same = sym (length-map found.functions (λ c. zero)) ∙ ap length (plain.gave_map (named_function (declarations tree)) (λ c. zero) (λ c. zero) (λ x y h. refl) (functions tree) found.functions
      (each_ok (named_function (declarations tree)) (functions tree) found.functions parts.functions)) ∙ length-map (functions tree) (λ c. zero)

  pub gave_types : GaveNumbered (named_type (declarations tree) [] (type_graph (declarations tree) (types tree))) zero (types tree) found.types
  unfolding named_types
  gave_types = each_numbered_ok (named_type (declarations tree) [] (type_graph (declarations tree) (types tree))) (types tree) found.types parts.types

  pub gave_entities : GaveNumbered (named_entity (declarations tree) (supertype_graph (declarations tree) (entities tree))) zero (entities tree) found.entities
  unfolding named_entities
  gave_entities = each_numbered_ok (named_entity (declarations tree) (supertype_graph (declarations tree) (entities tree))) (entities tree) found.entities parts.entities

  items_counted : map (λ x. item_count x.underlying) found.types ≡ map (λ x. length (items_of x.underlying)) (types tree)
  items_counted = gave_map (named_type (declarations tree) [] (type_graph (declarations tree) (types tree))) (λ x. item_count x.underlying) (λ x. length (items_of x.underlying))
      (λ k x y h. items_same (declarations tree) x.underlying y.underlying (type_parts (declarations tree) (type_graph (declarations tree) (types tree)) k x y h).underlying) zero (types tree) found.types gave_types

  attributes_counted : (sort : AttributeSort) → map (attribute_count sort) found.entities ≡ map (declared_count sort) (entities tree)
  attributes_counted sort = gave_map (named_entity (declarations tree) (supertype_graph (declarations tree) (entities tree))) (attribute_count sort) (declared_count sort) (count_same (declarations tree) (supertype_graph (declarations tree) (entities tree)) sort) zero (entities tree) found.entities gave_entities

  types_same : length found.types ≡ length (types tree)
  types_same = sym (length-map found.types (λ x. item_count x.underlying)) ∙ ap length items_counted ∙ length-map (types tree) (λ x. length (items_of x.underlying))

  entities_same : length found.entities ≡ length (entities tree)
  entities_same = sym (length-map found.entities (attribute_count Inverse)) ∙ ap length (attributes_counted Inverse) ∙ length-map (entities tree) (declared_count Inverse)

  abbrev r : Range
  r = range_of found

  item_there : (j : ℕ) (x : TypeDeclaration) → slice_get (types tree) j ≡ Some x → (place : ℕ) → place < length (items_of x.underlying)
      → r.item (record { type_number = zero + j; place = place }) ≡ true
  item_there j x is place less =
      let at : zero + j ≡ j = omega arith in
      let count : slice_index_or (map (λ x. item_count x.underlying) found.types) j zero ≡ length (items_of x.underlying) =
      ap (λ l. slice_index_or l j zero) items_counted ∙ index-map (λ x. length (items_of x.underlying)) (types tree) j x is in
      ap (λ k. nat_lt place (slice_index_or (map (λ x. item_count x.underlying) found.types) k zero)) at ∙ ap (nat_lt place) count ∙ below place (length (items_of x.underlying)) less

  attribute_there : (sort : AttributeSort) (j : ℕ) (e : Entity) → slice_get (entities tree) j ≡ Some e → (place : ℕ) → place < declared_count sort e
      → r.attribute (record { entity = zero + j; sort = sort; place = place }) ≡ true
  attribute_there sort j e is place less =
      let at : zero + j ≡ j = omega arith in
      let count : slice_index_or (map (attribute_count sort) found.entities) j zero ≡ declared_count sort e =
      ap (λ l. slice_index_or l j zero) (attributes_counted sort) ∙ index-map (declared_count sort) (entities tree) j e is in
      ap (λ k. nat_lt place (slice_index_or (map (attribute_count sort) found.entities) k zero)) at ∙ ap (nat_lt place) count ∙ below place (declared_count sort e) less

  all_items_in : list_all (λ (row : List ℕ × EnumerationItem). r.item row.1) (concatenated (numbered items_of_type (types tree))) ≡ true
  all_items_in = all_concatenated (λ (row : List ℕ × EnumerationItem). r.item row.1) items_of_type zero (types tree)
      (λ j x is. all_numbered (λ (row : List ℕ × EnumerationItem). r.item row.1) _ (length (items_of x.underlying)) zero (items_of x.underlying) (omega arith) (λ place n less. item_there j x is place less))

  all_attributes_in : list_all (λ (row : List ℕ × AttributePlace). r.attribute row.1) (concatenated (numbered attributes_of_entity (entities tree))) ≡ true
  all_attributes_in = all_concatenated (λ (row : List ℕ × AttributePlace). r.attribute row.1) attributes_of_entity zero (entities tree)
      (λ j e is. all_append (λ (row : List ℕ × AttributePlace). r.attribute row.1) _ _ (all_append (λ (row : List ℕ × AttributePlace). r.attribute row.1) _ _
      (placed_in r.attribute (zero + j) Explicit (explicit_names e.body) (attribute_there Explicit j e is))
      (placed_in r.attribute (zero + j) Derived (derived_names e.body) (attribute_there Derived j e is)))
      (placed_in r.attribute (zero + j) Inverse (inverse_names e.body) (attribute_there Inverse j e is)))

  all_names_in : RowsIn r (declared_names tree)
  all_names_in =
      let cs = constant_names_in r (length found.constants) (λ k. below k (length found.constants)) zero tree.constants (omega (arith, constants_same)) in
      let ds = names_in r (length found.types) (length found.entities) (length found.functions) (λ k. below k (length found.types)) (λ k. below k (length found.entities))
      (λ k. below k (length found.functions)) zero zero zero zero tree.declarations (omega (arith, types_same)) (omega (arith, entities_same)) (omega (arith, functions_same)) in
      ap (list_all (λ (row : List ℕ × Declared). declared_in r row.1)) (map-append (λ (row : Name × Declared). (row.0.text, row.1)) (numbered_from (λ k c. (c.name, d.Constant k)) zero tree.constants) (names_from zero zero zero zero tree.declarations))
      ∙ all_append (λ (row : List ℕ × Declared). declared_in r row.1) (map (λ (row : Name × Declared). (row.0.text, row.1)) (numbered_from (λ k c. (c.name, d.Constant k)) zero tree.constants))
      (map (λ (row : Name × Declared). (row.0.text, row.1)) (names_from zero zero zero zero tree.declarations)) cs ds

  pub declared_in_range : IsIn r (declarations tree)
  unfolding declarations
  declared_in_range = record { names = all_names_in; attributes = all_attributes_in; items = all_items_in }
