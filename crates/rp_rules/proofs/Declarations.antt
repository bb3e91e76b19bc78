-- What holds of one of the declarations of an attribute, declaration by declaration.
use Rattle.std.proofs.Common.{◌≡◌, ℕ, ◌&&◌, ◌||◌, Bool, true, false, List, [], ◌∷◌, ◌++◌, map, filter, Option, Some, None, slice_get, refl, ap, ◌∙◌, if◌then◌else◌}
use Rattle.std.proofs.lemmas.List.Folds.{list_any-append}
use Rattle.std.specs.List.{flat_map, list_any}
use Rattle.std.specs.Option.{option_and_then, option_map_or}
use Rattle.ex_named.specs.declared.expression.NamedDataType.{NamedDataType}
use Rattle.ex_named.specs.declared.reference.AttributePlace.{AttributePlace}
use Rattle.rp_faults.specs.Declarations.{declared_types}
use Rattle.rp_meaning.specs.declared.schema.DefinedType.{DefinedType}
use Rattle.rp_meaning.specs.declared.schema.Entity.{Entity}
use Rattle.rp_meaning.specs.declared.schema.Explicit.{Explicit}
use Rattle.rp_meaning.specs.declared.schema.ExplicitAttribute.{ExplicitAttribute}
use Rattle.rp_meaning.specs.declared.schema.Redeclaration.{Redeclaration}
use Rattle.rp_meaning.specs.declared.schema.Schema.{Schema}
use Rattle.rp_meaning.specs.Attributes.{entity_at}
use Rattle.rp_meaning.specs.Faults.{own_declaration, redeclared_by}
use Rattle.rp_meaning.specs.Populations.{Instance}
use Rattle.rp_meaning.specs.TypeRules.{is_tried}
use Rattle.rp_meaning.specs.Uses.{same_attribute}
use Rattle.rp_rules.specs.Tried.{again, by, redeclarations_of}
use Rattle.rp_value.specs.declared.value.Value.{Value}

or_false : (b : Bool) → (b || false) ≡ b
or_false true = refl
or_false false = refl

any-map : {A B : Type 0} (p : B → Bool) (f : A → B) (xs : List A) → list_any p (map f xs) ≡ list_any (λ x. p (f x)) xs
any-map p f [] = refl
any-map p f (x ∷ xs) = ap (λ (b : Bool). p (f x) || b) (any-map p f xs)

kept-one : {A : Type 0} (p : A → Bool) (x : A) (xs : List A) (kept any : Bool) → list_any p xs ≡ any → list_any p (if kept then x ∷ xs else xs) ≡ (kept && p x || any)
kept-one p x xs true any is = ap (λ (b : Bool). p x || b) is
kept-one p x xs false any is = is

any-filter : {A : Type 0} (p q : A → Bool) (xs : List A) → list_any p (filter q xs) ≡ list_any (λ x. q x && p x) xs
any-filter p q [] = refl
any-filter p q (x ∷ xs) = kept-one p x (filter q xs) (q x) (list_any (λ x. q x && p x) xs) (any-filter p q xs)

any-flat : {A B : Type 0} (p : B → Bool) (f : A → List B) (xs : List A) → list_any p (flat_map f xs) ≡ list_any (λ x. list_any p (f x)) xs
any-flat p f [] = refl
any-flat p f (x ∷ xs) = list_any-append p (f x) (flat_map f xs) ∙ ap (λ (b : Bool). list_any p (f x) || b) (any-flat p f xs)

any-same : {A : Type 0} (p q : A → Bool) → ((x : A) → p x ≡ q x) → (xs : List A) → list_any p xs ≡ list_any q xs
any-same p q same [] = refl
any-same p q same (x ∷ xs) = λ i. same x i || any-same p q same xs i

-- for no element, for none of all
pub any-none : {A : Type 0} (p : A → Bool) → ((x : A) → p x ≡ false) → (xs : List A) → list_any p xs ≡ false
any-none p none [] = refl
any-none p none (x ∷ xs) = rw (none x) (any-none p none xs)

module _ (passes : NamedDataType → Bool) where
  abbrev pub again_passes : AttributePlace → Redeclaration → Bool
  again_passes a r = same_attribute r.attribute a && passes r.declaration.data_type

  abbrev passes_by : Explicit → Bool
  passes_by x = passes x.data_type

  own-passes : (o : Option ExplicitAttribute) → list_any passes_by (option_map_or (λ (x : ExplicitAttribute). x.declaration ∷ []) o []) ≡ option_map_or (λ (x : ExplicitAttribute). passes x.declaration.data_type) o false
  own-passes None = refl
  own-passes (Some x) = or_false (passes x.declaration.data_type)

  entity-passes : (a : AttributePlace) (o : Option Entity)
      → list_any passes_by (option_map_or (λ (e : Entity). map (λ (x : Redeclaration). x.declaration) (filter (λ (x : Redeclaration). same_attribute x.attribute a) e.redeclarations)) o [])
      ≡ list_any (again_passes a) (option_map_or (λ (e : Entity). e.redeclarations) o [])
  entity-passes a None = refl
  entity-passes a (Some e) =
      any-map passes_by (λ (x : Redeclaration). x.declaration) (filter (λ (x : Redeclaration). same_attribute x.attribute a) e.redeclarations)
      ∙ any-filter (λ (x : Redeclaration). passes x.declaration.data_type) (λ (x : Redeclaration). same_attribute x.attribute a) e.redeclarations

  pub any-declared : (schema : Schema) (entities : List ℕ) (a : AttributePlace)
      → list_any passes (declared_types schema entities a)
      ≡ (option_map_or (λ (x : ExplicitAttribute). passes x.declaration.data_type) (option_and_then (λ (e : Entity). slice_get e.explicit a.place) (entity_at schema a.entity)) false
      || list_any (λ entity. list_any (again_passes a) (redeclarations_of schema entity)) entities)
  any-declared schema entities a =
      any-map passes (λ (x : Explicit). x.data_type) (own_declaration schema a ++ flat_map (redeclared_by schema a) entities)
      ∙ list_any-append passes_by (own_declaration schema a) (flat_map (redeclared_by schema a) entities)
      ∙ (λ i. own-passes (option_and_then (λ (e : Entity). slice_get e.explicit a.place) (entity_at schema a.entity)) i || any-flat passes_by (redeclared_by schema a) entities i)
      ∙ ap (λ (b : Bool). option_map_or (λ (x : ExplicitAttribute). passes x.declaration.data_type) (option_and_then (λ (e : Entity). slice_get e.explicit a.place) (entity_at schema a.entity)) false || b)
      (any-same (λ entity. list_any passes_by (redeclared_by schema a entity)) (λ entity. list_any (again_passes a) (redeclarations_of schema entity)) (λ entity. entity-passes a (entity_at schema entity)) entities)

-- whether the rules of a type are tried on a value itself
pub tried-declared : (types : List DefinedType) (population : List Instance) (number : ℕ) (schema : Schema) (entities : List ℕ) (a : AttributePlace) (x y : Value)
    → is_tried types population number (declared_types schema entities a) x y
    ≡ (option_map_or (λ (d : ExplicitAttribute). by types population number x y d.declaration.data_type) (option_and_then (λ (e : Entity). slice_get e.explicit a.place) (entity_at schema a.entity)) false
    || list_any (λ entity. list_any (again types population number x y a) (redeclarations_of schema entity)) entities)
tried-declared types population number schema entities a x y = any-declared (by types population number x y) schema entities a
