-- The entities of a schema, by what redeclares the attributes of each in DERIVE.
use Rattle.std.proofs.Common.{◌≡◌, ℕ, zero, suc, ◌+◌, ◌<◌, ◌==◌, Bool, true, false, List, [], ◌∷◌, ◌++◌, map, filter, length, drop, get_or, replicate, if◌then◌else◌, refl, sym, ◌∙◌, ap, arith, append_assoc, drop-cons, add-one, subst, IfOk, Result, Ok}
use Rattle.std.specs.List.{flat_map}
use Rattle.ex_attributes.specs.Attributes.{same_place}
use Rattle.ex_named.specs.declared.declaration.NamedEntity.{NamedEntity}
use Rattle.ex_named.specs.declared.declaration.NamedSchema.{NamedSchema}
use Rattle.ex_named.specs.declared.reference.AttributePlace.{AttributePlace}
use Rattle.ex_named.specs.declared.reference.AttributeSort.TheVariants as sort
use Rattle.ex_slots.specs.Slots.{declared_by}
use Rattle.plain_data.specs.Numbers.{numbered, numbered_from}
use Rattle.rp_meaning.specs.declared.schema.Derivation.{Derivation}
use Rattle.rp_meaning.specs.declared.schema.Entity.{Entity}
use Rattle.rp_meaning.specs.Compiled as compiled
use Rattle.rp_meaning.specs.Compiled.{Rederived, own_derivations}
use Rattle.rp_meaning.specs.CompiledExpressions.{Declared}
use Rattle.rp_compile_names.specs.Found.{by_entity, deepest_first, derivations, rederived_by}
use Rattle.rp_compile_names.specs.Rows.{row, put_all, of_number}
use Rattle.rp_compile_names.proofs.Put.{rows-are}
use Rattle.rp_compile.specs.Declarations as spec

-- ---- what redeclares an attribute stands in the row of its entity

elsewhere : (a b : AttributePlace) → (a.entity == b.entity) ≡ false → same_place a b ≡ false
elsewhere a b is = rw is refl

abbrev given_by : Rederived → Derivation
given_by d = d.1

both : (test : Rederived → Bool) (u : Bool) (d : Rederived) (xs ys : List Rederived) → test d ≡ u → map given_by (filter test xs) ≡ map given_by (filter test ys)
    → map given_by (filter test (d ∷ xs)) ≡ map given_by (filter test (d ∷ ys))
both test true d xs ys is same = rw is (ap (λ zs. d.1 ∷ zs) same)
both test false d xs ys is same = rw is same

passed : (test : Rederived → Bool) (d : Rederived) (xs : List Rederived) → test d ≡ false → map given_by (filter test (d ∷ xs)) ≡ map given_by (filter test xs)
passed test d xs is = rw is refl

kept : (number : ℕ) (d : Rederived) (xs : List Rederived) (t : Bool) → (d.0.entity == number) ≡ t
    → of_number number (by_entity (d ∷ xs)) ≡ (if t then d ∷ of_number number (by_entity xs) else of_number number (by_entity xs))
kept number d xs true is = rw is refl
kept number d xs false is = rw is refl

one : (t : Bool) (place : AttributePlace) (d : Rederived) (xs : List Rederived) → (d.0.entity == place.entity) ≡ t
    → derivations (of_number place.entity (by_entity xs)) place ≡ derivations xs place → derivations (of_number place.entity (by_entity (d ∷ xs))) place ≡ derivations (d ∷ xs) place
one true place d xs is same = ap (λ (ds : List Rederived). derivations ds place) (kept place.entity d xs true is) ∙ both (λ e. same_place e.0 place) (same_place d.0 place) d (of_number place.entity (by_entity xs)) xs refl same
one false place d xs is same = ap (λ (ds : List Rederived). derivations ds place) (kept place.entity d xs false is) ∙ same ∙ sym (passed (λ e. same_place e.0 place) d xs (elsewhere d.0 place is))

in-row : (place : AttributePlace) (xs : List Rederived) → derivations (of_number place.entity (by_entity xs)) place ≡ derivations xs place
in-row place [] = refl
in-row place (d ∷ xs) = one (d.0.entity == place.entity) place d xs refl (in-row place xs)

-- ---- entities

module _ (schema : NamedSchema) where
  abbrev all : List Rederived
  all = flat_map (rederived_by schema.entities) (deepest_first (compiled.supertypes schema) (compiled.entity_order schema))

  abbrev rows : List (List Rederived)
  rows = put_all (replicate (length schema.entities) []) (by_entity all)

  found : (number : ℕ) (place : AttributePlace) → number < length schema.entities → place.entity ≡ number
      → derivations (row rows number) place ≡ compiled.derivations schema.entities (compiled.supertypes schema) place
  found number place h is = ap (λ xs. derivations xs place) (rows-are (length schema.entities) (by_entity all) number h) ∙ rw (sym is) (in-row place all)

  entity-same : (number : ℕ) (x : NamedEntity) → number < length schema.entities
      → spec.entity (compiled.declared schema) schema.name.text (row rows number) number x ≡ compiled.entity schema number x
  entity-same number x h = λ i. record {
    name = compiled.entity_name schema x;
    explicit = numbered (λ place d. record { declaration = compiled.explicit_declaration d.1; derivations = found number (record { entity = number; sort = sort.Explicit; place = place }) h refl i }) (declared_by x);
    redeclarations = flat_map compiled.redeclarations_in x.explicit;
    derived = numbered (λ place itself. found number (record { entity = number; sort = sort.Derived; place = place }) h refl i ++ itself ∷ []) (own_derivations number x.derived);
    derivations = spec.derivations_of (compiled.declared schema) number x.derived;
    inverse = map compiled.inverse x.inverse;
    unique_rules = map (λ rule. map compiled.declaration rule.attributes) x.unique_rules;
    domain_rules = spec.entity_rules (compiled.declared schema) number x.domain_rules;
  }

  all-same : (k : ℕ) (xs : List NamedEntity) → k + length xs ≡ length schema.entities
      → numbered_from (λ number x. spec.entity (compiled.declared schema) schema.name.text (row rows number) number x) k xs ≡ numbered_from (compiled.entity schema) k xs
  all-same k [] is = refl
  all-same k (x ∷ xs) is = λ i. entity-same k x (omega (arith, is)) i ∷ all-same (suc k) xs (omega (arith, is)) i

  pub entities-same : numbered (λ number x. spec.entity (compiled.declared schema) schema.name.text (row rows number) number x) schema.entities ≡ numbered (compiled.entity schema) schema.entities
  entities-same = all-same zero schema.entities (omega arith)

pub entities-found : (schema : NamedSchema) (declared : Declared) (name : List ℕ) (list others : List NamedEntity) (graph : List (List ℕ)) (order : List ℕ) (rederived : List (List Rederived))
    → declared ≡ compiled.declared schema → name ≡ schema.name.text → list ≡ schema.entities → others ≡ schema.entities → graph ≡ compiled.supertypes schema → order ≡ compiled.entity_order schema
    → rederived ≡ put_all (replicate (length others) []) (by_entity (flat_map (rederived_by others) (deepest_first graph order)))
    → numbered (λ number x. spec.entity declared name (row rederived number) number x) list ≡ numbered (compiled.entity schema) schema.entities
entities-found schema declared name list others graph order rederived of-declared of-name of-list of-others of-graph of-order of-rows =
    let same : rederived ≡ rows schema = of-rows ∙ (λ i. put_all (replicate (length (of-others i)) []) (by_entity (flat_map (rederived_by (of-others i)) (deepest_first (of-graph i) (of-order i))))) in
    (λ i. numbered (λ number x. spec.entity (of-declared i) (of-name i) (row (same i) number) number x) (of-list i)) ∙ entities-same schema

-- what was made stands behind the others
pub put-made : {E : Type 0} (found after : List Entity) (it : Entity) (made : Result Entity E) → IfOk made (λ x. x ≡ it)
    → ((x : Entity) × (made ≡ Ok x) × (after ≡ found ++ x ∷ [])) → after ≡ found ++ it ∷ []
put-made {E} found after it made is put = put.2 ∙ ap (λ (x : Entity). found ++ x ∷ []) (subst (λ (r : Result Entity E). IfOk r (λ x. x ≡ it)) put.1 is)

-- one more entity
pub next-entity : (schema : Declared) (name : List ℕ) (rederived : List (List Rederived)) (list : List NamedEntity) (i : ℕ) (x : NamedEntity) (its : List Rederived) (found after : List Entity)
    → i < length list → x ≡ get_or list i x → its ≡ row rederived i → after ≡ found ++ spec.entity schema name its i x ∷ []
    → after ++ numbered_from (λ number y. spec.entity schema name (row rederived number) number y) (i + 1) (drop (i + 1) list)
    ≡ found ++ numbered_from (λ number y. spec.entity schema name (row rederived number) number y) i (drop i list)
next-entity schema name rederived list i x its found after h is of-its put =
    let each : ℕ → NamedEntity → Entity = λ number y. spec.entity schema name (row rederived number) number y in
    let rest = numbered_from each (i + 1) (drop (i + 1) list) in
    let whole : numbered_from each i (drop i list) ≡ each i x ∷ rest =
    ap (numbered_from each i) (drop-cons list i x h ∙ (λ j. sym is j ∷ drop (suc i) list)) ∙ ap (λ (k : ℕ). each i x ∷ numbered_from each k (drop k list)) (sym (add-one i)) in
    ap (λ (es : List Entity). es ++ rest) (put ∙ ap (λ (ds : List Rederived). found ++ spec.entity schema name ds i x ∷ []) of-its)
    ∙ append_assoc found (each i x ∷ []) rest ∙ ap (λ (es : List Entity). found ++ es) (sym whole)
