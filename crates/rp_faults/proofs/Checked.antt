-- The attributes whose values are at fault, one after the other.
use Rattle.std.proofs.Common.{◌≡◌, ℕ, zero, suc, ◌+◌, ◌<◌, ◌≤◌, Bool, true, false, not, ◌&&◌, ◌||◌, List, [], ◌∷◌, ◌++◌, map, filter, length, drop, get_or, Option, Some, None, slice_get, slice_set, refl, sym, ap, ◌∙◌, arith, append_assoc, add-one, drop-cons}
use Rattle.std.proofs.lemmas.List.{drop_all, map-append}
use Rattle.std.proofs.lemmas.List.Elements.{filter-append}
use Rattle.std.proofs.lemmas.List.Folds.{list_any-append}
use Rattle.std.specs.List.{flat_map, list_any}
use Rattle.std.specs.Option.{is_some, option_map_or}
use Rattle.ex_named.specs.declared.expression.NamedDataType.{NamedDataType}
use Rattle.ex_named.specs.declared.reference.AttributePlace.{AttributePlace}
use Rattle.rp_meaning.specs.declared.domain.ReadValue.{ReadValue}
use Rattle.rp_meaning.specs.declared.report.Culprit.{Culprit}
use Rattle.rp_meaning.specs.declared.schema.Entity.{Entity}
use Rattle.rp_meaning.specs.declared.schema.Explicit.{Explicit}
use Rattle.rp_meaning.specs.declared.schema.ExplicitAttribute.{ExplicitAttribute}
use Rattle.rp_meaning.specs.declared.schema.Redeclaration.{Redeclaration}
use Rattle.rp_meaning.specs.declared.schema.Schema.{Schema}
use Rattle.rp_meaning.specs.Attributes.{derivation_in, entity_at, explicit_derivations}
use Rattle.rp_meaning.specs.Faults.{Held, declarations, held_from, held_of, is_checked, own_declaration, redeclared_by}
use Rattle.rp_meaning.specs.Populations.{Instance, Stored, as_read, stored}
use Rattle.rp_meaning.specs.Report.{attribute_culprit}
use Rattle.rp_meaning.specs.Uses.{same_attribute}
use Rattle.rp_faults.specs.Declarations.{redeclared_types}
use Rattle.rp_faults.specs.declared.held.Fault.{Fault}
use Rattle.rp_faults.specs.declared.held.Fault.TheVariants as f
use Rattle.rp_faults.specs.Held.{culprits, culprits_among, culprits_from, culprits_in, is_culprit, is_fault, is_fault_again, one_if, violates}
use Rattle.rp_value.specs.declared.value.Value.{Value}

pub or_false : (b : Bool) → (b || false) ≡ b
or_false true = refl
or_false false = refl

pub or_true : (b c : Bool) → b ≡ true → true ≡ (b || c)
or_true b c is = ap (λ (d : Bool). d || c) (sym is)

pub or_else : (b c : Bool) → b ≡ false → (b || c) ≡ c
or_else b c is = ap (λ (d : Bool). d || c) is

pub drop-read : {A : Type 0} (xs : List A) (i : ℕ) (x : A) → i < length xs → x ≡ get_or xs i x → drop i xs ≡ x ∷ drop (i + 1) xs
drop-read xs i x h is = rw (add-one) (drop-cons xs i x h ∙ ap (λ y. y ∷ drop (suc i) xs) (sym is))

pub drop-number : (xs : List ℕ) (i : ℕ) → i < length xs → drop i xs ≡ get_or xs i 0 ∷ drop (i + 1) xs
drop-number xs i h = rw (add-one) (drop-cons xs i 0 h)

drop-got : {A : Type 0} (xs : List A) (i : ℕ) (x : A) → slice_get xs i ≡ Some x → drop i xs ≡ x ∷ drop (i + 1) xs
drop-got [] i x h = absurd (cc)
drop-got (y ∷ xs) zero x h = let same : y ≡ x = cc in ap (λ z. z ∷ xs) same
drop-got (y ∷ xs) (suc i) x h = let e : suc (i + 1) ≡ suc i + 1 = omega arith in drop-got xs i x h ∙ ap (λ (k : ℕ). x ∷ drop k (y ∷ xs)) e

drop-none : {A : Type 0} (xs : List A) (i : ℕ) → slice_get xs i ≡ None → drop i xs ≡ []
drop-none [] zero h = refl
drop-none [] (suc i) h = refl
drop-none (y ∷ xs) zero h = absurd (cc)
drop-none (y ∷ xs) (suc i) h = drop-none xs i h

-- ---- declarations

any-by : {A B : Type 0} (p : B → Bool) (make : A → B) (q : A → Bool) (x : A) (xs : List A) (b : Bool) → q x ≡ b → list_any (λ x. q x && p (make x)) xs ≡ list_any p (map make (filter q xs))
    → list_any (λ x. q x && p (make x)) (x ∷ xs) ≡ list_any p (map make (filter q (x ∷ xs)))
any-by p make q x xs true is more = rw is (ap (λ (b : Bool). p (make x) || b) more)
any-by p make q x xs false is more = rw is more

-- of what is made of those that pass before
any-kept : {A B : Type 0} (p : B → Bool) (make : A → B) (q : A → Bool) (xs : List A) → list_any (λ x. q x && p (make x)) xs ≡ list_any p (map make (filter q xs))
any-kept p make q [] = refl
any-kept p make q (x ∷ xs) = any-by p make q x xs (q x) refl (any-kept p make q xs)

module _ (schema : Schema) (population : List Instance) (fault : Fault) (a : AttributePlace) (x : Value) where
  abbrev fails : Explicit → Bool
  fails d = is_fault schema population fault d x

  pub own-fault : (o : Option ExplicitAttribute) (e : ExplicitAttribute) → Some e ≡ o → list_any fails (option_map_or (λ e. e.declaration ∷ []) o []) ≡ fails e.declaration
  own-fault o e is = ap (λ (o : Option ExplicitAttribute). list_any fails (option_map_or (λ e. e.declaration ∷ []) o [])) (sym is) ∙ or_false (fails e.declaration)

  redeclared-by : (o : Option Entity) → list_any (is_fault_again schema population fault a x) (option_map_or (λ e. e.redeclarations) o [])
      ≡ list_any fails (option_map_or (λ e. map (λ x. x.declaration) (filter (λ x. same_attribute x.attribute a) e.redeclarations)) o [])
  redeclared-by None = refl
  redeclared-by (Some e) = any-kept fails (λ (r : Redeclaration). r.declaration) (λ (r : Redeclaration). same_attribute r.attribute a) e.redeclarations

  pub redeclared-fault : (entity : ℕ) → list_any (is_fault_again schema population fault a x) (option_map_or (λ e. e.redeclarations) (entity_at schema entity) []) ≡ list_any fails (redeclared_by schema a entity)
  redeclared-fault entity = redeclared-by (entity_at schema entity)

  redeclared-step : (entities : List ℕ) (i entity : ℕ) → drop i entities ≡ entity ∷ drop (i + 1) entities
      → list_any fails (flat_map (redeclared_by schema a) (drop i entities)) ≡ (list_any fails (redeclared_by schema a entity) || list_any fails (flat_map (redeclared_by schema a) (drop (i + 1) entities)))
  redeclared-step entities i entity is =
      ap (λ (es : List ℕ). list_any fails (flat_map (redeclared_by schema a) es)) is
      ∙ list_any-append fails (redeclared_by schema a entity) (flat_map (redeclared_by schema a) (drop (i + 1) entities))

  -- one entity more
  pub redeclared-found : (entities : List ℕ) (i : ℕ) (found : Bool) (rs : List Redeclaration) → i < length entities → found ≡ list_any (is_fault_again schema population fault a x) rs
      → rs ≡ option_map_or (λ e. e.redeclarations) (entity_at schema (get_or entities i 0)) []
      → list_any fails (flat_map (redeclared_by schema a) (drop i entities)) ≡ (found || list_any fails (flat_map (redeclared_by schema a) (drop (i + 1) entities)))
  redeclared-found entities i found rs h is these =
      redeclared-step entities i (get_or entities i 0) (drop-number entities i h)
      ∙ ap (λ (b : Bool). b || list_any fails (flat_map (redeclared_by schema a) (drop (i + 1) entities))) (sym (is ∙ ap (list_any (is_fault_again schema population fault a x)) these ∙ redeclared-fault (get_or entities i 0)))

-- ---- declared types

redeclared-types : (a : AttributePlace) (o : Option Entity) → redeclared_types a (option_map_or (λ e. e.redeclarations) o [])
    ≡ map (λ x. x.data_type) (option_map_or (λ e. map (λ x. x.declaration) (filter (λ x. same_attribute x.attribute a) e.redeclarations)) o [])
redeclared-types a None = refl
redeclared-types a (Some e) = refl

-- those of one entity more
pub declared-step : (schema : Schema) (a : AttributePlace) (entities : List ℕ) (i entity : ℕ) (found : List NamedDataType) → drop i entities ≡ entity ∷ drop (i + 1) entities
    → (found ++ redeclared_types a (option_map_or (λ e. e.redeclarations) (entity_at schema entity) [])) ++ map (λ x. x.data_type) (flat_map (redeclared_by schema a) (drop (i + 1) entities))
    ≡ found ++ map (λ x. x.data_type) (flat_map (redeclared_by schema a) (drop i entities))
declared-step schema a entities i entity found is =
    let rest = flat_map (redeclared_by schema a) (drop (i + 1) entities) in
    append_assoc found (redeclared_types a (option_map_or (λ e. e.redeclarations) (entity_at schema entity) [])) (map (λ x. x.data_type) rest)
    ∙ ap (λ ts. found ++ (ts ++ map (λ x. x.data_type) rest)) (redeclared-types a (entity_at schema entity))
    ∙ ap (λ ts. found ++ ts) (sym (map-append (λ x. x.data_type) (redeclared_by schema a entity) rest))
    ∙ ap (λ es. found ++ map (λ x. x.data_type) (flat_map (redeclared_by schema a) es)) (sym is)

-- ---- attributes

module _ (schema : Schema) (population : List Instance) (fault : Fault) (place : ℕ) (i : Instance) where
  among-none : (redeclaring : List ℕ) (attributes : List AttributePlace) → culprits_among schema population fault place i redeclaring attributes [] ≡ []
  among-none redeclaring [] = refl
  among-none redeclaring (a ∷ attributes) = refl

  -- one attribute more
  pub among-step : (redeclaring : List ℕ) (attributes : List AttributePlace) (written : List Value) (at : ℕ) (a : AttributePlace) (x : Value) → at < length attributes → a ≡ get_or attributes at a → slice_get written at ≡ Some x
      → culprits_among schema population fault place i redeclaring (drop at attributes) (drop at written)
      ≡ one_if (is_culprit schema population fault i redeclaring a x) (record { instance = place; attribute = Some a }) ++ culprits_among schema population fault place i redeclaring (drop (at + 1) attributes) (drop (at + 1) written)
  among-step redeclaring [] written at a x h is read = absurd (omega (arith, h))
  among-step redeclaring (b ∷ attributes) [] at a x h is read = absurd (cc)
  among-step redeclaring (b ∷ attributes) (y ∷ written) zero a x h is read =
      let same : y ≡ x = cc in
      λ k. one_if (is_culprit schema population fault i redeclaring (sym is k) (same k)) (record { instance = place; attribute = Some (sym is k) }) ++ culprits_among schema population fault place i redeclaring attributes written
  among-step redeclaring (b ∷ attributes) (y ∷ written) (suc at) a x h is read =
      let e : suc (at + 1) ≡ suc at + 1 = omega arith in
      among-step redeclaring attributes written at a x (omega (arith, h)) is read
      ∙ ap (λ (k : ℕ). one_if (is_culprit schema population fault i redeclaring a x) (record { instance = place; attribute = Some a }) ++ culprits_among schema population fault place i redeclaring (drop k (b ∷ attributes)) (drop k (y ∷ written))) e

  -- past the values there are none
  pub among-end : (redeclaring : List ℕ) (attributes : List AttributePlace) (written : List Value) (at : ℕ) → length written ≤ at → culprits_among schema population fault place i redeclaring (drop at attributes) (drop at written) ≡ []
  among-end redeclaring attributes written at h =
      ap (λ (xs : List Value). culprits_among schema population fault place i redeclaring (drop at attributes) xs) (drop_all at written h) ∙ among-none redeclaring (drop at attributes)

  in-step : (a : AttributePlace) (x y : Value) (values : List Stored) (b : Bool) → is_culprit schema population fault i i.entities a x ≡ b
      → culprits_in schema population fault place i ((record { attribute = a; written = x; read = y }) ∷ values) ≡ one_if b (record { instance = place; attribute = Some a }) ++ culprits_in schema population fault place i values
  in-step a x y values true is = rw is refl
  in-step a x y values false is = rw is refl

  among-stored : (redeclaring : List ℕ) → ((a : AttributePlace) → flat_map (redeclared_by schema a) redeclaring ≡ flat_map (redeclared_by schema a) i.entities)
      → (attributes : List AttributePlace) (written read : List Value) → length written ≤ length read
      → culprits_among schema population fault place i redeclaring attributes written ≡ culprits_in schema population fault place i (stored attributes written read)
  among-stored redeclaring all [] written read h = refl
  among-stored redeclaring all (a ∷ attributes) [] read h = refl
  among-stored redeclaring all (a ∷ attributes) (x ∷ written) [] h = absurd (omega (arith, h))
  among-stored redeclaring all (a ∷ attributes) (x ∷ written) (y ∷ read) h =
      ap (λ (cs : List Culprit). one_if (is_culprit schema population fault i redeclaring a x) (record { instance = place; attribute = Some a }) ++ cs) (among-stored redeclaring all attributes written read (omega (arith, h)))
      ∙ ap (λ (ds : List Explicit). one_if (not (is_some (derivation_in schema (explicit_derivations schema a) i)) && list_any (λ d. is_fault schema population fault d x) (own_declaration schema a ++ ds)) (record { instance = place; attribute = Some a }) ++ culprits_in schema population fault place i (stored attributes written read)) (all a)
      ∙ sym (in-step a x y (stored attributes written read) (is_culprit schema population fault i i.entities a x) refl)

  as-many-set : (xs : List Value) (k : ℕ) (x : Value) → length (slice_set xs k x) ≡ length xs
  as-many-set [] k x = refl
  as-many-set (y ∷ xs) zero x = refl
  as-many-set (y ∷ xs) (suc k) x = ap suc (as-many-set xs k x)

  as-many-read : (differing : List ReadValue) (xs : List Value) → length (as_read differing xs) ≡ length xs
  as-many-read [] xs = refl
  as-many-read (r ∷ differing) xs = as-many-read differing (slice_set xs r.place r.value) ∙ as-many-set xs r.place r.value

  pub among-all : (redeclaring : List ℕ) → ((a : AttributePlace) → flat_map (redeclared_by schema a) redeclaring ≡ flat_map (redeclared_by schema a) i.entities)
      → (attributes : List AttributePlace) (written : List Value) (differing : List ReadValue)
      → culprits_among schema population fault place i redeclaring attributes written ≡ culprits_in schema population fault place i (stored attributes written (as_read differing written))
  among-all redeclaring all attributes written differing = among-stored redeclaring all attributes written (as_read differing written) (let e = as-many-read differing written in omega (arith, e))

-- ---- instances

module _ (schema : Schema) (population : List Instance) (fault : Fault) where
  abbrev held : ℕ → Instance → Stored → Held
  held place i x = record { place = place; instance = i; value = x }

  abbrev passing : List Held → List Culprit
  passing hs = map attribute_culprit (filter (violates schema population fault) (filter (is_checked schema) hs))

  -- a fault is one by the declarations
  violates-by : (fault : Fault) (h : Held) → violates schema population fault h ≡ list_any (λ x. is_fault schema population fault x h.value.written) (declarations schema h)
  violates-by f.Unset h = refl
  violates-by f.Bounds h = refl
  violates-by f.Reference h = refl

  one-held : (h : Held) (checked bad : Bool) → is_checked schema h ≡ checked → violates schema population fault h ≡ bad → passing (h ∷ []) ≡ one_if (checked && bad) (attribute_culprit h)
  one-held h true true is so = rw (is, so) refl
  one-held h true false is so = rw (is, so) refl
  one-held h false bad is so = rw is refl

  passing-append : (hs others : List Held) → passing (hs ++ others) ≡ passing hs ++ passing others
  passing-append hs others =
      ap (λ (xs : List Held). map attribute_culprit (filter (violates schema population fault) xs)) (filter-append (is_checked schema) hs others)
      ∙ ap (map attribute_culprit) (filter-append (violates schema population fault) (filter (is_checked schema) hs) (filter (is_checked schema) others))
      ∙ map-append attribute_culprit (filter (violates schema population fault) (filter (is_checked schema) hs)) (filter (violates schema population fault) (filter (is_checked schema) others))

  in-instance : (place : ℕ) (i : Instance) (values : List Stored) → culprits_in schema population fault place i values ≡ passing (map (held place i) values)
  in-instance place i [] = refl
  in-instance place i (x ∷ values) =
      in-step schema population fault place i x.attribute x.written x.read values (is_culprit schema population fault i i.entities x.attribute x.written) refl
      ∙ (λ k. one_if (is_checked schema (held place i x) && sym (violates-by fault (held place i x)) k) (attribute_culprit (held place i x)) ++ in-instance place i values k)
      ∙ ap (λ (cs : List Culprit). cs ++ passing (map (held place i) values)) (sym (one-held (held place i x) (is_checked schema (held place i x)) (violates schema population fault (held place i x)) refl refl))
      ∙ sym (passing-append (held place i x ∷ []) (map (held place i) values))

  from-all : (place : ℕ) (is : List Instance) → culprits_from schema population fault place is ≡ passing (held_from place is)
  unfolding held_from
  from-all place [] = refl
  from-all place (i ∷ is) =
      (λ k. in-instance place i i.values k ++ from-all (place + 1) is k) ∙ sym (passing-append (held_of place i) (held_from (place + 1) is))

  pub all-culprits : culprits_from schema population fault 0 population ≡ culprits schema population fault
  all-culprits = from-all 0 population

  -- one instance more
  pub from-step : (place : ℕ) (i : Instance) → slice_get population place ≡ Some i
      → culprits_from schema population fault place (drop place population) ≡ culprits_in schema population fault place i i.values ++ culprits_from schema population fault (place + 1) (drop (place + 1) population)
  from-step place i read = ap (culprits_from schema population fault place) (drop-got population place i read)

  pub from-end : (place : ℕ) → slice_get population place ≡ None → culprits_from schema population fault place (drop place population) ≡ []
  from-end place none = ap (culprits_from schema population fault place) (drop-none population place none)
