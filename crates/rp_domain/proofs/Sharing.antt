-- What is shared by instances of the same entities, and their values.
use Rattle.std.proofs.Common.{◌≡◌, ℕ, zero, suc, ◌+◌, ◌<◌, ◌≤◌, Option, Some, None, subst, Bool, true, false, List, [], ◌∷◌, ◌++◌, map, take, drop, length, get_or, drop-cons, add-one, if◌then◌else◌, IfSome, slice_get, slice_set, refl, sym, ◌∙◌, ap, arith}
use Rattle.std.specs.List.{zip}
use Rattle.std.specs.Option.{unwrap_or}
use Rattle.ex_named.specs.declared.reference.AttributePlace.{AttributePlace}
use Rattle.rp_value.specs.declared.value.Value.{Value}
use Rattle.rp_value.specs.declared.value.Value.TheVariants as v
use Rattle.rp_meaning.specs.declared.schema.Schema.{Schema}
use Rattle.rp_meaning.specs.declared.domain.ReadValue.{ReadValue}
use Rattle.rp_meaning.specs.Populations.{Instance, Stored, as_read, stored}
use Rattle.rp_meaning.specs.Reading.{attributes, instance_of, is_derived, stored_as}
use Rattle.rp_domain.specs.declared.combination.Combination.{Combination}
use Rattle.rp_domain.specs.Combinations.{attribute_of, combination, differing_at, used_of, values_of, without_derived, without_one}
use Rattle.rp_domain.specs.Rows.{IsReadAt, read_all, read_value}

some_same : {A : Type 0} {x y : A} → Some x ≡ Some y → x ≡ y
some_same {x = x} is = ap (λ o. unwrap_or o x) is

-- one more that is read in place of another one
pub as_read-append : (differing others : List ReadValue) (xs : List Value) → as_read (differing ++ others) xs ≡ as_read others (as_read differing xs)
as_read-append [] others xs = refl
as_read-append (r ∷ differing) others xs = as_read-append differing others (slice_set xs r.place r.value)

-- what holds of each that is kept holds still where one more is kept of which it holds
pub kept_more : {X : Type 0} (P : X → Type 0) (xs : List X) (x : X) → ((k : ℕ) → IfSome (slice_get xs k) P) → P x → (k : ℕ) → IfSome (slice_get (xs ++ x ∷ []) k) P
kept_more P [] x all here zero = here
kept_more P [] x all here (suc k) = tt
kept_more P (y ∷ ys) x all here zero = all zero
kept_more P (y ∷ ys) x all here (suc k) = kept_more P ys x (λ k. all (suc k)) here k

pub itself_is : (schema : Schema) (entities : List ℕ) (x : Combination) → x ≡ combination schema entities → x ≡ combination schema x.entities
unfolding combination
itself_is schema entities x is = is ∙ ap (combination schema) (sym (ap (λ (y : Combination). y.entities) is))

module _ (schema : Schema) (count : ℕ) where
  -- attributes with their values as uses tell them
  pub used_are : (entities : List ℕ) (attributes : List AttributePlace) (written : List Value)
      → zip (map (attribute_of entities) attributes) written ≡ map (used_of entities) (stored attributes written (read_all schema count (zip attributes written)))
  used_are entities [] written = refl
  used_are entities (a ∷ attributes) [] = refl
  used_are entities (a ∷ attributes) (x ∷ written) = ap (λ xs. (attribute_of entities a, x) ∷ xs) (used_are entities attributes written)

  -- the values of an instance
  pub values_are : (entities : List ℕ) (attributes : List AttributePlace) (values : List Value)
      → stored attributes (without_derived (map (is_derived schema entities) attributes) values) (read_all schema count (zip attributes (without_derived (map (is_derived schema entities) attributes) values)))
      ≡ map (λ p. stored_as schema count entities p.0 p.1) (zip attributes values)
  unfolding read_value
  values_are entities [] values = refl
  values_are entities (a ∷ attributes) [] = refl
  values_are entities (a ∷ attributes) (x ∷ values) = ap (λ xs. stored_as schema count entities a x ∷ xs) (values_are entities attributes values)

  -- with what is read in place of a value at a place, all up to behind it are as they are read
  pub read_step : (places : List AttributePlace) (written : List Value) (at : ℕ) (a : AttributePlace) (other : Option Value) → at < length places → a ≡ get_or places at a
      → IsReadAt schema count a written at other
      → as_read (differing_at at other) (take at (read_all schema count (zip places written)) ++ drop at written)
      ≡ take (suc at) (read_all schema count (zip places written)) ++ drop (suc at) written
  read_step [] written at a other h is reads = absurd (omega (arith, h))
  read_step (b ∷ places) [] zero a None h is reads = refl
  read_step (b ∷ places) [] zero a (Some y) h is reads = refl
  read_step (b ∷ places) [] (suc at) a None h is reads = refl
  read_step (b ∷ places) [] (suc at) a (Some y) h is reads = refl
  read_step (b ∷ places) (x ∷ written) zero a None h is reads = ap (λ z. z ∷ written) (sym (ap (λ c. read_value schema count c x) (sym is) ∙ some_same reads))
  read_step (b ∷ places) (x ∷ written) zero a (Some y) h is reads = ap (λ z. z ∷ written) (sym (ap (λ c. read_value schema count c x) (sym is) ∙ some_same reads))
  read_step (b ∷ places) (x ∷ written) (suc at) a None h is reads = ap (λ zs. read_value schema count b x ∷ zs) (read_step places written at a None (omega (arith, h)) is reads)
  read_step (b ∷ places) (x ∷ written) (suc at) a (Some y) h is reads = ap (λ zs. read_value schema count b x ∷ zs) (read_step places written at a (Some y) (omega (arith, h)) is reads)

  -- once all have been read
  pub stored_whole : (places : List AttributePlace) (written : List Value) (at : ℕ) → length places ≤ at
      → stored places written (take at (read_all schema count (zip places written)) ++ drop at written) ≡ stored places written (read_all schema count (zip places written))
  stored_whole [] written at h = refl
  stored_whole (a ∷ places) [] at h = refl
  stored_whole (a ∷ places) (x ∷ written) zero h = absurd (omega (arith, h))
  stored_whole (a ∷ places) (x ∷ written) (suc at) h =
      ap (λ xs. (record { attribute = a; written = x; read = read_value schema count a x }) ∷ xs) (stored_whole places written at (omega (arith, h)))

  -- what is made of what is shared
  pub kept_uses : (entities : List ℕ) (c : Combination) (written : List Value) (differing : List ReadValue) → c ≡ combination schema entities
      → values_of c.attributes written differing ≡ stored c.attributes written (read_all schema count (zip c.attributes written))
      → zip c.uses written ≡ map (used_of c.entities) (values_of c.attributes written differing)
  unfolding combination
  kept_uses entities c written differing is =
      subst (λ (x : Combination). values_of x.attributes written differing ≡ stored x.attributes written (read_all schema count (zip x.attributes written)) → zip x.uses written ≡ map (used_of x.entities) (values_of x.attributes written differing)) (sym is)
      (λ reads. used_are entities (attributes schema entities) written ∙ ap (map (used_of entities)) (sym reads))

  pub kept_is : (entities : List ℕ) (c : Combination) (values written : List Value) (differing : List ReadValue) → c ≡ combination schema entities
      → written ≡ without_derived c.derived values
      → values_of c.attributes written differing ≡ stored c.attributes written (read_all schema count (zip c.attributes written))
      → (record { entities = c.entities; values = values_of c.attributes written differing }) ≡ instance_of schema count entities values
  unfolding combination
  kept_is entities c values written differing is =
      subst (λ (x : Combination). written ≡ without_derived x.derived values → values_of x.attributes written differing ≡ stored x.attributes written (read_all schema count (zip x.attributes written)) → (record { entities = x.entities; values = values_of x.attributes written differing }) ≡ instance_of schema count entities values) (sym is)
      (λ forgot reads. ap (λ (xs : List Stored). let i : Instance = record { entities = entities; values = xs } in i)
      (reads ∙ ap (λ ws. stored (attributes schema entities) ws (read_all schema count (zip (attributes schema entities) ws))) forgot ∙ values_are entities (attributes schema entities) values))

-- ---- values that are derived

none-derived : (derived : List Bool) → without_derived derived [] ≡ []
none-derived [] = refl
none-derived (d ∷ derived) = refl

behind-first : (x : Value) (xs ys : List Value) (t : Bool) → (if t then x ∷ xs else x ∷ ys) ≡ x ∷ (if t then xs else ys)
behind-first x xs ys true = refl
behind-first x xs ys false = refl

derived-at : (values : List Value) (at : ℕ) (d : Bool) (derived : List Bool)
    → take at values ++ without_derived (d ∷ derived) (drop at values) ≡ take (suc at) (without_one d values at) ++ without_derived derived (drop (suc at) (without_one d values at))
derived-at [] zero true derived = sym (none-derived derived)
derived-at [] zero false derived = sym (none-derived derived)
derived-at [] (suc at) true derived = sym (none-derived derived)
derived-at [] (suc at) false derived = sym (none-derived derived)
derived-at (x ∷ values) zero true derived = refl
derived-at (x ∷ values) zero false derived = refl
derived-at (x ∷ values) (suc at) d derived =
    ap (λ xs. x ∷ xs) (derived-at values at d derived)
    ∙ ap (λ xs. take (suc (suc at)) xs ++ without_derived derived (drop (suc (suc at)) xs)) (sym (behind-first x (slice_set values at v.Indet) values d))

pub derived_step : (values : List Value) (at : ℕ) (d : Bool) (derived : List Bool) → at < length derived → d ≡ get_or derived at d
    → take at values ++ without_derived (drop at derived) (drop at values) ≡ take (at + 1) (without_one d values at) ++ without_derived (drop (at + 1) derived) (drop (at + 1) (without_one d values at))
derived_step values at d derived h is =
    ap (λ ds. take at values ++ without_derived ds (drop at values)) (drop-cons derived at d h ∙ ap (λ e. e ∷ drop (suc at) derived) (sym is))
    ∙ rw (add-one) (derived-at values at d (drop (suc at) derived))
