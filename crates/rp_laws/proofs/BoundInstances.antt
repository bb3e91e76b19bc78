-- What an instance is, where no fault is found in it: it has its name, and refers to what is defined.
use Rattle.std.proofs.Common.{◌≡◌, ℕ, zero, suc, Bool, true, false, ◌||◌, List, [], ◌∷◌, ◌++◌, Option, Some, None, Ok, Err, refl, subst}
use Rattle.std.specs.Prelude.{if◌then◌else◌, map, slice_index_or}
use Rattle.std.specs.List.{AllByRecursion, list_all, zip}
use Rattle.ex_slots.specs.Slots.{Slot}
use Rattle.ex_types.specs.Checked.{Checked}
use Rattle.p21_mappings.specs.Instances.{Mapped, and_then, each, has_star, is_left_out, has_twice, same_counts, in_places, made, counted, misplaced, derived_value, defined, value, part, by_layout, by_entity, by_entities, by_several, by_mapping, instance}
use Rattle.p21_values.specs.Taking.{all_there}
use Rattle.ex_layouts.specs.Entities.{entity_spelled}
use Rattle.p21_mappings.specs.Layouts.{internal, external}
use Rattle.ex_layouts.specs.declared.layout.Layout.{Layout}
use Rattle.p21_instances.specs.Instances as spelled
use Rattle.p21_tree.specs.declared.fault.InstanceFaultKind.TheVariants.{Twice, NotDerived}
use Rattle.p21_tree.specs.declared.instance.Instance as tree
use Rattle.p21_tree.specs.declared.instance.Mapping.{Mapping}
use Rattle.p21_tree.specs.declared.instance.Mapping.TheVariants.{Internal, External}
use Rattle.p21_tree.specs.declared.instance.Record.{Record}
use Rattle.p21_tree.specs.declared.value.Value.{Value as SpelledValue}
use Rattle.p21_values.specs.Taking.{bound}
use Rattle.rp_content.specs.declared.instance.Instance.{Instance}
use Rattle.rp_value.specs.declared.value.Value.{Value}
use Rattle.rp_value.specs.declared.value.Value.TheVariants as v
use Rattle.rp_rows.specs.Contents.{references_of}
use Rattle.rp_laws.proofs.BoundValues.{Passes, indet_passes, values_pass, bound_passes}

-- ---- one after another

one_then : {B : Type 0} (P : B → Type 0) (o : Mapped B) (others : Mapped (List B)) (ys : List B) → ((y : B) → o ≡ Ok y → P y) → ((zs : List B) → others ≡ Ok zs → AllByRecursion P zs)
    → and_then o (λ y. and_then others (λ zs. Ok (y ∷ zs))) ≡ Ok ys → AllByRecursion P ys
one_then P (Ok y) (Ok zs) ys here later e = let same : y ∷ zs ≡ ys = cc in subst (AllByRecursion P) same (here y refl, later zs refl)
one_then P (Ok y) (Err kind) ys here later e = cc
one_then P (Err kind) others ys here later e = cc

-- what holds of what one of them gives holds of what each gives
each_gives : {A B : Type 0} (read : A → Mapped B) (P : B → Type 0) → ((a : A) (b : B) → read a ≡ Ok b → P b) → (xs : List A) (ys : List B) → each read xs ≡ Ok ys → AllByRecursion P ys
each_gives read P all [] ys e = let same : [] ≡ ys = cc in subst (AllByRecursion P) same tt
each_gives read P all (x ∷ xs) ys e = one_then P (read x) (each read xs) ys (λ y f. all x y f) (λ zs f. each_gives read P all xs zs f) e

all_both : {X : Type 0} (P : X → Type 0) (xs ys : List X) → AllByRecursion P xs → AllByRecursion P ys → AllByRecursion P (xs ++ ys)
all_both P [] ys one other = other
all_both P (x ∷ xs) ys one other = (one.0, all_both P xs ys one.1 other)

module _ (schema : Checked) (is_defined : ℕ → Bool) where
  abbrev AllPass : List Value → Type 0
  AllPass = AllByRecursion (Passes is_defined)

  -- ---- values

  left_out_passes : (x : SpelledValue) (left_out : Bool) (w : Value) → (if left_out then Ok v.Indet else Err (misplaced x)) ≡ Ok w → Passes is_defined w
  left_out_passes x true w e = let same : v.Indet ≡ w = cc in subst (Passes is_defined) same (indet_passes is_defined)
  left_out_passes x false w e = cc

  defined_passes : (o : Option Value) (all : Bool) (w : Value) → ((u : Value) → o ≡ Some u → all ≡ true → Passes is_defined u) → defined schema is_defined o all ≡ Ok w → Passes is_defined w
  defined_passes None all w passes e = cc
  defined_passes (Some u) true w passes e = let same : u ≡ w = cc in subst (Passes is_defined) same (passes u refl refl)
  defined_passes (Some u) false w passes e = cc

  value_by : (s : Slot × SpelledValue) (w : Value) (is_derived star : Bool)
      → (if is_derived then derived_value s.1 else if star then Err NotDerived else defined schema is_defined (bound schema.named.schema.types s.0.data_type s.1) (list_all is_defined (spelled.references s.1))) ≡ Ok w
      → Passes is_defined w
  value_by s w true star e = left_out_passes s.1 (is_left_out s.1) w e
  value_by s w false true e = cc
  value_by s w false false e =
      let types = schema.named.schema.types in
      defined_passes (bound types s.0.data_type s.1) (list_all is_defined (spelled.references s.1)) w (λ u f all. bound_passes types is_defined s.0.data_type s.1 u f all) e

  value_passes : (s : Slot × SpelledValue) (w : Value) → value schema is_defined s ≡ Ok w → Passes is_defined w
  value_passes s w e = value_by s w s.0.is_derived (has_star s.1) e

  part_passes : (q : List Slot × Record) (ws : List Value) → part schema is_defined q ≡ Ok ws → AllPass ws
  part_passes q ws e = each_gives (value schema is_defined) (Passes is_defined) value_passes (zip q.0 q.1.values) ws e

  -- ---- in their places

  place_passes : (lists : List (List Value)) (place : ℕ) → AllByRecursion AllPass lists → AllPass (slice_index_or lists place [])
  place_passes [] place all = tt
  place_passes (ws ∷ lists) zero all = all.0
  place_passes (ws ∷ lists) (suc place) all = place_passes lists place all.1

  places_pass : (places : List ℕ) (lists : List (List Value)) → AllByRecursion AllPass lists → AllPass (in_places places lists)
  places_pass [] lists all = tt
  places_pass (k ∷ places) lists all = all_both (Passes is_defined) (slice_index_or lists k []) (in_places places lists) (place_passes lists k all) (places_pass places lists all)

  -- ---- instances

  -- it has this name, and each name that it refers to is defined
  pub record IsBound (name : ℕ) (i : Instance) : Type 0 where
    pub name_is : i.name ≡ name
    pub references : list_all is_defined (references_of i) ≡ true

  made_bound : (name : ℕ) (layout : Layout) (fits : Bool) (o : Mapped (List (List Value))) (i : Instance) → ((lists : List (List Value)) → o ≡ Ok lists → AllByRecursion AllPass lists)
      → counted fits (and_then o (λ lists. Ok (made name layout lists))) ≡ Ok i → IsBound name i
  made_bound name layout true (Ok lists) i all e =
      let same : made name layout lists ≡ i = cc in
      let values = in_places layout.places lists in
      subst (IsBound name) same (record { name_is = refl; references = values_pass is_defined values (places_pass layout.places lists (all lists refl)) })
  made_bound name layout true (Err kind) i all e = cc
  made_bound name layout false o i all e = cc

  layout_bound : (name : ℕ) (records : List Record) (o : Option Layout) (i : Instance) → by_layout schema is_defined name records o ≡ Ok i → IsBound name i
  layout_bound name records None i e = cc
  layout_bound name records (Some layout) i e =
      let pairs = zip layout.slots records in
      made_bound name layout (same_counts layout.slots records) (each (part schema is_defined) pairs) i (λ lists f. each_gives (part schema is_defined) AllPass part_passes pairs lists f) e

  entity_bound : (name : ℕ) (records : List Record) (o : Option ℕ) (i : Instance) → by_entity schema is_defined name records o ≡ Ok i → IsBound name i
  entity_bound name records None i e = cc
  entity_bound name records (Some entity) i e = layout_bound name records (internal schema entity) i e

  entities_bound : (name : ℕ) (records : List Record) (o : Option (List ℕ)) (i : Instance) → by_entities schema is_defined name records o ≡ Ok i → IsBound name i
  entities_bound name records None i e = cc
  entities_bound name records (Some entities) i e = layout_bound name records (external schema entities) i e

  several_bound : (name : ℕ) (records : List Record) (i : Instance) → by_several schema is_defined name records ≡ Ok i → IsBound name i
  unfolding by_several
  several_bound name records i e = entities_bound name records (all_there (map (λ r. entity_spelled schema r.keyword) records)) i e

  mapping_bound : (name : ℕ) (mapping : Mapping) (i : Instance) → by_mapping schema is_defined name mapping ≡ Ok i → IsBound name i
  mapping_bound name (Internal single) i e = entity_bound name (single ∷ []) (entity_spelled schema single.keyword) i e
  mapping_bound name (External records) i e = several_bound name records i e

  tested : (x : tree.Instance) (i : Instance) (stood twice : Bool) → (if stood || twice then Err Twice else by_mapping schema is_defined x.name x.mapping) ≡ Ok i → (stood ≡ false) × IsBound x.name i
  tested x i true twice e = cc
  tested x i false true e = cc
  tested x i false false e = (refl, mapping_bound x.name x.mapping i e)

  -- its name didn't stand before
  pub instance_bound : (stood : Bool) (x : tree.Instance) (i : Instance) → instance schema is_defined stood x ≡ Ok i → (stood ≡ false) × IsBound x.name i
  unfolding instance
  instance_bound stood x i e = tested x i stood (has_twice x.mapping) e
