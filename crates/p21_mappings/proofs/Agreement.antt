-- Of what is defined, those names alone play a part for an instance that it refers to.
use Rattle.std.proofs.Common.{◌≡◌, ℕ, Bool, List, [], ◌∷◌, ◌++◌, Option, None, Some, refl}
use Rattle.std.specs.List.{AllByRecursion, flat_map, list_all, zip}
use Rattle.ex_layouts.specs.declared.layout.Layout.{Layout}
use Rattle.ex_slots.specs.Slots.{Slot}
use Rattle.ex_schemas.specs.Schemas.{Checked}
use Rattle.p21_instances.specs.Instances.{references}
use Rattle.p21_tree.specs.declared.instance.Instance as tree
use Rattle.p21_tree.specs.declared.instance.Mapping.{Mapping}
use Rattle.p21_tree.specs.declared.instance.Mapping.TheVariants.{Internal, External}
use Rattle.p21_tree.specs.declared.instance.Record.{Record}
use Rattle.p21_tree.specs.declared.value.Value.{Value as SpelledValue}
use Rattle.p21_mappings.specs.Instances.{Mapped, each, value, part, by_layout, by_entity, by_entities, by_several, by_mapping, instance}
use Rattle.p21_mappings.specs.Referred.{part_references, mapping_references}

each_same : {A B : Type 0} (f g : A → Mapped B) (xs : List A) → AllByRecursion (λ x. f x ≡ g x) xs → each f xs ≡ each g xs
each_same f g [] same = refl
each_same f g (x ∷ xs) same = rw (same.0, each_same f g xs same.1) refl

module _ (schema : Checked) (p q : ℕ → Bool) where
  -- they are the same of these names
  abbrev Agree : List ℕ → Type 0
  Agree = AllByRecursion (λ n. p n ≡ q n)

  left : (xs ys : List ℕ) → Agree (xs ++ ys) → Agree xs
  left [] ys all = tt
  left (x ∷ xs) ys all = (all.0, left xs ys all.1)

  right : (xs ys : List ℕ) → Agree (xs ++ ys) → Agree ys
  right [] ys all = all
  right (x ∷ xs) ys all = right xs ys all.1

  all_same : (ns : List ℕ) → Agree ns → list_all p ns ≡ list_all q ns
  all_same [] all = refl
  all_same (n ∷ ns) all = rw (all.0, all_same ns all.1) refl

  value_same : (slot : Slot) (x : SpelledValue) → Agree (references x) → value schema p (slot, x) ≡ value schema q (slot, x)
  value_same slot x all = rw (all_same (references x) all) refl

  values_same : (slots : List Slot) (xs : List SpelledValue) → Agree (flat_map references xs) → each (value schema p) (zip slots xs) ≡ each (value schema q) (zip slots xs)
  values_same [] xs all = refl
  values_same (s ∷ ss) [] all = refl
  values_same (s ∷ ss) (x ∷ xs) all =
      rw (value_same s x (left (references x) (flat_map references xs) all), values_same ss xs (right (references x) (flat_map references xs) all)) refl

  parts_same : (slots : List (List Slot)) (rs : List Record) → Agree (flat_map part_references rs) → each (part schema p) (zip slots rs) ≡ each (part schema q) (zip slots rs)
  parts_same [] rs all = refl
  parts_same (s ∷ ss) [] all = refl
  parts_same (s ∷ ss) (r ∷ rs) all =
      rw (values_same s r.values (left (part_references r) (flat_map part_references rs) all), parts_same ss rs (right (part_references r) (flat_map part_references rs) all)) refl

  by_layout_same : (name : ℕ) (rs : List Record) (layout : Option Layout) → Agree (flat_map part_references rs) → by_layout schema p name rs layout ≡ by_layout schema q name rs layout
  by_layout_same name rs None all = refl
  by_layout_same name rs (Some layout) all = rw (parts_same layout.slots rs all) refl

  by_entity_same : (name : ℕ) (rs : List Record) (entity : Option ℕ) → Agree (flat_map part_references rs) → by_entity schema p name rs entity ≡ by_entity schema q name rs entity
  by_entity_same name rs None all = refl
  by_entity_same name rs (Some entity) all = by_layout_same name rs _ all

  by_entities_same : (name : ℕ) (rs : List Record) (entities : Option (List ℕ)) → Agree (flat_map part_references rs) → by_entities schema p name rs entities ≡ by_entities schema q name rs entities
  by_entities_same name rs None all = refl
  by_entities_same name rs (Some entities) all = by_layout_same name rs _ all

  mapping_same : (name : ℕ) (m : Mapping) → Agree (mapping_references m) → by_mapping schema p name m ≡ by_mapping schema q name m
  unfolding by_several
  mapping_same name (Internal r) all = by_entity_same name (r ∷ []) _ (one all)
    where
      one : Agree (part_references r) → Agree (part_references r ++ [])
      one all = more (part_references r) all
        where
          more : (xs : List ℕ) → Agree xs → Agree (xs ++ [])
          more [] all = tt
          more (x ∷ xs) all = (all.0, more xs all.1)
  mapping_same name (External rs) all = by_entities_same name rs _ all

  pub instance_same : (stood : Bool) (x : tree.Instance) → Agree (mapping_references x.mapping) → instance schema p stood x ≡ instance schema q stood x
  unfolding instance
  instance_same stood x all = rw (mapping_same x.name x.mapping all) refl
