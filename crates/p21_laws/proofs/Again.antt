-- An instance is read again of the records that are written of it.
use Rattle.std.proofs.Common.{◌≡◌, ◌==◌, ℕ, Bool, true, false, ◌&&◌, if◌then◌else◌, List, [], ◌∷◌, append-nil, length, map, zip, Some, None, slice_index_or, Ok, Err, refl, sym, ◌∙◌, ap}
use Rattle.std.proofs.lemmas.Bool.{eq-eqb}
use Rattle.std.proofs.lemmas.List.Folds.{flat_map-map, list_all-map}
use Rattle.std.specs.List.{list_all}
use Rattle.std.specs.Str.{str_to_ascii_uppercase}
use Rattle.plain_data.specs.Numbers.{is_among}
use Rattle.ex_slots.specs.Slots.{Slot}
use Rattle.ex_types.specs.Checked.{Checked}
use Rattle.graphs.proofs.Certain.{each_passes}
use Rattle.p21_mappings.specs.Instances.{and_then, by_entities, by_entity, by_mapping, by_layout, by_several, counted, each, has_twice, in_places, instance, keywords, made, part, repeats, same_counts}
use Rattle.p21_values.specs.Taking.{all_there}
use Rattle.ex_layouts.specs.Entities.{entity_spelled}
use Rattle.ex_layouts.specs.Layouts.{of_leaf, of_several, order_by, place_in, slots_in, entities_by}
use Rattle.p21_mappings.specs.Layouts.{external, internal}
use Rattle.p21_instances.specs.Instances.{references}
use Rattle.p21_spelling.proofs.Runs.{first_holds}
use Rattle.p21_tree.specs.declared.fault.InstanceFaultKind.TheVariants.{Twice}
use Rattle.p21_tree.specs.declared.instance.Mapping.TheVariants.{Internal}
use Rattle.p21_tree.specs.declared.instance.Record.{Record}
use Rattle.p21_tree.specs.declared.value.Value as tree
use Rattle.p21_canonical.specs.Trees.{entity_name, instance_tree, leaf_part, mapping, own_parts, record_of, records}
use Rattle.rp_content.specs.declared.instance.Instance.{Instance}
use Rattle.rp_content.specs.declared.instance.Entities.{Entities}
use Rattle.rp_content.specs.declared.instance.Entities.TheVariants.{Leaf, Several}
use Rattle.rp_value.specs.declared.value.Value.{Value}
use Rattle.p21_laws.proofs.Attributes.{Kept, as_many_trees, joined, trees_of, values_again}
use Rattle.p21_laws.proofs.Entities.{entities_apart, entities_of, entity_again, entity_upper}
use Rattle.p21_laws.proofs.Keywords.{all_found, none_repeat}
use Rattle.p21_laws.proofs.Pairs.{at_place, both_mapped, flat_same}
use Rattle.p21_laws.proofs.Sets.{behind, here}
use Rattle.p21_laws.proofs.Shapes.{OfLeaf, OfSeveral, OfEntities, leaf_record, made as made_record, record_by, several_records, slots_by, slots_with}
use Rattle.p21_laws.specs.Instances.{parts}
use Rattle.p21_laws.specs.Schemas.{IsAccepted}

module _ (schema : Checked) (accepted : IsAccepted schema.named) (is_defined : ℕ → Bool) where
  abbrev Keeps : Slot → Value → Type 0
  Keeps = Kept schema.named.schema.types

  -- each name that the value refers to is defined
  abbrev pub refers : tree.Value → Bool
  refers x = list_all is_defined (references x)

  abbrev pub refers_all : Record → Bool
  refers_all r = list_all refers r.values

  -- by the slots of a layout, and what it makes of the values
  by_layout_again : (rs : List Record) (slots : List (List Slot)) (make : List (List Value) → Instance) (lists : List (List Value)) → same_counts slots rs ≡ true → each (part schema is_defined) (zip slots rs) ≡ Ok lists
      → counted (same_counts slots rs) (and_then (each (part schema is_defined) (zip slots rs)) (λ lists. Ok (make lists))) ≡ Ok (make lists)
  by_layout_again rs slots make lists counts all =
      ap (λ t. counted t (and_then (each (part schema is_defined) (zip slots rs)) (λ lists. Ok (make lists)))) counts ∙ ap (λ r. and_then r (λ lists. Ok (make lists))) all

  -- what the first gives beside what all others do
  parts_again : (f : ℕ → List Slot) (lists : ℕ → List Value) (ns : List ℕ) → ((n : ℕ) → is_among ns n ≡ true → part schema is_defined (f n, record_by schema n (f n) (lists n)) ≡ Ok (lists n))
      → each (part schema is_defined) (zip (map f ns) (map (λ n. record_by schema n (f n) (lists n)) ns)) ≡ Ok (map lists ns)
  parts_again f lists [] all = refl
  parts_again f lists (n ∷ ns) all =
      joined (part schema is_defined (f n, record_by schema n (f n) (lists n))) (each (part schema is_defined) (zip (map f ns) (map (λ n. record_by schema n (f n) (lists n)) ns))) (lists n) (map lists ns)
      (all n (here n ns)) (parts_again f lists ns (λ m there. all m (behind n m ns there)))

  counts_again : (f : ℕ → List Slot) (lists : ℕ → List Value) (ns : List ℕ) → ((n : ℕ) → is_among ns n ≡ true → (length (f n) == length (trees_of schema.named.schema.types (f n) (lists n))) ≡ true)
      → same_counts (map f ns) (map (λ n. record_by schema n (f n) (lists n)) ns) ≡ true
  counts_again f lists [] all = refl
  counts_again f lists (n ∷ ns) all =
      ap (λ t. t && same_counts (map f ns) (map (λ n. record_by schema n (f n) (lists n)) ns)) (all n (here n ns)) ∙ counts_again f lists ns (λ m there. all m (behind n m ns there))

  -- ---- one leaf

  module _ (name entity : ℕ) (ws : List Value) (is : OfLeaf schema Keeps entity ws) (all : refers_all (record_of schema (leaf_part schema entity) ws) ≡ true) where
    abbrev lone : Record
    lone = record_by schema entity (slots_by schema entity) ws

    lone_is : record_of schema (leaf_part schema entity) ws ≡ lone
    lone_is = leaf_record schema Keeps entity ws is.values

    lone_counts : same_counts (slots_by schema entity ∷ []) (lone ∷ []) ≡ true
    lone_counts = ap (λ t. t && true) (eq-eqb (length (slots_by schema entity)) (length (trees_of schema.named.schema.types (slots_by schema entity) ws)) (as_many_trees schema.named.schema.types Keeps (slots_by schema entity) ws is.values))

    lone_parts : each (part schema is_defined) ((slots_by schema entity, lone) ∷ []) ≡ Ok (ws ∷ [])
    lone_parts = joined (part schema is_defined (slots_by schema entity, lone)) (Ok []) ws [] (values_again schema is_defined (slots_by schema entity) ws is.values (sym (ap refers_all lone_is) ∙ all)) refl

    lone_again : by_mapping schema is_defined name (Internal lone) ≡ Ok (record { name = name; entities = Leaf entity; values = ws })
    unfolding internal
    lone_again =
        ap (by_entity schema is_defined name (lone ∷ [])) (entity_again schema accepted entity is.there)
        ∙ ap (λ t. by_layout schema is_defined name (lone ∷ []) (if t then Some (of_leaf schema entity) else None)) is.legal
        ∙ by_layout_again (lone ∷ []) (slots_by schema entity ∷ []) (made name (of_leaf schema entity)) (ws ∷ []) lone_counts lone_parts
        ∙ ap (λ ws. Ok (record { name = name; entities = Leaf entity; values = ws })) (append-nil ws)

    leaf_again : by_mapping schema is_defined name (mapping schema (Leaf entity) ws) ≡ Ok (record { name = name; entities = Leaf entity; values = ws })
    leaf_again = ap (λ r. by_mapping schema is_defined name (Internal r)) lone_is ∙ lone_again

  -- ---- several

  module _ (name : ℕ) (ns : List ℕ) (ws : List Value) (is : OfSeveral schema Keeps ns ws) (all : list_all refers_all (records schema (own_parts schema ns) ws) ≡ true) where
    abbrev each_made : ℕ → Record
    each_made = made_record schema Keeps ns ws is

    several_are : records schema (own_parts schema ns) ws ≡ map each_made ns
    several_are = several_records schema Keeps ns ws is

    all_refer : list_all (λ n. refers_all (each_made n)) ns ≡ true
    all_refer = sym (list_all-map refers_all each_made ns) ∙ sym (ap (list_all refers_all) several_are) ∙ all

    part_again : (n : ℕ) → is_among ns n ≡ true → part schema is_defined (slots_with schema ns n, each_made n) ≡ Ok (is.lists n)
    part_again n there = values_again schema is_defined (slots_with schema ns n) (is.lists n) (is.values n there) (each_passes (λ n. refers_all (each_made n)) ns all_refer n there)

    count_again : (n : ℕ) → is_among ns n ≡ true → (length (slots_with schema ns n) == length (trees_of schema.named.schema.types (slots_with schema ns n) (is.lists n))) ≡ true
    count_again n there =
        eq-eqb (length (slots_with schema ns n)) (length (trees_of schema.named.schema.types (slots_with schema ns n) (is.lists n)))
        (as_many_trees schema.named.schema.types Keeps (slots_with schema ns n) (is.lists n) (is.values n there))

    layout_parts : each (part schema is_defined) (zip (slots_in schema ns) (map each_made ns)) ≡ Ok (map is.lists ns)
    unfolding slots_in
    layout_parts = parts_again (slots_with schema ns) is.lists ns part_again

    layout_counts : same_counts (slots_in schema ns) (map each_made ns) ≡ true
    unfolding slots_in
    layout_counts = counts_again (slots_with schema ns) is.lists ns count_again

    in_place : (n : ℕ) → is_among ns n ≡ true → slice_index_or (map is.lists ns) (place_in ns n) [] ≡ is.lists n
    unfolding place_in
    in_place n there = at_place (λ n l. l ≡ is.lists n) ns (map is.lists ns) (both_mapped (λ n l. l ≡ is.lists n) is.lists ns (λ n there. refl)) n there

    in_all_places : in_places (map (place_in ns) ns) (map is.lists ns) ≡ ws
    in_all_places =
        flat_map-map (λ place. slice_index_or (map is.lists ns) place []) (place_in ns) ns
        ∙ flat_same (λ n. slice_index_or (map is.lists ns) (place_in ns n) []) is.lists ns in_place
        ∙ sym is.joined

    made_is : made name (of_several schema ns) (map is.lists ns) ≡ record { name = name; entities = Several ns; values = ws }
    made_is =
        ap (λ o. record { name = name; entities = entities_by schema ns o; values = in_places (map (place_in ns) (order_by schema ns o)) (map is.lists ns) }) is.leafless
        ∙ ap (λ (ms : List ℕ). record { name = name; entities = Several ms; values = in_places (map (place_in ns) ms) (map is.lists ns) }) is.ordered
        ∙ ap (λ ws. record { name = name; entities = Several ns; values = ws }) in_all_places

    found_again : all_there (map (λ r. entity_spelled schema r.keyword) (map each_made ns)) ≡ Some ns
    found_again = all_found schema each_made ns (λ n there. entity_again schema accepted n (is.there n there))

    by_several_again : by_several schema is_defined name (map each_made ns) ≡ Ok (record { name = name; entities = Several ns; values = ws })
    unfolding by_several external
    by_several_again =
        ap (by_entities schema is_defined name (map each_made ns)) found_again
        ∙ ap (λ t. by_layout schema is_defined name (map each_made ns) (if t then Some (of_several schema ns) else None)) is.legal
        ∙ by_layout_again (map each_made ns) (slots_in schema ns) (made name (of_several schema ns)) (map is.lists ns) layout_counts layout_parts
        ∙ ap (λ i. Ok i) made_is

    abbrev key : ℕ → List ℕ
    key n = str_to_ascii_uppercase (entity_name (entities_of schema) n)

    apart : (n m : ℕ) → is_among ns n ≡ true → is_among ns m ≡ true → key n ≡ key m → n ≡ m
    apart n m in_n in_m same =
        entities_apart schema accepted n m (is.there n in_n) (is.there m in_m)
        (sym (entity_upper schema accepted n (is.there n in_n)) ∙ same ∙ entity_upper schema accepted m (is.there m in_m))

    keywords_are : (ms : List ℕ) → keywords (map each_made ms) ≡ map key ms
    keywords_are [] = refl
    keywords_are (m ∷ ms) = ap (λ l. key m ∷ l) (keywords_are ms)

    never_twice : has_twice (mapping schema (Several ns) ws) ≡ false
    never_twice =
        ap (λ rs. repeats [] (keywords rs)) several_are ∙ ap (repeats []) (keywords_are ns)
        ∙ none_repeat key ns apart [] ns (λ n there. there) (λ n there. refl) is.once

    several_again : by_mapping schema is_defined name (mapping schema (Several ns) ws) ≡ Ok (record { name = name; entities = Several ns; values = ws })
    several_again = ap (by_several schema is_defined name) several_are ∙ by_several_again

  -- ---- any

  mapping_again : (name : ℕ) (entities : Entities) (ws : List Value) → OfEntities schema Keeps entities ws → list_all refers_all (parts (mapping schema entities ws)) ≡ true
      → (has_twice (mapping schema entities ws) ≡ false) × (by_mapping schema is_defined name (mapping schema entities ws) ≡ Ok (record { name = name; entities = entities; values = ws }))
  mapping_again name (Leaf entity) ws is all = (refl, leaf_again name entity ws is (first_holds (refers_all (record_of schema (leaf_part schema entity) ws)) true all))
  mapping_again name (Several ns) ws is all = (never_twice name ns ws is all, several_again name ns ws is all)

  pub read_again : (i : Instance) → OfEntities schema Keeps i.entities i.values → list_all refers_all (parts (mapping schema i.entities i.values)) ≡ true → instance schema is_defined false (instance_tree schema i) ≡ Ok i
  unfolding instance
  read_again i is all =
      let again = mapping_again i.name i.entities i.values is all in
      ap (λ t. if t then Err Twice else by_mapping schema is_defined i.name (mapping schema i.entities i.values)) again.0 ∙ again.1
