-- What a text of one instance says under a name has the name.
use Rattle.std.proofs.Common.{◌≡◌, ℕ, Bool, true, false, ◌||◌, List, [], ◌∷◌, Option, Some, None, Ok, Err, refl, ◌∙◌, ap}
use Rattle.std.specs.Prelude.{if◌then◌else◌, map}
use Rattle.std.specs.List.{zip}
use Rattle.ex_layouts.specs.declared.layout.Layout.{Layout}
use Rattle.ex_layouts.specs.Entities.{entity_spelled}
use Rattle.ex_types.specs.Checked.{Checked}
use Rattle.p21_bind.specs.Files.{told}
use Rattle.p21_bind.specs.Single.{bound_instance}
use Rattle.p21_mappings.specs.Instances.{Mapped, and_then, each, has_twice, same_counts, made, counted, part, by_layout, by_entity, by_entities, by_several, by_mapping, instance}
use Rattle.p21_mappings.specs.Layouts.{internal, external}
use Rattle.p21_tree.specs.declared.fault.InstanceFaultKind.TheVariants.{Twice}
use Rattle.p21_tree.specs.declared.instance.Instance as tree
use Rattle.p21_tree.specs.declared.instance.Mapping.{Mapping}
use Rattle.p21_tree.specs.declared.instance.Mapping.TheVariants.{Internal, External}
use Rattle.p21_tree.specs.declared.instance.Record.{Record}
use Rattle.p21_values.specs.Taking.{all_there}
use Rattle.rp_content.specs.declared.instance.Instance.{Instance}
use Rattle.rp_value.specs.declared.value.Value.{Value}

module _ (schema : Checked) (is_defined : ℕ → Bool) where
  made_named : (name : ℕ) (layout : Layout) (fits : Bool) (o : Mapped (List (List Value))) (i : Instance) → counted fits (and_then o (λ lists. Ok (made name layout lists))) ≡ Ok i → i.name ≡ name
  made_named name layout true (Ok lists) i e = cc
  made_named name layout true (Err kind) i e = cc
  made_named name layout false o i e = cc

  layout_named : (name : ℕ) (records : List Record) (o : Option Layout) (i : Instance) → by_layout schema is_defined name records o ≡ Ok i → i.name ≡ name
  layout_named name records None i e = cc
  layout_named name records (Some layout) i e = made_named name layout (same_counts layout.slots records) (each (part schema is_defined) (zip layout.slots records)) i e

  entity_named : (name : ℕ) (records : List Record) (o : Option ℕ) (i : Instance) → by_entity schema is_defined name records o ≡ Ok i → i.name ≡ name
  entity_named name records None i e = cc
  entity_named name records (Some entity) i e = layout_named name records (internal schema entity) i e

  entities_named : (name : ℕ) (records : List Record) (o : Option (List ℕ)) (i : Instance) → by_entities schema is_defined name records o ≡ Ok i → i.name ≡ name
  entities_named name records None i e = cc
  entities_named name records (Some entities) i e = layout_named name records (external schema entities) i e

  several_named : (name : ℕ) (records : List Record) (i : Instance) → by_several schema is_defined name records ≡ Ok i → i.name ≡ name
  unfolding by_several
  several_named name records i e = entities_named name records (all_there (map (λ r. entity_spelled schema r.keyword) records)) i e

  mapping_named : (name : ℕ) (mapping : Mapping) (i : Instance) → by_mapping schema is_defined name mapping ≡ Ok i → i.name ≡ name
  mapping_named name (Internal single) i e = entity_named name (single ∷ []) (entity_spelled schema single.keyword) i e
  mapping_named name (External records) i e = several_named name records i e

  tested : (x : tree.Instance) (i : Instance) (stood twice : Bool) → (if stood || twice then Err Twice else by_mapping schema is_defined x.name x.mapping) ≡ Ok i → i.name ≡ x.name
  tested x i true twice e = cc
  tested x i false true e = cc
  tested x i false false e = mapping_named x.name x.mapping i e

  instance_named : (stood : Bool) (x : tree.Instance) (i : Instance) → instance schema is_defined stood x ≡ Ok i → i.name ≡ x.name
  unfolding instance
  instance_named stood x i e = tested x i stood (has_twice x.mapping) e

  pub bound_named : (name : ℕ) (mapping : Mapping) (i : Instance) → bound_instance schema is_defined name mapping ≡ Ok i → i.name ≡ name
  unfolding bound_instance
  bound_named name mapping i e = by (instance schema is_defined false (record { name = name; mapping = mapping })) refl e
    where
      by : (o : Mapped Instance) → instance schema is_defined false (record { name = name; mapping = mapping }) ≡ o → told name o ≡ Ok i → i.name ≡ name
      by (Ok j) is f =
          let same : j ≡ i = cc in
          instance_named false (record { name = name; mapping = mapping }) i (is ∙ ap Ok same)
      by (Err kind) is f = cc
