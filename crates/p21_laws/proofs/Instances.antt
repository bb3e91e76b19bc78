-- What was read of an instance is read again of what is written of it.
use Rattle.std.proofs.Common.{◌≡◌, ◌==◌, ℕ, zero, Bool, true, false, not, ◌||◌, nat_lt, if◌then◌else◌, List, [], ◌∷◌, append-nil, length, map, zip, Option, Some, None, is_some, slice_index_or, Ok, Err, ⊎_elim, refl, sym, ◌∙◌, subst, arith}
use Rattle.std.proofs.lemmas.Bool.{eqb-true}
use Rattle.std.proofs.lemmas.Bool.Decides.{nat_tests}
use Rattle.std.proofs.lemmas.List.Folds.{flat_map-map}
use Rattle.std.specs.List.{AllByRecursion, flat_map}
use Rattle.plain_data.specs.Numbers.{is_among}
use Rattle.ex_named.specs.declared.declaration.NamedEntity.{NamedEntity}
use Rattle.ex_slots.specs.Slots.{Slot, slots, slots_of}
use Rattle.ex_subtypes.specs.Legal.{graph, is_closed, is_connected, refusal}
use Rattle.ex_subtypes.specs.declared.legal.Illegal.{Illegal}
use Rattle.ex_subtypes.specs.declared.legal.Illegal.TheVariants.{NotClosed, NotConnected}
use Rattle.ex_types.specs.Checked.{Checked, entity_names}
use Rattle.graphs.proofs.Sets.{either}
use Rattle.p21_mappings.specs.Instances.{Mapped, and_then, by_entities, by_entity, by_mapping, by_layout, by_several, counted, each, has_twice, in_places, instance, keywords, made, part, repeats, same_counts, value}
use Rattle.p21_values.specs.Taking.{all_there}
use Rattle.ex_layouts.specs.Entities.{ascending, entity_spelled, is_legal, line_of, name_rank}
use Rattle.ex_layouts.specs.Layouts.{in_name_order, leaf, of_leaf, of_several, order_by, place_in, slots_in, entities_by}
use Rattle.p21_mappings.specs.Layouts.{external, internal}
use Rattle.p21_spelling.proofs.Runs.{first_holds, second_holds}
use Rattle.p21_tree.specs.declared.fault.InstanceFaultKind.TheVariants.{Twice}
use Rattle.p21_tree.specs.declared.instance.Instance as tree
use Rattle.p21_tree.specs.declared.instance.Mapping.{Mapping}
use Rattle.p21_tree.specs.declared.instance.Mapping.TheVariants.{External, Internal}
use Rattle.p21_tree.specs.declared.instance.Record.{Record}
use Rattle.p21_tree.specs.declared.value.Value as trees
use Rattle.rp_content.specs.declared.instance.Instance.{Instance}
use Rattle.rp_value.specs.declared.value.Value.{Value}
use Rattle.p21_laws.proofs.Attributes.{split, values_read}
use Rattle.p21_laws.proofs.Entities.{IsEntity, entities_of, entity_there}
use Rattle.p21_laws.proofs.Keywords.{Names, itself, keywords_stand, numbers_found, once_read}
use Rattle.p21_laws.proofs.Order.{OnceBy, any_in_order, once_in_order, order_again}
use Rattle.p21_laws.proofs.Pairs.{AllBoth, as_many, at_place, both_flat}
use Rattle.p21_laws.proofs.Layouts.{derived_same, leaf_is, legal_same, line_same, no_leaf_same}
use Rattle.p21_laws.proofs.Sets.{AreSame}
use Rattle.p21_laws.proofs.Shapes.{OfLeaf, OfEntities, slots_by, slots_with}
use Rattle.p21_laws.specs.Instances.{parts}
use Rattle.p21_laws.specs.Schemas.{IsAccepted}

-- ---- what was read

names_there : (schema : Checked) (ns : List ℕ) (rs : List Record) → AllBoth (Names schema) ns rs → (n : ℕ) → is_among ns n ≡ true → IsEntity schema n
names_there schema [] rs p n there = cc
names_there schema (m ∷ ns) [] p n there = absurd p
names_there schema (m ∷ ns) (r ∷ rs) p n there = ⊎_elim
    (λ (same : (m == n) ≡ true). subst (IsEntity schema) (eqb-true m n same) (entity_there schema r.keyword m p.0))
    (λ (later : is_among ns n ≡ true). names_there schema ns rs p.1 n later)
    (either (m == n) (is_among ns n) there)

connected_by : (closed connected : Bool) (others : Option Illegal) → not (is_some (if not closed then Some NotClosed else if not connected then Some NotConnected else others)) ≡ true → connected ≡ true
connected_by true true others e = refl
connected_by true false others e = cc
connected_by false connected others e = cc

connected_set : (entities : List NamedEntity) (set : List ℕ) → not (is_some (refusal entities set)) ≡ true → is_connected (graph entities) set ≡ true
unfolding refusal
connected_set entities set e = connected_by (is_closed (graph entities) set) (is_connected (graph entities) set) _ e

legal_some : (schema : Checked) (ns : List ℕ) → is_legal schema ns ≡ true → nat_lt 0 (length ns) ≡ true
unfolding ascending
legal_some schema [] e = let some = connected_set (entities_of schema) (ascending []) e in cc
legal_some schema (n ∷ ns) e = grind (arith, nat_tests)

module _ (schema : Checked) (accepted : IsAccepted schema.named) (is_defined : ℕ → Bool) (P : Slot → Value → Type 0) (Q : trees.Value → Type 0)
    (reads : (s : Slot) (x : trees.Value) (w : Value) → value schema is_defined (s, x) ≡ Ok w → Q x → P s w) where
  abbrev AllValues : List Record → Type 0
  AllValues rs = AllByRecursion (λ r. AllByRecursion Q r.values) rs

  -- by the slots of a layout, and what it makes of the values
  record LaidOut (rs : List Record) (slots : List (List Slot)) (make : List (List Value) → Instance) (i : Instance) : Type 0 where
    counts : same_counts slots rs ≡ true
    lists : List (List Value)
    parts : each (part schema is_defined) (zip slots rs) ≡ Ok lists
    is : make lists ≡ i

  laid_out_by : (rs : List Record) (slots : List (List Slot)) (make : List (List Value) → Instance) (i : Instance) (test : Bool) (r : Mapped (List (List Value))) → same_counts slots rs ≡ test
      → each (part schema is_defined) (zip slots rs) ≡ r → counted test (and_then r (λ lists. Ok (make lists))) ≡ Ok i → LaidOut rs slots make i
  laid_out_by rs slots make i true (Ok lists) counts parts e = record { counts = counts; lists = lists; parts = parts; is = cc }
  laid_out_by rs slots make i true (Err kind) counts parts e = cc
  laid_out_by rs slots make i false r counts parts e = cc

  laid_out : (rs : List Record) (slots : List (List Slot)) (make : List (List Value) → Instance) (i : Instance)
      → counted (same_counts slots rs) (and_then (each (part schema is_defined) (zip slots rs)) (λ lists. Ok (make lists))) ≡ Ok i → LaidOut rs slots make i
  laid_out rs slots make i e = laid_out_by rs slots make i (same_counts slots rs) (each (part schema is_defined) (zip slots rs)) refl refl e

  parts_read : (f : ℕ → List Slot) (ns : List ℕ) (rs : List Record) (lists : List (List Value)) → length ns ≡ length rs → same_counts (map f ns) rs ≡ true
      → each (part schema is_defined) (zip (map f ns) rs) ≡ Ok lists → AllValues rs → AllBoth (λ n ws. AllBoth P (f n) ws) ns lists
  parts_read f [] rs lists many counts e q = let same : [] ≡ lists = cc in subst (AllBoth (λ n ws. AllBoth P (f n) ws) []) same tt
  parts_read f (n ∷ ns) [] lists many counts e q = absurd (omega arith)
  parts_read f (n ∷ ns) (r ∷ rs) lists many counts e q =
      let fits : Bool = length (f n) == length r.values in
      let parts = split (part schema is_defined (f n, r)) (each (part schema is_defined) (zip (map f ns) rs)) lists e in
      subst (AllBoth (λ n ws. AllBoth P (f n) ws) (n ∷ ns)) parts.1.1.1.1 (
        values_read schema is_defined P Q reads (f n) r.values parts.0 (eqb-true (length (f n)) (length r.values) (first_holds fits (same_counts (map f ns) rs) counts)) parts.1.1.0 q.0,
        parts_read f ns rs parts.1.0 (omega arith) (second_holds fits (same_counts (map f ns) rs) counts) parts.1.1.1.0 q.1,
      )

  -- an instance of this name
  abbrev pub Is : ℕ → Instance → Type 0
  Is name i = (i.name ≡ name) × OfEntities schema P i.entities i.values

  -- ---- of an internal mapping

  of_one : (entity : ℕ) → IsEntity schema entity → is_legal schema (line_of schema entity) ≡ true → (lists : List (List Value)) → AllBoth (λ n ws. AllBoth P (slots_by schema n) ws) (entity ∷ []) lists
      → OfLeaf schema P entity (in_places (zero ∷ []) lists)
  of_one entity there legal [] p = absurd p
  of_one entity there legal (ws ∷ []) p = record { there = there; legal = legal; values = subst (AllBoth P (slots_by schema entity)) (sym (append-nil ws)) p.0 }
  of_one entity there legal (ws ∷ more ∷ others) p = absurd p.1

  read_leaf : (name : ℕ) (r : Record) (i : Instance) (entity : ℕ) → IsEntity schema entity → (legal : Bool) → is_legal schema (line_of schema entity) ≡ legal
      → by_layout schema is_defined name (r ∷ []) (if legal then Some (of_leaf schema entity) else None) ≡ Ok i → AllByRecursion Q r.values → Is name i
  read_leaf name r i entity there true legal e q =
      let p = laid_out (r ∷ []) (slots_by schema entity ∷ []) (made name (of_leaf schema entity)) i e in
      subst (Is name) p.is (refl, of_one entity there legal p.lists (parts_read (slots_by schema) (entity ∷ []) (r ∷ []) p.lists refl p.counts p.parts (q, tt)))
  read_leaf name r i entity there false legal e q = cc

  read_entity : (name : ℕ) (r : Record) (i : Instance) (o : Option ℕ) → entity_spelled schema r.keyword ≡ o → by_entity schema is_defined name (r ∷ []) o ≡ Ok i → AllByRecursion Q r.values → Is name i
  unfolding internal
  read_entity name r i None is e q = cc
  read_entity name r i (Some entity) is e q = read_leaf name r i entity (entity_there schema r.keyword entity is) (is_legal schema (line_of schema entity)) refl e q

  -- ---- of an external mapping

  module _ (ns : List ℕ) (lists : List (List Value)) (there : (n : ℕ) → is_among ns n ≡ true → IsEntity schema n) (once : OnceBy itself ns) (legal : is_legal schema ns ≡ true)
      (all : AllBoth (λ n ws. AllBoth P (slots_with schema ns n) ws) ns lists) where
    abbrev list_of : ℕ → List Value
    list_of n = slice_index_or lists (place_in ns n) []

    list_is : (n : ℕ) → is_among ns n ≡ true → AllBoth P (slots_with schema ns n) (list_of n)
    unfolding place_in
    list_is n in_ns = at_place (λ n ws. AllBoth P (slots_with schema ns n) ws) ns lists all n in_ns

    in_set : (ms : List ℕ) → AreSame ns ms → (n : ℕ) → is_among ms n ≡ true → AllBoth P (slots_with schema ms n) (list_of n)
    in_set ms same n in_ms = subst (λ derived. AllBoth P (slots_of (entities_of schema) derived n) (list_of n)) (derived_same schema ns ms same) (list_is n (same n ∙ in_ms))

    joined_lists : (ms : List ℕ) → in_places (map (place_in ns) ms) lists ≡ flat_map list_of ms
    joined_lists ms = flat_map-map (λ place. slice_index_or lists place []) (place_in ns) ms

    by_order : (o : Option ℕ) → leaf schema ns ≡ o → OfEntities schema P (entities_by schema ns o) (in_places (map (place_in ns) (order_by schema ns o)) lists)
    unfolding slots in_name_order
    by_order (Some entity) is =
        let same : AreSame ns (line_of schema entity) = line_same schema accepted ns entity legal is in
        record {
          there = there entity (leaf_is schema ns entity is).0;
          legal = sym (legal_same schema ns (line_of schema entity) same) ∙ legal;
          values = subst (AllBoth P (slots_by schema entity)) (sym (joined_lists (line_of schema entity)))
              (both_flat P (slots_with schema (line_of schema entity)) list_of (line_of schema entity) (in_set (line_of schema entity) same));
        }
    by_order None is =
        let ms : List ℕ = in_name_order schema ns in
        let same : AreSame ns ms = λ n. sym (any_in_order (name_rank schema) (λ m. m == n) ns) in
        record {
          there = λ n in_ms. there n (same n ∙ in_ms);
          some = legal_some schema ms (sym (legal_same schema ns ms same) ∙ legal);
          once = once_in_order (name_rank schema) itself ns once;
          legal = sym (legal_same schema ns ms same) ∙ legal;
          leafless = no_leaf_same schema ns ms same is;
          ordered = order_again (name_rank schema) ns;
          lists = list_of;
          joined = joined_lists ms;
          values = in_set ms same;
        }

  read_several : (name : ℕ) (rs : List Record) (i : Instance) (ns : List ℕ) → AllBoth (Names schema) ns rs → OnceBy itself ns → (legal : Bool) → is_legal schema ns ≡ legal
      → by_layout schema is_defined name rs (if legal then Some (of_several schema ns) else None) ≡ Ok i → AllValues rs → Is name i
  unfolding slots_in
  read_several name rs i ns named once true legal e q =
      let p = laid_out rs (slots_in schema ns) (made name (of_several schema ns)) i e in
      let there : (n : ℕ) → is_among ns n ≡ true → IsEntity schema n = λ n in_ns. names_there schema ns rs named n in_ns in
      subst (Is name) p.is
      (refl, by_order ns p.lists there once legal (parts_read (slots_with schema ns) ns rs p.lists (as_many (Names schema) ns rs named) p.counts p.parts q) (leaf schema ns) refl)
  read_several name rs i ns named once false legal e q = cc

  read_entities : (name : ℕ) (rs : List Record) (i : Instance) (o : Option (List ℕ)) → all_there (map (λ r. entity_spelled schema r.keyword) rs) ≡ o → repeats [] (keywords rs) ≡ false
      → by_entities schema is_defined name rs o ≡ Ok i → AllValues rs → Is name i
  unfolding external
  read_entities name rs i None is once e q = cc
  read_entities name rs i (Some ns) is once e q =
      let named = numbers_found schema rs ns is in
      read_several name rs i ns named (once_read (entity_names (entities_of schema)) [] ns (keywords rs) (keywords_stand schema ns rs named) once).0 (is_legal schema ns) refl e q

  read_mapping : (name : ℕ) (m : Mapping) (i : Instance) → has_twice m ≡ false → by_mapping schema is_defined name m ≡ Ok i → AllValues (parts m) → Is name i
  unfolding by_several
  read_mapping name (Internal r) i once e q = read_entity name r i (entity_spelled schema r.keyword) refl e q.0
  read_mapping name (External rs) i once e q = read_entities name rs i (all_there (map (λ r. entity_spelled schema r.keyword) rs)) refl once e q

  read_by_test : (stood twice : Bool) (x : tree.Instance) (i : Instance) → has_twice x.mapping ≡ twice → (if stood || twice then Err Twice else by_mapping schema is_defined x.name x.mapping) ≡ Ok i → AllValues (parts x.mapping) → (stood ≡ false) × Is x.name i
  read_by_test true twice x i is e q = cc
  read_by_test false true x i is e q = cc
  read_by_test false false x i is e q = (refl, read_mapping x.name x.mapping i is e q)

  pub instance_read : (stood : Bool) (x : tree.Instance) (i : Instance) → instance schema is_defined stood x ≡ Ok i → AllValues (parts x.mapping) → (stood ≡ false) × Is x.name i
  unfolding instance
  instance_read stood x i e q = read_by_test stood (has_twice x.mapping) x i refl e q
