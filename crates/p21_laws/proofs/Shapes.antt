-- What an instance is that was read, and the records that are written of it.
use Rattle.std.proofs.Common.{◌≡◌, ℕ, zero, suc, Bool, true, false, ◌&&◌, nat_lt, List, [], ◌∷◌, ◌++◌, length, map, take, drop, None, refl, sym, ◌∙◌, ap, drop_at, take_at}
use Rattle.std.proofs.lemmas.List.Folds.{list_all-map}
use Rattle.std.specs.List.{flat_map, list_all}
use Rattle.plain_data.specs.Numbers.{is_among, numbered}
use Rattle.ex_slots.specs.Slots.{Slot, slots, slots_of}
use Rattle.ex_types.specs.Checked.{Checked}
use Rattle.ex_layouts.specs.Entities.{is_legal, line_of}
use Rattle.ex_layouts.specs.Layouts.{in_name_order, leaf, slots_in}
use Rattle.p21_tree.specs.declared.instance.Record.{Record}
use Rattle.p21_canonical.specs.Trees.{attributes, entity_name, leaf_part, mapping, marks_of, own_part, own_parts, record_of, records}
use Rattle.rp_content.specs.declared.instance.Entities.{Entities}
use Rattle.rp_content.specs.declared.instance.Entities.TheVariants.{Leaf, Several}
use Rattle.rp_value.specs.declared.value.Value.{Value}
use Rattle.p21_laws.proofs.Attributes.{attributes_are, trees_of}
use Rattle.p21_laws.proofs.Entities.{IsEntity, entities_of}
use Rattle.p21_laws.proofs.Keywords.{itself}
use Rattle.p21_laws.proofs.Order.{OnceBy}
use Rattle.p21_laws.proofs.Pairs.{AllBoth, as_many, numbered_next}
use Rattle.p21_laws.proofs.Layouts.{derived_among}
use Rattle.p21_laws.proofs.Sets.{all_pass, behind, here}
use Rattle.p21_laws.specs.Instances.{parts}

module _ (schema : Checked) where
  -- the slots of an entity's own attributes, in an instance of these entities
  abbrev pub slots_with : List ℕ → ℕ → List Slot
  slots_with all = slots_of (entities_of schema) (derived_among schema all)

  abbrev pub slots_by : ℕ → List Slot
  slots_by entity = slots (entities_of schema) (line_of schema entity)

  abbrev pub record_by : ℕ → List Slot → List Value → Record
  record_by entity ss ws = record { keyword = entity_name (entities_of schema) entity; values = trees_of schema.named.schema.types ss ws }

module _ (schema : Checked) (P : Slot → Value → Type 0) where
  pub record OfLeaf (entity : ℕ) (ws : List Value) : Type 0 where
    pub there : IsEntity schema entity
    pub legal : is_legal schema (line_of schema entity) ≡ true
    pub values : AllBoth P (slots_by schema entity) ws

  pub record OfSeveral (all : List ℕ) (ws : List Value) : Type 0 where
    pub there : (n : ℕ) → is_among all n ≡ true → IsEntity schema n
    pub some : nat_lt 0 (length all) ≡ true
    pub once : OnceBy itself all
    pub legal : is_legal schema all ≡ true
    pub leafless : leaf schema all ≡ None
    pub ordered : in_name_order schema all ≡ all
    pub lists : ℕ → List Value
    pub joined : ws ≡ flat_map lists all
    pub values : (n : ℕ) → is_among all n ≡ true → AllBoth P (slots_with schema all n) (lists n)

  abbrev pub OfEntities : Entities → List Value → Type 0
  OfEntities (Leaf entity) ws = OfLeaf entity ws
  OfEntities (Several all) ws = OfSeveral all ws

-- ---- the record of a leaf

module _ (schema : Checked) (P : Slot → Value → Type 0) where
  pub leaf_record : (entity : ℕ) (ws : List Value) → AllBoth P (slots_by schema entity) ws → record_of schema (leaf_part schema entity) ws ≡ record_by schema entity (slots_by schema entity) ws
  leaf_record entity ws p =
      ap (λ xs. record { keyword = entity_name (entities_of schema) entity; values = xs }) (attributes_are schema.named.schema.types P (slots_by schema entity) ws p)

  -- ---- the records of several entities

  parts_are : (f : ℕ → List Slot) (ns : List ℕ) → numbered (own_part (map f ns)) ns ≡ map (λ n. own_part (f n ∷ []) zero n) ns
  parts_are f [] = refl
  parts_are f (n ∷ ns) = ap (λ l. own_part (f n ∷ []) zero n ∷ l) (numbered_next (own_part (f n ∷ map f ns)) zero ns ∙ parts_are f ns)

  module _ (f : ℕ → List Slot) (lists : ℕ → List Value) where
    records_are : (ns : List ℕ) → ((n : ℕ) → is_among ns n ≡ true → AllBoth P (f n) (lists n)) → records schema (map (λ n. own_part (f n ∷ []) zero n) ns) (flat_map lists ns) ≡ map (λ n. record_by schema n (f n) (lists n)) ns
    records_are [] each = refl
    records_are (n ∷ ns) each =
        let both = each n (here n ns) in
        let many : length (lists n) ≡ length (marks_of (f n)) = sym (as_many P (f n) (lists n) both) ∙ sym (length_map (f n)) in
        let one : attributes schema.named.schema.types (marks_of (f n)) (take (length (marks_of (f n))) (lists n ++ flat_map lists ns)) ≡ trees_of schema.named.schema.types (f n) (lists n) =
        ap (attributes schema.named.schema.types (marks_of (f n))) (take_at (lists n) (flat_map lists ns) (length (marks_of (f n))) many) ∙ attributes_are schema.named.schema.types P (f n) (lists n) both in
        ap (λ xs. record { keyword = entity_name (entities_of schema) n; values = xs } ∷ records schema (map (λ n. own_part (f n ∷ []) zero n) ns) (drop (length (marks_of (f n))) (lists n ++ flat_map lists ns))) one
        ∙ ap (λ ws. record_by schema n (f n) (lists n) ∷ records schema (map (λ n. own_part (f n ∷ []) zero n) ns) ws) (drop_at (lists n) (flat_map lists ns) (length (marks_of (f n))) many)
        ∙ ap (λ rs. record_by schema n (f n) (lists n) ∷ rs) (records_are ns (λ m there. each m (behind n m ns there)))
      where
        length_map : (ss : List Slot) → length (marks_of ss) ≡ length ss
        length_map [] = refl
        length_map (s ∷ ss) = ap suc (length_map ss)

  module _ (all : List ℕ) (ws : List Value) (is : OfSeveral schema P all ws) where
    abbrev pub made : ℕ → Record
    made n = record_by schema n (slots_with schema all n) (is.lists n)

    pub several_records : records schema (own_parts schema all) ws ≡ map made all
    unfolding slots_in
    several_records =
        ap (λ ps. records schema ps ws) (parts_are (slots_with schema all) all)
        ∙ ap (records schema (map (λ n. own_part (slots_with schema all n ∷ []) zero n) all)) is.joined
        ∙ records_are (slots_with schema all) is.lists all is.values

  -- ---- what holds of each record

  module _ (test : Record → Bool) (passes : (n : ℕ) (ss : List Slot) (ws : List Value) → IsEntity schema n → AllBoth P ss ws → test (record_by schema n ss ws) ≡ true) where
    pub leaf_passes : (entity : ℕ) (ws : List Value) → OfLeaf schema P entity ws → test (record_of schema (leaf_part schema entity) ws) ≡ true
    leaf_passes entity ws is = ap test (leaf_record entity ws is.values) ∙ passes entity (slots_by schema entity) ws is.there is.values

    pub several_pass : (all : List ℕ) (ws : List Value) → OfSeveral schema P all ws → list_all test (records schema (own_parts schema all) ws) ≡ true
    several_pass all ws is =
        ap (list_all test) (several_records all ws is)
        ∙ list_all-map test (made all ws is) all
        ∙ all_pass (λ n. test (made all ws is n)) all (λ n there. passes n (slots_with schema all n) (is.lists n) (is.there n there) (is.values n there))

    both_pass : (b : Bool) → b ≡ true → (b && true) ≡ true
    both_pass true e = refl
    both_pass false e = e

    pub parts_pass : (entities : Entities) (ws : List Value) → OfEntities schema P entities ws → list_all test (parts (mapping schema entities ws)) ≡ true
    parts_pass (Leaf entity) ws is = both_pass (test (record_of schema (leaf_part schema entity) ws)) (leaf_passes entity ws is)
    parts_pass (Several all) ws is = several_pass all ws is
