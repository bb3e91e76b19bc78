-- What is derived of an instance that was read is indeterminate: it is read again of what is written of it.
use Rattle.std.proofs.Common.{◌≡◌, ◌==◌, ◌||◌, ℕ, zero, suc, Bool, true, false, inl, inr, nat_lt, if◌then◌else◌, List, [], ◌∷◌, ◌++◌, append-nil, length, map, zip, slice_index_or, Option, Some, None, Ok, Err, ⊎_elim, refl, sym, ◌∙◌, ap, subst, arith, one-add}
use Rattle.std.proofs.lemmas.Bool.{and_parts, cases_Bool, eqb-true}
use Rattle.std.specs.List.{AllByRecursion, flat_map, list_any, position_or_len}
use Rattle.plain_data.specs.Numbers.{is_among}
use Rattle.plain_data.proofs.Disjunctions.{or_turn}
use Rattle.ex_slots.specs.Slots.{Slot, derived_by, is_derived, is_explicit_at, slots, slots_of}
use Rattle.ex_schemas.specs.Schemas.{Checked}
use Rattle.ex_layouts.specs.declared.layout.Layout.{Layout}
use Rattle.ex_layouts.specs.Entities.{entities_of, entity_spelled, is_legal, line_of, name_rank}
use Rattle.ex_layouts.specs.Layouts.{entities_by, in_name_order, leaf, leaf_slots, of_leaf, of_several, order_by, place_in, slots_in}
use Rattle.p21_bind.specs.Files.{Instances, bound_by, bound_file, first_of, instances, instances_after, told}
use Rattle.p21_bind.specs.Origins.{IsInstanceOfFile, IsInstanceOfText, IsSpelled}
use Rattle.p21_bind.specs.Single.{bound_instance}
use Rattle.p21_canonical.specs.Trees.{instance_tree, leaf_part, mapping, own_parts, record_of, records}
use Rattle.p21_instances.specs.Instances as spelled
use Rattle.p21_instances.specs.Instances.{in_order, placed}
use Rattle.p21_instances.proofs.ByName.{all-in_order}
use Rattle.p21_mappings.specs.Contents.{content}
use Rattle.p21_mappings.specs.Instances.{Mapped, and_then, by_entities, by_entity, by_layout, by_mapping, by_several, counted, derived_value, each, has_twice, in_places, instance, is_left_out, made, misplaced, part, same_counts, value}
use Rattle.p21_mappings.specs.Layouts.{external, internal}
use Rattle.p21_tree.specs.declared.fault.InstanceFaultKind.TheVariants.{Twice}
use Rattle.p21_tree.specs.declared.instance.Instance as tree
use Rattle.p21_tree.specs.declared.instance.Record.{Record}
use Rattle.p21_tree.specs.declared.value.Value as trees
use Rattle.p21_values.specs.Taking.{all_there, with_first}
use Rattle.rp_content.specs.declared.content.Content.{Content}
use Rattle.rp_content.specs.declared.instance.Entities.{Entities}
use Rattle.rp_content.specs.declared.instance.Entities.TheVariants.{Leaf, Several}
use Rattle.rp_content.specs.declared.instance.Instance.{Instance}
use Rattle.rp_value.specs.declared.value.Value.{Value}
use Rattle.rp_value.specs.declared.value.Value.TheVariants as v
use Rattle.rp_rows.specs.Contents.{instance_name}
use Rattle.rp_use_laws.proofs.Lists.{any_flat, behind, here}
use Rattle.rp_use_laws.specs.Uses.{AllBoth, HasValues, IsUnset, entities_in}

-- ---- lists whose elements belong together

both_append : {A B : Type 0} (R : A → B → Type 0) (xs zs : List A) (ys ws : List B) → AllBoth R xs ys → AllBoth R zs ws → AllBoth R (xs ++ zs) (ys ++ ws)
both_append R [] zs [] ws p q = q
both_append R [] zs (y ∷ ys) ws p q = absurd p
both_append R (x ∷ xs) zs [] ws p q = absurd p
both_append R (x ∷ xs) zs (y ∷ ys) ws p q = (p.0, both_append R xs zs ys ws p.1 q)

-- what numbers give, number after number, where the other is given by places
both_flat : {A B : Type 0} (R : A → B → Type 0) (f : ℕ → List A) (g : ℕ → List B) (place : ℕ → ℕ) (ns : List ℕ) → ((n : ℕ) → is_among ns n ≡ true → AllBoth R (f n) (g (place n)))
    → AllBoth R (flat_map f ns) (flat_map g (map place ns))
both_flat R f g place [] each = tt
both_flat R f g place (n ∷ ns) each =
    both_append R (f n) (flat_map f ns) (g (place n)) (flat_map g (map place ns)) (each n (here n ns)) (both_flat R f g place ns (λ m there. each m (behind n m ns there)))

-- what stands where a number stands
at_place : {A B : Type 0} (R : A → B → Type 0) (f : ℕ → List A) (ns : List ℕ) (ls : List (List B)) → AllBoth (AllBoth R) (map f ns) ls → (n : ℕ) → is_among ns n ≡ true
    → AllBoth R (f n) (slice_index_or ls (position_or_len (λ m. m == n) ns) [])
at_place R f [] ls p n there = cc
at_place R f (m ∷ ns) [] p n there = absurd p
at_place R f (m ∷ ns) (l ∷ ls) p n there = ⊎_elim
    (λ (same : (m == n) ≡ true). rw same (subst (λ k. AllBoth R (f k) l) (eqb-true m n same) p.0))
    (λ (other : (m == n) ≡ false). rw (other, one-add) (at_place R f ns ls p.1 n (rw other at there)))
    (cases_Bool (m == n))

module _ {X : Type 0} (is_below : X → X → Bool) (test : X → Bool) where
  any_placed : (x : X) (ys : List X) → list_any test (placed is_below x ys) ≡ (test x || list_any test ys)
  any_placed x [] = refl
  any_placed x (y ∷ ys) = ⊎_elim
      (λ (e : is_below y x ≡ true). rw (e, any_placed x ys) (or_turn (test y) (test x) (list_any test ys)))
      (λ (e : is_below y x ≡ false). rw e refl)
      (cases_Bool (is_below y x))

  -- what is put in order stays what it is
  any_in_order : (xs : List X) → list_any test (in_order is_below xs) ≡ list_any test xs
  any_in_order [] = refl
  any_in_order (x ∷ xs) = any_placed x (in_order is_below xs) ∙ ap (λ b. test x || b) (any_in_order xs)

-- ---- values that were read

module _ (schema : Checked) (is_defined : ℕ → Bool) where
  unset_one : (s : Slot) (x : trees.Value) (w : Value) → value schema is_defined (s, x) ≡ Ok w → IsUnset s w
  unset_one s x w e derived = by _ s.is_derived derived e
    where
      by_open : (t : Bool) → (if t then Ok v.Indet else Err (misplaced x)) ≡ Ok w → w ≡ v.Indet
      by_open true e = cc
      by_open false e = cc

      by : (others : Mapped Value) (t : Bool) → t ≡ true → (if t then derived_value x else others) ≡ Ok w → w ≡ v.Indet
      by others true is e = by_open (is_left_out x) e
      by others false is e = cc

  values_unset : (ss : List Slot) (xs : List trees.Value) (ws : List Value) → length ss ≡ length xs → each (value schema is_defined) (zip ss xs) ≡ Ok ws → AllBoth IsUnset ss ws
  values_unset [] xs ws many e = let none : [] ≡ ws = cc in subst (AllBoth IsUnset []) none tt
  values_unset (s ∷ ss) [] ws many e = absurd (omega arith)
  values_unset (s ∷ ss) (x ∷ xs) ws many e = by (λ others later. values_unset ss xs others (omega arith) later) (value schema is_defined (s, x)) refl (each (value schema is_defined) (zip ss xs)) refl e
    where
      by : ((others : List Value) → each (value schema is_defined) (zip ss xs) ≡ Ok others → AllBoth IsUnset ss others) → (m : Mapped Value) → value schema is_defined (s, x) ≡ m → (o : Mapped (List Value)) → each (value schema is_defined) (zip ss xs) ≡ o → and_then m (λ y. and_then o (λ ys. Ok (y ∷ ys))) ≡ Ok ws
          → AllBoth IsUnset (s ∷ ss) ws
      by rest (Ok w) first (Ok others) later e =
          let it : w ∷ others ≡ ws = cc in
          subst (AllBoth IsUnset (s ∷ ss)) it (unset_one s x w first, rest others later)
      by rest (Ok w) first (Err kind) later e = cc
      by rest (Err kind) first o later e = cc

  abbrev AreUnset : List Slot → List Value → Type 0
  AreUnset = AllBoth IsUnset

  part_unset : (ss : List Slot) (r : Record) (ws : List Value) → (length ss == length r.values) ≡ true → part schema is_defined (ss, r) ≡ Ok ws → AreUnset ss ws
  part_unset ss r ws many e = values_unset ss r.values ws (eqb-true (length ss) (length r.values) many) e

  parts_unset : (sss : List (List Slot)) (rs : List Record) (ls : List (List Value)) → length sss ≡ length rs → same_counts sss rs ≡ true → each (part schema is_defined) (zip sss rs) ≡ Ok ls
      → AllBoth AreUnset sss ls
  parts_unset [] rs ls many counts e = let none : [] ≡ ls = cc in subst (AllBoth AreUnset []) none tt
  parts_unset (ss ∷ sss) [] ls many counts e = absurd (omega arith)
  parts_unset (ss ∷ sss) (r ∷ rs) ls many counts e =
      let both = and_parts (length ss == length r.values) (same_counts sss rs) counts in
      by both.0 (λ others later. parts_unset sss rs others (omega arith) both.1 later) (part schema is_defined (ss, r)) refl (each (part schema is_defined) (zip sss rs)) refl e
    where
      by : (length ss == length r.values) ≡ true → ((others : List (List Value)) → each (part schema is_defined) (zip sss rs) ≡ Ok others → AllBoth AreUnset sss others) → (m : Mapped (List Value)) → part schema is_defined (ss, r) ≡ m → (o : Mapped (List (List Value))) → each (part schema is_defined) (zip sss rs) ≡ o
          → and_then m (λ y. and_then o (λ ys. Ok (y ∷ ys))) ≡ Ok ls → AllBoth AreUnset (ss ∷ sss) ls
      by one all (Ok ws) first (Ok others) later e =
          let it : ws ∷ others ≡ ls = cc in
          subst (AllBoth AreUnset (ss ∷ sss)) it (part_unset ss r ws one first, all others later)
      by one all (Ok ws) first (Err kind) later e = cc
      by one all (Err kind) first o later e = cc

  -- ---- an instance by its layout

  record IsLaid (name : ℕ) (rs : List Record) (layout : Layout) (i : Instance) : Type 0 where
    pub lists : List (List Value)
    pub unset : length layout.slots ≡ length rs → AllBoth AreUnset layout.slots lists
    pub is : made name layout lists ≡ i

  laid_out : (name : ℕ) (rs : List Record) (layout : Layout) (i : Instance) → by_layout schema is_defined name rs (Some layout) ≡ Ok i → IsLaid name rs layout i
  laid_out name rs layout i e = by (same_counts layout.slots rs) refl (each (part schema is_defined) (zip layout.slots rs)) refl e
    where
      by : (t : Bool) → same_counts layout.slots rs ≡ t → (o : Mapped (List (List Value))) → each (part schema is_defined) (zip layout.slots rs) ≡ o
          → counted t (and_then o (λ lists. Ok (made name layout lists))) ≡ Ok i → IsLaid name rs layout i
      by true counts (Ok lists) parts e = record { lists = lists; unset = λ many. parts_unset layout.slots rs lists many counts parts; is = cc }
      by true counts (Err kind) parts e = cc
      by false counts o parts e = cc

  abbrev slots_by : Entities → List Slot
  slots_by entities = slots (entities_in schema) (entities_of schema entities)

  abbrev this : ℕ → Entities → List Value → Instance
  this name entities values = record { name = name; entities = entities; values = values }

  -- ---- one record

  one_list : (ss : List Slot) (ls : List (List Value)) → AllBoth AreUnset (ss ∷ []) ls → AreUnset ss (in_places (zero ∷ []) ls)
  one_list ss [] all = absurd all
  one_list ss (l ∷ []) all = subst (AreUnset ss) (sym (append-nil l)) all.0
  one_list ss (l ∷ m ∷ ls) all = absurd all.1

  leaf_read : (name entity : ℕ) (r : Record) (values : List Value) (o : Option ℕ) → by_entity schema is_defined name (r ∷ []) o ≡ Ok (this name (Leaf entity) values) → AreUnset (slots_by (Leaf entity)) values
  unfolding internal
  leaf_read name entity r values None e = cc
  leaf_read name entity r values (Some found) e = by (is_legal schema (line_of schema found)) e
    where
      by : (t : Bool) → by_layout schema is_defined name (r ∷ []) (if t then Some (of_leaf schema found) else None) ≡ Ok (this name (Leaf entity) values) → AreUnset (slots_by (Leaf entity)) values
      by false e = cc
      by true e =
          let laid = laid_out name (r ∷ []) (of_leaf schema found) (this name (Leaf entity) values) e in
          let same : Leaf found ≡ Leaf entity = ap (λ (i : Instance). i.entities) laid.is in
          let it : found ≡ entity = cc in
          let held : in_places (zero ∷ []) laid.lists ≡ values = ap (λ (i : Instance). i.values) laid.is in
          subst (λ n. AreUnset (slots_by (Leaf n)) values) it (subst (AreUnset (slots_by (Leaf found))) held (one_list (leaf_slots schema found) laid.lists (laid.unset refl)))

  -- ---- several records

  abbrev derived_among : List ℕ → ℕ → ℕ → Bool
  derived_among ns = is_derived (flat_map (derived_by (entities_in schema)) ns)

  abbrev is_named_before : ℕ → ℕ → Bool
  is_named_before k l = nat_lt (name_rank schema k) (name_rank schema l)

  derived_same : (ns : List ℕ) (e k : ℕ) → derived_among ns e k ≡ derived_among (in_name_order schema ns) e k
  unfolding in_name_order
  derived_same ns e k =
      let test : ℕ → Bool = λ n. list_any (is_explicit_at e k) (derived_by (entities_in schema) n) in
      any_flat (is_explicit_at e k) (derived_by (entities_in schema)) ns
      ∙ sym (any_in_order is_named_before test ns)
      ∙ sym (any_flat (is_explicit_at e k) (derived_by (entities_in schema)) (in_order is_named_before ns))

  among_ordered : (ns : List ℕ) (n : ℕ) → is_among (in_name_order schema ns) n ≡ true → is_among ns n ≡ true
  unfolding in_name_order
  among_ordered ns n there = sym (any_in_order is_named_before (λ m. m == n) ns) ∙ there

  in_their_order : (ns : List ℕ) (ls : List (List Value)) → AllBoth AreUnset (slots_in schema ns) ls
      → AreUnset (slots_by (Several (in_name_order schema ns))) (in_places (map (place_in ns) (in_name_order schema ns)) ls)
  unfolding slots slots_in place_in
  in_their_order ns ls all =
      let order : List ℕ = in_name_order schema ns in
      both_flat IsUnset (slots_of (entities_in schema) (derived_among order)) (λ place. slice_index_or ls place []) (position_in ns) order
      (λ n there. subst (λ d. AreUnset (slots_of (entities_in schema) d n) (slice_index_or ls (position_in ns n) [])) (λ i e k. derived_same ns e k i)
      (at_place IsUnset (slots_of (entities_in schema) (derived_among ns)) ns ls all n (among_ordered ns n there)))
    where
      position_in : List ℕ → ℕ → ℕ
      position_in ns n = position_or_len (λ m. m == n) ns

  several_read : (name : ℕ) (all : List ℕ) (rs : List Record) (values : List Value) (ns : List ℕ) → length ns ≡ length rs
      → by_entities schema is_defined name rs (Some ns) ≡ Ok (this name (Several all) values) → AreUnset (slots_by (Several all)) values
  unfolding external slots_in
  several_read name all rs values ns many e = by (is_legal schema ns) e
    where
      length_map : (f : ℕ → List Slot) (ms : List ℕ) → length (map f ms) ≡ length ms
      length_map f [] = refl
      length_map f (m ∷ ms) = ap suc (length_map f ms)

      by_leaf : (o : Option ℕ) (ls : List (List Value)) → AllBoth AreUnset (slots_in schema ns) ls
          → entities_by schema ns o ≡ Several all → in_places (map (place_in ns) (order_by schema ns o)) ls ≡ values → AreUnset (slots_by (Several all)) values
      by_leaf None ls unset same held =
          let it : in_name_order schema ns ≡ all = cc in
          subst (λ l. AreUnset (slots_by (Several l)) values) it (subst (AreUnset (slots_by (Several (in_name_order schema ns)))) held (in_their_order ns ls unset))
      by_leaf (Some entity) ls unset same held = cc

      by : (t : Bool) → by_layout schema is_defined name rs (if t then Some (of_several schema ns) else None) ≡ Ok (this name (Several all) values) → AreUnset (slots_by (Several all)) values
      by false e = cc
      by true e =
          let laid = laid_out name rs (of_several schema ns) (this name (Several all) values) e in
          by_leaf (leaf schema ns) laid.lists (laid.unset (length_map (slots_of (entities_in schema) (derived_among ns)) ns ∙ many))
          (ap (λ (i : Instance). i.entities) laid.is) (ap (λ (i : Instance). i.values) laid.is)

  as_many : (f : Record → Option ℕ) (xs : List Record) (ys : List ℕ) → all_there (map f xs) ≡ Some ys → length ys ≡ length xs
  as_many f [] ys e = let none : [] ≡ ys = cc in ap length (sym none)
  as_many f (x ∷ xs) ys e = by (λ others later. as_many f xs others later) (f x) (all_there (map f xs)) refl e
    where
      by : ((others : List ℕ) → all_there (map f xs) ≡ Some others → length others ≡ length xs) → (o : Option ℕ) (l : Option (List ℕ)) → all_there (map f xs) ≡ l → with_first o l ≡ Some ys → length ys ≡ suc (length xs)
      by rest (Some y) (Some others) later e = let it : y ∷ others ≡ ys = cc in ap length (sym it) ∙ ap suc (rest others later)
      by rest (Some y) None later e = cc
      by rest None l later e = cc

  of_records : (name : ℕ) (all : List ℕ) (rs : List Record) (values : List Value) (o : Option (List ℕ)) → all_there (map (λ r. entity_spelled schema r.keyword) rs) ≡ o
      → by_entities schema is_defined name rs o ≡ Ok (this name (Several all) values) → AreUnset (slots_by (Several all)) values
  of_records name all rs values None is e = cc
  of_records name all rs values (Some ns) is e = several_read name all rs values ns (as_many (λ r. entity_spelled schema r.keyword) rs ns is) e

  -- ---- an instance that is read of what is written of it

  of_mapping : (name : ℕ) (entities : Entities) (values : List Value) → by_mapping schema is_defined name (mapping schema entities values) ≡ Ok (this name entities values) → AreUnset (slots_by entities) values
  unfolding by_several
  of_mapping name (Leaf entity) values e =
      let r : Record = record_of schema (leaf_part schema entity) values in
      leaf_read name entity r values (entity_spelled schema r.keyword) e
  of_mapping name (Several all) values e =
      let rs : List Record = records schema (own_parts schema all) values in
      of_records name all rs values (all_there (map (λ r. entity_spelled schema r.keyword) rs)) refl e

  untold : (twice : Bool) (m : Mapped Instance) (i : Instance) → (if twice then Err Twice else m) ≡ Ok i → m ≡ Ok i
  untold true m i e = cc
  untold false m i e = e

  pub again_unset : (i : Instance) → instance schema is_defined false (instance_tree schema i) ≡ Ok i → HasValues schema i
  unfolding instance
  again_unset i e =
      let x : tree.Instance = instance_tree schema i in
      of_mapping i.name i.entities i.values (untold (has_twice x.mapping) (by_mapping schema is_defined x.name x.mapping) i e)

-- ---- instances of files and texts were read

module _ (schema : Checked) where
  abbrev pub WasRead : Instance → Type 0
  WasRead i = (is_defined : ℕ → Bool) × ((stood : Bool) × ((x : tree.Instance) × (instance schema is_defined stood x ≡ Ok i)))

  not_told : (name : ℕ) (m : Mapped Instance) (i : Instance) → told name m ≡ Ok i → m ≡ Ok i
  not_told name (Ok j) i e = cc
  not_told name (Err kind) i e = cc

  all_read : (is_defined stood : ℕ → Bool) (xs : List tree.Instance) (is : List Instance) → instances_after schema is_defined stood xs ≡ Ok is → AllByRecursion WasRead is
  all_read is_defined stood [] is e = let none : [] ≡ is = cc in subst (AllByRecursion WasRead) none tt
  all_read is_defined stood (x ∷ xs) is e =
      by (λ others later. all_read is_defined (λ n. (x.name == n) || stood n) xs others later) (instance schema is_defined (stood x.name) x) refl (instances_after schema is_defined (λ n. (x.name == n) || stood n) xs) refl e
    where
      by : ((others : List Instance) → instances_after schema is_defined (λ n. (x.name == n) || stood n) xs ≡ Ok others → AllByRecursion WasRead others) → (m : Mapped Instance)
          → instance schema is_defined (stood x.name) x ≡ m → (o : Instances) → instances_after schema is_defined (λ n. (x.name == n) || stood n) xs ≡ o
          → first_of (told x.name m) o ≡ Ok is → AllByRecursion WasRead is
      by rest (Ok i) first (Ok others) later e =
          let it : i ∷ others ≡ is = cc in
          subst (AllByRecursion WasRead) it ((is_defined, (stood x.name, (x, first))), rest others later)
      by rest (Ok i) first (Err fault) later e = cc
      by rest (Err kind) first o later e = cc

  in_middle : (P : Instance → Type 0) (before : List Instance) (i : Instance) (others : List Instance) → AllByRecursion P (before ++ i ∷ others) → P i
  in_middle P [] i others all = all.0
  in_middle P (j ∷ before) i others all = in_middle P before i others all.1

  of_file : (i : Instance) → IsInstanceOfFile schema i → WasRead i
  unfolding bound_file instances
  of_file i from = by (instances schema from.linked from.raw.instances) refl from.says
    where
      by : (o : Instances) → instances schema from.linked from.raw.instances ≡ o → bound_by from.raw.header o ≡ Ok from.content → WasRead i
      by (Ok xs) read e =
          let it : content from.raw.header xs ≡ from.content = cc in
          in_middle WasRead from.before i from.behind
          (subst (AllByRecursion WasRead) (ap (λ (c : Content). c.instances) it ∙ from.stands) (all-in_order instance_name WasRead xs (all_read (is_among (spelled.names from.raw.instances ++ from.linked)) (λ n. false) from.raw.instances xs read)))
      by (Err fault) read e = cc

  of_text : (i : Instance) → IsInstanceOfText schema i → WasRead i
  unfolding bound_instance
  of_text i from =
      let x : tree.Instance = record { name = i.name; mapping = from.mapping } in
      (from.defined, (false, (x, not_told i.name (instance schema from.defined false x) i from.says)))

  pub was_read : (i : Instance) → IsSpelled schema i → WasRead i
  was_read i (inl from) = of_file i from
  was_read i (inr from) = of_text i from
