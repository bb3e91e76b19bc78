-- What a model of a valid repository holds is read again of its canonical text.
use Rattle.std.proofs.Common.{◌≡◌, ◌≤◌, ◌<◌, ℕ, zero, suc, Bool, true, false, ◌&&◌, List, [], ◌∷◌, ◌++◌, length, map, take, drop, Some, refl, sym, ◌∙◌, ap, subst, arith}
use Rattle.std.specs.Prelude.{slice_index_or, if◌then◌else◌}
use Rattle.std.specs.List.{AllByRecursion, find, flat_map, list_all}
use Rattle.std.specs.Ordering.{is_gt, nat_cmp}
use Rattle.std.specs.Str.{bytes_eq}
use Rattle.std.proofs.lemmas.Bool.{and_parts}
use Rattle.std.proofs.lemmas.Bool.Decides.{nat_tests}
use Rattle.std.proofs.lemmas.List.Folds.{list_all-append}
use Rattle.plain_data.specs.Numbers.{is_among, numbered_from}
use Rattle.ex_named.specs.declared.declaration.NamedType.{NamedType}
use Rattle.ex_types.specs.Checked.{Checked}
use Rattle.p21_instances.specs.Instances as spelled
use Rattle.p21_laws.proofs.Attributes.{refers-Derived}
use Rattle.p21_laws.proofs.Kept.{kept_again}
use Rattle.p21_laws.proofs.Referred.{names_of, names_rolls, opened_tree}
use Rattle.p21_laws.specs.Instances as written
use Rattle.p21_laws.specs.Kept as kept
use Rattle.p21_laws.specs.Kept.{IsKept}
use Rattle.p21_laws.specs.Schemas.{IsAccepted}
use Rattle.p21_bind.specs.Files.{AreAscending}
use Rattle.p21_bind.specs.Origins.{IsSpelled}
use Rattle.p21_tree.specs.declared.value.Value as tree
use Rattle.p21_tree.specs.declared.value.Value.TheFolds as trees
use Rattle.p21_canonical.specs.Trees.{attribute_at, attribute_tree, instance_tree, leaf_part, mapping, own_parts, record_of, records, value_tree}
use Rattle.rp_content.specs.declared.instance.Instance.{Instance}
use Rattle.rp_content.specs.declared.instance.Entities.{Entities}
use Rattle.rp_content.specs.declared.instance.Entities.TheVariants.{Leaf, Several}
use Rattle.rp_value.specs.declared.value.Value.{Value}
use Rattle.rp_value.specs.declared.value.Value.TheFolds.{fold-roll-Value, ind-Value, map-Value}
use Rattle.rp_value.specs.declared.value.Value.TheOpen.{Value-F}
use Rattle.sorted_tables.specs.Table.{IsAscending, is_after}
use Rattle.rp_rows.specs.declared.rows.Key.{Key}
use Rattle.rp_rows.specs.declared.rows.ModelContent.{ModelContent}
use Rattle.rp_rows.specs.Contents.{greatest_name, instance_name, link_name, link_names, names, referred, references, references_of}
use Rattle.rp_rows.specs.Instances.{max_name}
use Rattle.rp_rows.specs.Rows.{Model, row_key}
use Rattle.rp_plain.specs.Meaning.{schema_name}
use Rattle.rp_plain.specs.Valid.{IsSound, IsValidContent, IsValidModel}
use Rattle.rp_laws.proofs.BoundValues.{Passes}
use Rattle.rp_laws.proofs.ByName.{all_within}
use Rattle.rp_laws.proofs.ValidTables.{all_each}
use Rattle.rp_laws.specs.Laws.{IsModelReadAgain, TextAgain}

-- ---- what is written of a value refers to what the value does

module _ (types : List NamedType) where
  abbrev IsSame : Value → Type 0
  IsSame w = names_of types w ≡ references w

  abbrev Same : Type 0
  Same = (w : Value) × IsSame w

  all_same : (ps : List Same) → flat_map (λ found. found) (map spelled.references (map (value_tree types) (map (λ p. p.0) ps))) ≡ flat_map (λ found. found) (map references (map (λ p. p.0) ps))
  all_same [] = refl
  all_same (p ∷ ps) = λ i. p.1 i ++ all_same ps i

  layer_same : (y : Value-F Same) → spelled.referred (trees.map-Value tree.Value (List ℕ) spelled.references (opened_tree types (map-Value Same Value (λ p. p.0) y))) ≡ referred (map-Value Value (List ℕ) references (map-Value Same Value (λ p. p.0) y))
  layer_same Value-F.Indet = refl
  layer_same (Value-F.Int n) = refl
  layer_same (Value-F.Dec d) = refl
  layer_same (Value-F.Str text) = refl
  layer_same (Value-F.Bin bits) = refl
  layer_same (Value-F.Log x) = refl
  layer_same (Value-F.Item n place) = refl
  layer_same (Value-F.Inst name) = refl
  layer_same (Value-F.Agg kind elements) = all_same elements.items
  layer_same (Value-F.Named n p) = p.1

  same_names : (w : Value) → IsSame w
  same_names = ind-Value IsSame (λ x y is.
      names_rolls types x
      ∙ subst (λ z. spelled.referred (trees.map-Value tree.Value (List ℕ) spelled.references (opened_tree types z)) ≡ referred (map-Value Value (List ℕ) references z)) is (layer_same y)
      ∙ sym (fold-roll-Value (List ℕ) referred x))

-- ---- and so does what is written of an instance

both : (p : ℕ → Bool) (xs ys : List ℕ) → list_all p xs ≡ true → list_all p ys ≡ true → list_all p (xs ++ ys) ≡ true
both p xs ys one other = list_all-append p xs ys ∙ (λ i. one i && other i)

each_passes : (p : ℕ → Bool) (ws : List Value) → list_all p (flat_map references ws) ≡ true → AllByRecursion (Passes p) ws
each_passes p [] e = tt
each_passes p (w ∷ ws) e =
    let parts = and_parts (list_all p (references w)) (list_all p (flat_map references ws)) (sym (list_all-append p (references w) (flat_map references ws)) ∙ e) in
    (parts.0, each_passes p ws parts.1)

all_taken : (P : Value → Type 0) (n : ℕ) (ws : List Value) → AllByRecursion P ws → AllByRecursion P (take n ws)
all_taken P zero [] all = tt
all_taken P zero (w ∷ ws) all = tt
all_taken P (suc n) [] all = tt
all_taken P (suc n) (w ∷ ws) all = (all.0, all_taken P n ws all.1)

all_dropped : (P : Value → Type 0) (n : ℕ) (ws : List Value) → AllByRecursion P ws → AllByRecursion P (drop n ws)
all_dropped P zero [] all = tt
all_dropped P zero (w ∷ ws) all = all
all_dropped P (suc n) [] all = tt
all_dropped P (suc n) (w ∷ ws) all = all_dropped P n ws all.1

module _ (schema : Checked) (defined : ℕ → Bool) where
  abbrev types : List NamedType
  types = schema.named.schema.types

  abbrev AllPass : List Value → Type 0
  AllPass = AllByRecursion (Passes defined)

  abbrev are_defined : List tree.Value → Bool
  are_defined xs = list_all defined (flat_map spelled.references xs)

  attribute_passes : (is_derived : Bool) (w : Value) → Passes defined w → list_all defined (spelled.references (attribute_tree types is_derived w)) ≡ true
  attribute_passes true w passes = ap (list_all defined) refers-Derived
  attribute_passes false w passes = ap (list_all defined) (same_names types w) ∙ passes

  attributes_pass : (marks : List Bool) (k : ℕ) (ws : List Value) → AllPass ws → are_defined (numbered_from (attribute_at types marks) k ws) ≡ true
  attributes_pass marks k [] all = refl
  attributes_pass marks k (w ∷ ws) all =
      both defined (spelled.references (attribute_at types marks k w)) (flat_map spelled.references (numbered_from (attribute_at types marks) (suc k) ws))
      (attribute_passes (slice_index_or marks k false) w all.0) (attributes_pass marks (suc k) ws all.1)

  record_passes : (part : _) (ws : List Value) → AllPass ws → are_defined (record_of schema part ws).values ≡ true
  record_passes part ws all = attributes_pass part.marks zero ws all

  records_pass : (parts : List _) (ws : List Value) → AllPass ws → list_all defined (flat_map (λ part. flat_map spelled.references part.values) (records schema parts ws)) ≡ true
  records_pass [] ws all = refl
  records_pass (part ∷ parts) ws all =
      let own : List Value = take (length part.marks) ws in
      let others : List Value = drop (length part.marks) ws in
      both defined (flat_map spelled.references (record_of schema part own).values) (flat_map (λ part. flat_map spelled.references part.values) (records schema parts others))
      (record_passes part own (all_taken (Passes defined) (length part.marks) ws all)) (records_pass parts others (all_dropped (Passes defined) (length part.marks) ws all))

  mapping_passes : (ts : Entities) (ws : List Value) → AllPass ws → list_all defined (written.references_of (mapping schema ts ws)) ≡ true
  mapping_passes (Leaf leaf) ws all = both defined (flat_map spelled.references (record_of schema (leaf_part schema leaf) ws).values) [] (record_passes (leaf_part schema leaf) ws all) refl
  mapping_passes (Several ns) ws all = records_pass (own_parts schema ns) ws all

  tree_passes : (i : Instance) → list_all defined (references_of i) ≡ true → list_all defined (written.references_of (instance_tree schema i).mapping) ≡ true
  tree_passes i e = mapping_passes i.entities i.values (each_passes defined i.values e)

-- ---- what a valid model holds

is_below : (m n : ℕ) → is_gt (nat_cmp n m) ≡ true → m < n
is_below m n e = grind (arith, nat_tests)

ascends : (is : List Instance) → IsAscending nat_cmp instance_name is → AreAscending is
ascends [] order = tt
ascends (i ∷ is) order = (
  all_each (λ (j : Instance). is_after nat_cmp instance_name i.name j ≡ true) (λ (j : Instance). i.name < j.name) (λ j e. is_below i.name j.name e) is order.0,
  ascends is order.1,
)

module _ (schemas : List Checked) (partners : List (List ℕ)) (k : Key) (h : ModelContent) (valid : IsValidContent schemas partners k h) where
  names_low : AllByRecursion (λ (i : Instance). i.name ≤ max_name) h.content.instances
  names_low =
      let in_use = valid.in_use in
      let greatest = valid.greatest in
      let all = all_within link_name max_name (greatest_name 0 h.content.instances) h.content.links (omega arith) in
      (all_within instance_name max_name 0 h.content.instances all.0).1

  is_kept : (schema : Checked) → valid.schema ≡ schema → IsKept schema (link_names h.content.links) h.content
  is_kept schema same = record {
    header = valid.header;
    order = ascends h.content.instances valid.instances;
    names = names_low;
    read = subst (λ s. AllByRecursion (IsSpelled s) h.content.instances) same valid.spelled;
    sound = all_each (IsSound h.content) (kept.IsSound schema (link_names h.content.links) h.content.instances)
        (λ i e. tree_passes schema (is_among (names h.content.instances ++ link_names h.content.links)) i e) h.content.instances valid.sound;
  }

abbrev pub AllAccepted : List Checked → Type 0
AllAccepted = AllByRecursion (λ (schema : Checked). IsAccepted schema.named)

-- a schema that is found is one of them
found_accepted : (test : Checked → Bool) (schemas : List Checked) (schema : Checked) → AllAccepted schemas → find test schemas ≡ Some schema → IsAccepted schema.named
found_accepted test [] schema all found = cc
found_accepted test (x ∷ xs) schema all found = by (found_accepted test xs schema all.1) (test x) found
  where
    by : (find test xs ≡ Some schema → IsAccepted schema.named) → (t : Bool) → (if t then Some x else find test xs) ≡ Some schema → IsAccepted schema.named
    by rest true e = let same : x ≡ schema = cc in subst (λ (s : Checked). IsAccepted s.named) same all.0
    by rest false e = rest e

pub model_again : (schemas : List Checked) (partners : List (List ℕ)) → AllAccepted schemas → (m : Model) → IsValidModel schemas partners m → IsModelReadAgain schemas m
model_again schemas partners all m valid schema found =
    let content = valid.content in
    let loaded : Some content.schema ≡ Some schema = sym content.loaded ∙ found in
    let same : content.schema ≡ schema = cc in
    kept_again schema (found_accepted (λ s. bytes_eq m.holds.schema (schema_name s)) schemas schema all found) (link_names m.holds.content.links) m.holds.content (is_kept schemas partners (row_key m) m.holds content schema same)

pub text_again : (schemas : List Checked) → AllAccepted schemas → TextAgain schemas
text_again schemas all r same valid =
    all_each (IsValidModel r.schemas r.partners) (IsModelReadAgain r.schemas) (model_again r.schemas r.partners (subst AllAccepted (sym same) all)) r.models valid.models
