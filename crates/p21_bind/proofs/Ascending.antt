-- The instances of a file that is bound: each has its name in the file, and they stand in the order of their names, each once.
use Rattle.std.proofs.Common.{◌≡◌, ◌≤◌, ◌<◌, ℕ, Bool, true, false, ◌||◌, ◌==◌, List, [], ◌∷◌, ◌++◌, map, Option, Some, None, Result, Ok, Err, IfOk, refl, sym, ◌∙◌, ap, subst, arith}
use Rattle.std.specs.Prelude.{if◌then◌else◌}
use Rattle.std.specs.List.{AllByRecursion, zip}
use Rattle.std.proofs.lemmas.Bool.{eq-eqb, or_from, or_left, or_parts, or_right}
use Rattle.std.proofs.lemmas.Bool.Decides.{nat_tests}
use Rattle.plain_data.specs.Numbers.{is_among}
use Rattle.plain_data.specs.declared.failure.Failure.{Failure}
use Rattle.plain_data.specs.Gives.{Gives}
use Rattle.ex_schemas.specs.Schemas.{Checked}
use Rattle.p21_instances.specs.Instances as spelled
use Rattle.p21_instances.specs.Instances.{in_order, AreOnce}
use Rattle.p21_instances.proofs.ByName.{below, once-in_order}
use Rattle.p21_instances.proofs.SortedBy.{Rises, rises_in_order}
use Rattle.ex_layouts.specs.Entities.{entity_spelled}
use Rattle.p21_mappings.specs.Contents.{content}
use Rattle.p21_mappings.specs.Instances.{Mapped, and_then, by_entities, by_entity, by_mapping, by_layout, by_several, counted, each, has_twice, instance, made, part, same_counts}
use Rattle.p21_values.specs.Taking.{all_there}
use Rattle.p21_mappings.specs.Layouts.{external, internal}
use Rattle.ex_layouts.specs.declared.layout.Layout.{Layout}
use Rattle.p21_tree.specs.declared.fault.InstanceFault.{InstanceFault}
use Rattle.p21_tree.specs.declared.fault.InstanceFaultKind.TheVariants.{Twice}
use Rattle.p21_tree.specs.declared.header.Header.{Header}
use Rattle.p21_tree.specs.declared.instance.Instance as tree
use Rattle.p21_tree.specs.declared.instance.Mapping.{Mapping}
use Rattle.p21_tree.specs.declared.instance.Mapping.TheVariants.{Internal, External}
use Rattle.p21_tree.specs.declared.instance.Record.{Record}
use Rattle.p21_tree.specs.declared.raw.Raw.{Raw}
use Rattle.rp_content.specs.declared.content.Content.{Content}
use Rattle.rp_content.specs.declared.instance.Instance.{Instance}
use Rattle.p21_bind.specs.Files.{AreAscending, Instances, told, first_of, bound_by, instances_after, instances, bound_file}

abbrev pub name_of : Instance → ℕ
name_of i = i.name

-- ---- one instance

then_named : {A : Type 0} (name : ℕ) (fits : Bool) (o : Mapped A) (f : A → Instance) (i : Instance) → ((a : A) → (f a).name ≡ name) → counted fits (and_then o (λ a. Ok (f a))) ≡ Ok i → i.name ≡ name
then_named name true (Ok a) f i named e = let same : f a ≡ i = cc in ap name_of (sym same) ∙ named a
then_named name true (Err kind) f i named e = cc
then_named name false o f i named e = cc

module _ (schema : Checked) (is_defined : ℕ → Bool) where
  layout_named : (name : ℕ) (records : List Record) (o : Option Layout) (i : Instance) → by_layout schema is_defined name records o ≡ Ok i → i.name ≡ name
  layout_named name records None i e = cc
  layout_named name records (Some layout) i e = then_named name (same_counts layout.slots records) (each (part schema is_defined) (zip layout.slots records)) (made name layout) i (λ lists. refl) e

  internal_named : (name : ℕ) (records : List Record) (o : Option ℕ) (i : Instance) → by_entity schema is_defined name records o ≡ Ok i → i.name ≡ name
  internal_named name records None i e = cc
  internal_named name records (Some entity) i e = layout_named name records (internal schema entity) i e

  external_named : (name : ℕ) (records : List Record) (o : Option (List ℕ)) (i : Instance) → by_entities schema is_defined name records o ≡ Ok i → i.name ≡ name
  external_named name records None i e = cc
  external_named name records (Some entities) i e = layout_named name records (external schema entities) i e

  several_named : (name : ℕ) (records : List Record) (i : Instance) → by_several schema is_defined name records ≡ Ok i → i.name ≡ name
  unfolding by_several
  several_named name records i e = external_named name records (all_there (map (λ r. entity_spelled schema r.keyword) records)) i e

  mapping_named : (name : ℕ) (mapping : Mapping) (i : Instance) → by_mapping schema is_defined name mapping ≡ Ok i → i.name ≡ name
  mapping_named name (Internal single) i e = internal_named name (single ∷ []) (entity_spelled schema single.keyword) i e
  mapping_named name (External records) i e = several_named name records i e

  tested : (x : tree.Instance) (i : Instance) (stood twice : Bool) → (if stood || twice then Err Twice else by_mapping schema is_defined x.name x.mapping) ≡ Ok i → (stood ≡ false) × (i.name ≡ x.name)
  tested x i true twice e = cc
  tested x i false true e = cc
  tested x i false false e = (refl, mapping_named x.name x.mapping i e)

  -- its name didn't stand before, and stays
  pub instance_named : (stood : Bool) (x : tree.Instance) (i : Instance) → instance schema is_defined stood x ≡ Ok i → (stood ≡ false) × (i.name ≡ x.name)
  unfolding instance
  instance_named stood x i e = tested x i stood (has_twice x.mapping) e

-- ---- all of a file

other_name : (stood : ℕ → Bool) (n m : ℕ) → stood n ≡ true → stood m ≡ false → (m == n) ≡ false
other_name stood n m there away = by (m == n) refl
  where
    by : (t : Bool) → (m == n) ≡ t → t ≡ false
    by false e = refl
    by true e = let same : n ≡ m = grind (arith, nat_tests) in let here : stood m ≡ true = ap stood (sym same) ∙ there in cc

module _ (schema : Checked) (defined : ℕ → Bool) where
  abbrev pub more : (ℕ → Bool) → tree.Instance → ℕ → Bool
  more stood x = λ n. (x.name == n) || stood n

  -- the first of several, and those behind it
  pub record Begun (stood : ℕ → Bool) (x : tree.Instance) (xs : List tree.Instance) (is : List Instance) : Type 0 where
    pub first : Instance
    pub later : List Instance
    pub reads : instance schema defined (stood x.name) x ≡ Ok first
    pub is_new : stood x.name ≡ false
    pub name_is : first.name ≡ x.name
    pub follow : instances_after schema defined (more stood x) xs ≡ Ok later
    pub are : first ∷ later ≡ is

  pub begun : (stood : ℕ → Bool) (x : tree.Instance) (xs : List tree.Instance) (is : List Instance) → instances_after schema defined stood (x ∷ xs) ≡ Ok is → Begun stood x xs is
  begun stood x xs is e = by (instance schema defined (stood x.name) x) (instances_after schema defined (more stood x) xs) refl refl e
    where
      by : (o : Mapped Instance) (others : Instances) → instance schema defined (stood x.name) x ≡ o → instances_after schema defined (more stood x) xs ≡ others → first_of (told x.name o) others ≡ Ok is → Begun stood x xs is
      by (Ok i) (Ok later) reads follow f =
          let two = instance_named schema defined (stood x.name) x i reads in
          let same : i ∷ later ≡ is = cc in
          record { first = i; later = later; reads = reads; is_new = two.0; name_is = two.1; follow = follow; are = same }
      by (Ok i) (Err fault) reads follow f = cc
      by (Err kind) others reads follow f = cc

  pub none_are : (is : List Instance) (stood : ℕ → Bool) → instances_after schema defined stood [] ≡ Ok is → [] ≡ is
  none_are is stood e = cc

  pub bound_names : (stood : ℕ → Bool) (xs : List tree.Instance) (is : List Instance) → instances_after schema defined stood xs ≡ Ok is → map name_of is ≡ spelled.names xs
  bound_names stood [] is e = ap (map name_of) (sym (none_are is stood e))
  bound_names stood (x ∷ xs) is e =
      let b = begun stood x xs is e in
      let rest = bound_names (more stood x) xs b.later b.follow in
      ap (map name_of) (sym b.are) ∙ (λ i. b.name_is i ∷ rest i)

  -- none has a name that stood before
  later_apart : (stood : ℕ → Bool) (n : ℕ) (xs : List tree.Instance) (is : List Instance) → stood n ≡ true → instances_after schema defined stood xs ≡ Ok is → is_among (map name_of is) n ≡ false
  later_apart stood n [] is there e = subst (λ js. is_among (map name_of js) n ≡ false) (none_are is stood e) refl
  later_apart stood n (x ∷ xs) is there e =
      let b = begun stood x xs is e in
      let here : (b.first.name == n) ≡ false = ap (λ m. m == n) b.name_is ∙ other_name stood n x.name there b.is_new in
      let rest = later_apart (more stood x) n xs b.later (or_right (x.name == n) (stood n) there) b.follow in
      subst (λ js. is_among (map name_of js) n ≡ false) b.are (or_from (b.first.name == n) (is_among (map name_of b.later) n) here rest)

  pub bound_once : (stood : ℕ → Bool) (xs : List tree.Instance) (is : List Instance) → instances_after schema defined stood xs ≡ Ok is → AreOnce name_of is
  bound_once stood [] is e = subst (AreOnce name_of) (none_are is stood e) tt
  bound_once stood (x ∷ xs) is e =
      let b = begun stood x xs is e in
      let stands : more stood x b.first.name ≡ true = or_left (x.name == b.first.name) (stood b.first.name) (eq-eqb x.name b.first.name (sym b.name_is)) in
      subst (AreOnce name_of) b.are (later_apart (more stood x) b.first.name xs b.later stands b.follow, bound_once (more stood x) xs b.later b.follow)

-- what is found has no name twice
pub found_once : (schema : Checked) (linked : List ℕ) (xs : List tree.Instance) (found : List Instance) → instances schema linked xs ≡ Ok found → AreOnce name_of found
unfolding instances
found_once schema linked xs found e = bound_once schema (is_among (spelled.names xs ++ linked)) (λ n. false) xs found e

-- the names that references of a file's instances may have, where these are linked
abbrev pub defined_by : List ℕ → Raw → ℕ → Bool
defined_by linked raw = is_among (spelled.names raw.instances ++ linked)

-- what a file says is made of its instances in the order of the file
pub record IsContentOf (schema : Checked) (linked : List ℕ) (raw : Raw) (c : Content) : Type 0 where
  pub found : List Instance
  pub reads : instances_after schema (defined_by linked raw) (λ n. false) raw.instances ≡ Ok found
  pub are : content raw.header found ≡ c

pub of_file : (schema : Checked) (linked : List ℕ) (raw : Raw) (c : Content) → bound_file schema linked raw ≡ Ok c → IsContentOf schema linked raw c
unfolding bound_file instances
of_file schema linked raw c e = by (instances_after schema (defined_by linked raw) (λ n. false) raw.instances) refl e
  where
    by : (o : Instances) → instances_after schema (defined_by linked raw) (λ n. false) raw.instances ≡ o → bound_by raw.header o ≡ Ok c → IsContentOf schema linked raw c
    by (Ok found) reads f = let same : content raw.header found ≡ c = cc in record { found = found; reads = reads; are = same }
    by (Err fault) reads f = cc

-- ---- in order

apart_less : (m n : ℕ) → m ≤ n → (n == m) ≡ false → m < n
apart_less m n e apart = grind (arith, nat_tests)

all_less : (x : Instance) (ys : List Instance) → AllByRecursion (λ (y : Instance). x.name ≤ y.name) ys → is_among (map name_of ys) x.name ≡ false → AllByRecursion (λ (y : Instance). x.name < y.name) ys
all_less x [] up new = tt
all_less x (y ∷ ys) up new =
    let apart = or_parts (y.name == x.name) (is_among (map name_of ys) x.name) new in
    (apart_less x.name y.name up.0 apart.0, all_less x ys up.1 apart.1)

ascends : (xs : List Instance) → Rises name_of xs → AreOnce name_of xs → AreAscending xs
ascends [] up once = tt
ascends (x ∷ xs) up once = (all_less x xs up.0 once.0, ascends xs up.1 once.1)

-- the instances of a file stand so
pub found_ascend : (schema : Checked) (linked : List ℕ) (h : Header) (xs : List tree.Instance) (c : Content) → bound_by h (instances schema linked xs) ≡ Ok c → AreAscending c.instances
unfolding instances
found_ascend schema linked h xs c e = by (instances_after schema defined (λ n. false) xs) refl e
  where
    defined : ℕ → Bool
    defined = is_among (spelled.names xs ++ linked)

    by : (o : Instances) → instances_after schema defined (λ n. false) xs ≡ o → bound_by h o ≡ Ok c → AreAscending c.instances
    by (Ok found) reads f =
        let same : content h found ≡ c = cc in
        let once = once-in_order name_of found (bound_once schema defined (λ n. false) xs found reads) in
        subst (λ (d : Content). AreAscending d.instances) same (ascends (in_order (below name_of) found) (rises_in_order name_of found) once)
    by (Err fault) reads f = cc

pub bound_ascends : (schema : Checked) (linked : List ℕ) (raw : Raw) (c : Content) → bound_file schema linked raw ≡ Ok c → AreAscending c.instances
unfolding bound_file
bound_ascends schema linked raw c e = found_ascend schema linked raw.header raw.instances c e

pub order_given : (r : Result Content (Failure InstanceFault)) (o : Result Content InstanceFault) → Gives (λ x. x) r o → ((c : Content) → o ≡ Ok c → AreAscending c.instances) → IfOk r (λ c. AreAscending c.instances)
order_given (Ok c) o given all = all c given
order_given (Err e) o given all = tt
