-- What a file holds is read again of what is written of it.
use Rattle.std.proofs.Common.{◌≡◌, ℕ, Bool, true, false, ◌||◌, ◌==◌, nat_lt, List, [], ◌∷◌, ◌++◌, map, Ok, Err, refl, sym, ◌∙◌, ap, subst, arith}
use Rattle.std.proofs.lemmas.Bool.Decides.{nat_tests}
use Rattle.std.proofs.lemmas.List.Folds.{list_all-append, list_any-append}
use Rattle.std.specs.List.{AllByRecursion, flat_map, list_all, list_any}
use Rattle.plain_data.specs.Numbers.{is_among}
use Rattle.ex_slots.specs.Slots.{Slot}
use Rattle.ex_types.specs.Checked.{Checked}
use Rattle.p21_bind.specs.Files.{Instances, behind, bound_by, bound_file, first_of, instances, instances_after, told}
use Rattle.p21_mappings.specs.Contents.{content, header}
use Rattle.p21_mappings.specs.Instances.{Mapped, instance}
use Rattle.p21_instances.specs.Instances.{in_order, names, references}
use Rattle.p21_spelling.proofs.Runs.{both_hold, first_holds, second_holds}
use Rattle.p21_tree.specs.declared.header.Header as spelled_header
use Rattle.p21_tree.specs.declared.instance.Instance as tree
use Rattle.p21_tree.specs.declared.instance.Mapping.{Mapping}
use Rattle.p21_tree.specs.declared.instance.Record.{Record}
use Rattle.p21_tree.specs.declared.raw.Raw.{Raw}
use Rattle.p21_tree.specs.declared.value.Value.{Value as SpelledValue}
use Rattle.p21_canonical.specs.Trees.{content_tree, header_tree, instance_tree, mapping}
use Rattle.rp_content.specs.declared.content.Content.{Content}
use Rattle.rp_content.specs.declared.instance.Instance.{Instance}
use Rattle.rp_content.specs.declared.link.Link.{Link}
use Rattle.rp_value.specs.declared.value.Value.{Value}
use Rattle.p21_laws.proofs.Again.{read_again, refers, refers_all}
use Rattle.p21_laws.proofs.Attributes.{Kept, shown_as, trees_pass, value_read}
use Rattle.p21_laws.proofs.Headers.{header_again}
use Rattle.p21_laws.proofs.Instances.{instance_read}
use Rattle.p21_laws.proofs.Order.{OnceBy, all_in_order, any_in_order, neither, once_in_order, order_again}
use Rattle.p21_laws.proofs.Shapes.{OfEntities, parts_pass}
use Rattle.p21_laws.specs.Contents.{AreAmong}
use Rattle.p21_laws.specs.Instances.{parts, references_of}
use Rattle.p21_laws.specs.Kept.{IsSound}
use Rattle.p21_laws.specs.Schemas.{IsAccepted}

-- ---- lists

list_all_flat_map : {X A : Type 0} (p : A → Bool) (f : X → List A) (xs : List X) → list_all p (flat_map f xs) ≡ list_all (λ x. list_all p (f x)) xs
list_all_flat_map p f [] = refl
list_all_flat_map p f (x ∷ xs) = rw (list_all-append, list_all_flat_map p f xs) refl

all_units : {X : Type 0} (P : X → Type 0) → ((x : X) → P x) → (xs : List X) → AllByRecursion P xs
all_units P all [] = tt
all_units P all (x ∷ xs) = (all x, all_units P all xs)

each_more : {X : Type 0} (P R : X → Type 0) → ((x : X) → P x → R x) → (xs : List X) → AllByRecursion P xs → AllByRecursion R xs
each_more P R more [] all = tt
each_more P R more (x ∷ xs) all = (more x all.0, each_more P R more xs all.1)

pub all_more : (p q : ℕ → Bool) → ((n : ℕ) → p n ≡ true → q n ≡ true) → (ns : List ℕ) → list_all p ns ≡ true → list_all q ns ≡ true
all_more p q more [] all = refl
all_more p q more (n ∷ ns) all =
    both_hold (q n) (list_all q ns) (more n (first_holds (p n) (list_all p ns) all)) (all_more p q more ns (second_holds (p n) (list_all p ns) all))

pub either_more : (a b c : Bool) → (a || b) ≡ true → (b ≡ true → c ≡ true) → (a || c) ≡ true
either_more true b c e more = refl
either_more false b c e more = more e

any_mapped : (f : Instance → ℕ) (n : ℕ) (xs : List Instance) → is_among (map f xs) n ≡ list_any (λ x. f x == n) xs
any_mapped f n [] = refl
any_mapped f n (x ∷ xs) = ap (λ b. f x == n || b) (any_mapped f n xs)

abbrev pub name_of : Instance → ℕ
name_of i = i.name

-- the instances in order of name
abbrev pub ordered : List Instance → List Instance
ordered is = in_order (λ x y. nat_lt x.name y.name) is

module _ (schema : Checked) (accepted : IsAccepted schema.named) where
  -- ---- one instance

  referred_in : (is_defined : ℕ → Bool) (m : Mapping) → list_all is_defined (references_of m) ≡ list_all (refers_all schema accepted is_defined) (parts m)
  referred_in is_defined m =
      list_all_flat_map is_defined (λ part. flat_map references part.values) (parts m)
      ∙ (λ i. list_all (λ part. list_all_flat_map is_defined references part.values i) (parts m))

  abbrev NoMore : SpelledValue → Type 0
  NoMore x = Unit {0}

  nothing_more : (rs : List Record) → AllByRecursion (λ r. AllByRecursion NoMore r.values) rs
  nothing_more rs = all_units (λ r. AllByRecursion NoMore r.values) (λ r. all_units NoMore (λ x. tt) r.values) rs

  module _ (is_defined : ℕ → Bool) (stood : Bool) (x : tree.Instance) (i : Instance) (e : instance schema is_defined stood x ≡ Ok i) where
    kept : (stood ≡ false) × ((i.name ≡ x.name) × OfEntities schema (Kept schema.named.schema.types) i.entities i.values)
    kept =
        instance_read schema accepted is_defined (Kept schema.named.schema.types) NoMore (λ s x w e q. (value_read schema accepted.types is_defined s x w e).kept) stood x i e
        (nothing_more (parts x.mapping))

    pub not_stood : stood ≡ false
    not_stood = kept.0

    pub same_name : i.name ≡ x.name
    same_name = kept.1.0

    abbrev Refers : Slot → Value → Type 0
    Refers s w = list_all is_defined (references (shown_as schema.named.schema.types s w)) ≡ true

    all_refer : list_all (refers_all schema accepted is_defined) (parts (mapping schema i.entities i.values)) ≡ true
    all_refer =
        let read =
        instance_read schema accepted is_defined Refers NoMore (λ s x w e q. (value_read schema accepted.types is_defined s x w e).refers) stood x i e
        (nothing_more (parts x.mapping)) in
        parts_pass schema Refers (refers_all schema accepted is_defined)
        (λ n ss ws there both. trees_pass schema.named.schema.types Refers (refers schema accepted is_defined) (λ s w p. p) ss ws both) i.entities i.values read.1.1

    -- it refers to names that are defined
    pub instance_refers : list_all is_defined (references_of (instance_tree schema i).mapping) ≡ true
    instance_refers = referred_in is_defined (mapping schema i.entities i.values) ∙ all_refer

    -- it is read again where those names are defined to which it refers
    pub instance_again : (defined : ℕ → Bool) → list_all defined (references_of (instance_tree schema i).mapping) ≡ true → instance schema defined false (instance_tree schema i) ≡ Ok i
    instance_again defined all = read_again schema accepted defined i kept.1.1 (sym (referred_in defined (mapping schema i.entities i.values)) ∙ all)

  -- ---- one after the other

  split : (name : ℕ) (r : Mapped Instance) (others : Instances) (is : List Instance) → first_of (told name r) others ≡ Ok is
      → (i : Instance) × ((js : List Instance) × ((r ≡ Ok i) × ((others ≡ Ok js) × (i ∷ js ≡ is))))
  split name (Ok i) (Ok js) is e = (i, (js, (refl, (refl, cc))))
  split name (Ok i) (Err fault) is e = cc
  split name (Err kind) others is e = cc

  module _ (is_defined : ℕ → Bool) (S : tree.Instance → Type 0) where
    -- an instance of the file from which this was read
    abbrev pub From : Instance → Type 0
    From i = (x : tree.Instance) × ((stood : Bool) × ((instance schema is_defined stood x ≡ Ok i) × S x))

    pub record AreRead (stood : ℕ → Bool) (xs : List tree.Instance) (is : List Instance) : Type 0 where
      pub from : AllByRecursion From is
      pub named : map name_of is ≡ names xs
      pub once : OnceBy name_of is
      pub new : AllByRecursion (λ i. stood i.name ≡ false) is

    none_named : (name : ℕ) (js : List Instance) → AllByRecursion (λ j. (name == j.name) ≡ false) js → list_any (λ j. j.name == name) js ≡ false
    none_named name [] all = refl
    none_named name (j ∷ js) all = rw (turned name j.name all.0) (none_named name js all.1)
      where
        turned : (m n : ℕ) → (m == n) ≡ false → (n == m) ≡ false
        turned m n e = grind (arith, nat_tests)

    read_more : (stood : ℕ → Bool) (x : tree.Instance) (xs : List tree.Instance) (i : Instance) (js : List Instance) → instance schema is_defined (stood x.name) x ≡ Ok i → S x
        → AreRead (λ n. (x.name == n) || stood n) xs js → AreRead stood (x ∷ xs) (i ∷ js)
    read_more stood x xs i js e s more =
        let name = same_name is_defined (stood x.name) x i e in
        record {
          from = ((x, (stood x.name, (e, s))), more.from);
          named = rw name (ap (λ ns. x.name ∷ ns) more.named);
          once = (
            none_named i.name js
                (each_more (λ j. ((x.name == j.name) || stood j.name) ≡ false) (λ j. (i.name == j.name) ≡ false) (λ j p. ap (λ n. n == j.name) name ∙ (neither (x.name == j.name) (stood j.name) p).0) js more.new),
            more.once,
          );
          new = (
            ap stood name ∙ not_stood is_defined (stood x.name) x i e,
            each_more (λ j. ((x.name == j.name) || stood j.name) ≡ false) (λ j. stood j.name ≡ false) (λ j p. (neither (x.name == j.name) (stood j.name) p).1) js more.new,
          );
        }

    none_read : (stood : ℕ → Bool) → AreRead stood [] []
    none_read stood = record { from = tt; named = refl; once = tt; new = tt }

    all_read : (stood : ℕ → Bool) (xs : List tree.Instance) (is : List Instance) → AllByRecursion S xs → instances_after schema is_defined stood xs ≡ Ok is → AreRead stood xs is
    all_read stood [] is s e = let same : [] ≡ is = cc in subst (AreRead stood []) same (none_read stood)
    all_read stood (x ∷ xs) is s e =
        let parts = split x.name (instance schema is_defined (stood x.name) x) (instances_after schema is_defined (λ n. (x.name == n) || stood n) xs) is e in
        subst (AreRead stood (x ∷ xs)) parts.1.1.1.1
        (read_more stood x xs parts.0 parts.1.0 parts.1.1.0 s.0 (all_read (λ n. (x.name == n) || stood n) xs parts.1.0 s.1 parts.1.1.1.0))

  -- ---- and again

  others_apart : (i : Instance) (stood : ℕ → Bool) (js : List Instance) → list_any (λ j. j.name == i.name) js ≡ false → AllByRecursion (λ j. stood j.name ≡ false) js
      → AllByRecursion (λ j. ((i.name == j.name) || stood j.name) ≡ false) js
  others_apart i stood [] none new = tt
  others_apart i stood (j ∷ js) none new =
      let parts = neither (j.name == i.name) (list_any (λ j. j.name == i.name) js) none in
      (rw (turned j.name i.name parts.0) new.0, others_apart i stood js parts.1 new.1)
    where
      turned : (m n : ℕ) → (m == n) ≡ false → (n == m) ≡ false
      turned m n e = grind (arith, nat_tests)

  written_again : (is_defined stood : ℕ → Bool) (is : List Instance) → AllByRecursion (λ i. instance schema is_defined false (instance_tree schema i) ≡ Ok i) is → OnceBy name_of is
      → AllByRecursion (λ i. stood i.name ≡ false) is → instances_after schema is_defined stood (map (instance_tree schema) is) ≡ Ok is
  written_again is_defined stood [] all once new = refl
  written_again is_defined stood (i ∷ is) all once new =
      let others : Instances = instances_after schema is_defined (λ n. (i.name == n) || stood n) (map (instance_tree schema) is) in
      ap (λ t. first_of (told i.name (instance schema is_defined t (instance_tree schema i))) others) new.0
      ∙ ap (λ r. first_of (told i.name r) others) all.0
      ∙ ap (behind (i ∷ [])) (written_again is_defined (λ n. (i.name == n) || stood n) is all.1 once.1 (others_apart i stood is once.0 new.1))

  -- ---- the file

  -- the names that instances of a file may refer to
  abbrev pub defined_in : List ℕ → List tree.Instance → ℕ → Bool
  defined_in linked xs = is_among (names xs ++ linked)

  names_written : (is : List Instance) → names (map (instance_tree schema) is) ≡ map name_of is
  names_written [] = refl
  names_written (i ∷ is) = ap (λ ns. i.name ∷ ns) (names_written is)

  -- an instance that was read, where some names were defined
  abbrev pub Said : (tree.Instance → Type 0) → Instance → Type 0
  Said S i = (is_defined : ℕ → Bool) × From is_defined S i

  said_again : (defined : ℕ → Bool) (S : tree.Instance → Type 0) (is : List Instance) → AllByRecursion (Said S) is → AllByRecursion (λ i. list_all defined (references_of (instance_tree schema i).mapping) ≡ true) is
      → AllByRecursion (λ i. instance schema defined false (instance_tree schema i) ≡ Ok i) is
  said_again defined S [] said sound = tt
  said_again defined S (i ∷ is) said sound =
      let from = said.0.1 in
      (instance_again said.0.0 from.1.0 from.0 i from.1.1.0 defined sound.0, said_again defined S is said.1 sound.1)

  -- instances in order that were read anywhere are those of the file that is written of them
  pub content_stands : (now : List ℕ) (S : tree.Instance → Type 0) (h : spelled_header.Header) (is : List Instance) (links : List Link) → AllByRecursion (Said S) is → AllByRecursion (IsSound schema now is) is
      → OnceBy name_of is → ordered is ≡ is
      → bound_file schema now (content_tree schema (record { header = header h; instances = is; links = links })) ≡ Ok (record { header = header h; instances = is; links = [] })
  unfolding bound_file instances
  content_stands now S h is links said sound once order =
      let written : List tree.Instance = map (instance_tree schema) is in
      let here = said_again (is_among (map name_of is ++ now)) S is said sound in
      let all = written_again (is_among (map name_of is ++ now)) (λ n. false) is here once (all_units (λ (i : Instance). false ≡ false) (λ i. refl) is) in
      ap (bound_by (header_tree (header h))) (ap (λ ns. instances_after schema (is_among (ns ++ now)) (λ n. false) written) (names_written is) ∙ all)
      ∙ (λ i. Ok (record { header = header_again h i; instances = order i; links = [] }))

  module _ (linked : List ℕ) (S : tree.Instance → Type 0) (xs : List tree.Instance) (is : List Instance) (read : AreRead (defined_in linked xs) S (λ n. false) xs is) where
    same_names : (n : ℕ) → is_among (names xs) n ≡ is_among (map name_of (ordered is)) n
    same_names n =
        ap (λ ns. is_among ns n) (sym read.named) ∙ any_mapped name_of n is ∙ sym (any_in_order name_of (λ i. i.name == n) is) ∙ sym (any_mapped name_of n (ordered is))

    from_ordered : AllByRecursion (From (defined_in linked xs) S) (ordered is)
    from_ordered = all_in_order name_of (From (defined_in linked xs) S) is read.from

    pub said_ordered : AllByRecursion (Said S) (ordered is)
    said_ordered = each_more (From (defined_in linked xs) S) (Said S) (λ i from. (defined_in linked xs, from)) (ordered is) from_ordered

    module _ (now : List ℕ) (among : AreAmong linked now) where
      still_defined : (n : ℕ) → defined_in linked xs n ≡ true → is_among (map name_of (ordered is) ++ now) n ≡ true
      still_defined n there =
          let in_file = list_any-append (λ m. m == n) (names xs) linked in
          list_any-append (λ m. m == n) (map name_of (ordered is)) now
          ∙ ap (λ b. b || is_among now n) (sym (same_names n))
          ∙ either_more (is_among (names xs) n) (is_among linked n) (is_among now n) (sym in_file ∙ there) (among n)

      is_sound : (i : Instance) → From (defined_in linked xs) S i → IsSound schema now (ordered is) i
      is_sound i from =
          all_more (defined_in linked xs) (is_among (map name_of (ordered is) ++ now)) still_defined (references_of (instance_tree schema i).mapping) (instance_refers (defined_in linked xs) from.1.0 from.0 i from.1.1.0)

      pub content_read_again : (h : spelled_header.Header) → bound_file schema now (content_tree schema (content h is)) ≡ Ok (content h is)
      content_read_again h =
          content_stands now S h (ordered is) [] said_ordered
          (each_more (From (defined_in linked xs) S) (IsSound schema now (ordered is)) is_sound (ordered is) from_ordered) (once_in_order name_of name_of is read.once) (order_again name_of is)

  -- the instances that were read of a file
  pub file_read : (linked : List ℕ) (S : tree.Instance → Type 0) (raw : Raw) (c : Content) → AllByRecursion S raw.instances → bound_file schema linked raw ≡ Ok c
      → (is : List Instance) × (AreRead (defined_in linked raw.instances) S (λ n. false) raw.instances is × (content raw.header is ≡ c))
  unfolding bound_file instances
  file_read linked S raw c s e = by_result (instances schema linked raw.instances) refl e
    where
      by_result : (r : Instances) → instances schema linked raw.instances ≡ r → bound_by raw.header r ≡ Ok c
          → (is : List Instance) × (AreRead (defined_in linked raw.instances) S (λ n. false) raw.instances is × (content raw.header is ≡ c))
      by_result (Ok is) found e = (is, (all_read (defined_in linked raw.instances) S (λ n. false) raw.instances is s found, cc))
      by_result (Err fault) found e = cc

  pub content_again : (linked now : List ℕ) → AreAmong linked now → (raw : Raw) (c : Content) → bound_file schema linked raw ≡ Ok c → bound_file schema now (content_tree schema c) ≡ Ok c
  content_again linked now among raw c e =
      let read = file_read linked (λ x. Unit {0}) raw c (all_units (λ x. Unit {0}) (λ x. tt) raw.instances) e in
      subst (λ c. bound_file schema now (content_tree schema c) ≡ Ok c) read.1.1 (content_read_again linked (λ x. Unit {0}) raw.instances read.0 read.1.0 now among raw.header)

pub ruleset instance_laws = (instance_again, instance_refers)
