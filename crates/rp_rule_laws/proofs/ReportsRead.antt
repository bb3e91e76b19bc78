-- An instance that was read of a file or a text has each of its entities once.
use Rattle.std.proofs.Common.{◌≡◌, ◌≢◌, ℕ, zero, suc, ◌==◌, ◌||◌, Bool, true, false, not, if◌then◌else◌, List, [], ◌∷◌, ◌++◌, map, filter, length, All, AllPairs, Option, Some, None, Ok, Err, is_some, slice_get, slice_index_or, zip, option_map, unwrap_or, refl, sym, subst, ap, ◌∙◌}
use Rattle.std.proofs.lemmas.Bool.{eq-eqb}
use Rattle.std.proofs.lemmas.List.Elements.{All-map}
use Rattle.std.proofs.lemmas.Slice.Eq.{bytes_eq-Decides}
use Rattle.std.specs.List.{AllByRecursion}
use Rattle.std.specs.Str.{bytes_eq, str_to_ascii_uppercase}
use Rattle.ex_layouts.specs.declared.layout.Layout.{Layout}
use Rattle.ex_layouts.specs.Entities.{entities_of, entity_spelled, is_legal, line_of}
use Rattle.ex_layouts.specs.Layouts.{entities_by, in_name_order, leaf, of_leaf, of_several}
use Rattle.ex_schemas.specs.Schemas.{Checked, entity_names}
use Rattle.graphs.specs.Graphs.{each_once, line_within}
use Rattle.name_tables.specs.Names.{place_of}
use Rattle.p21_bind.specs.Origins.{IsSpelled}
use Rattle.p21_instances.specs.Instances.{in_order, placed}
use Rattle.p21_mappings.specs.Instances.{Mapped, and_then, by_entities, by_entity, by_layout, by_mapping, by_several, counted, each, has_twice, instance, keywords, made, part, repeats, same_counts}
use Rattle.p21_mappings.specs.Layouts.{external, internal}
use Rattle.p21_tree.specs.declared.fault.InstanceFaultKind.TheVariants.{Twice}
use Rattle.p21_tree.specs.declared.instance.Instance as tree
use Rattle.p21_tree.specs.declared.instance.Mapping.{Mapping}
use Rattle.p21_tree.specs.declared.instance.Mapping.TheVariants.{Internal, External}
use Rattle.p21_tree.specs.declared.instance.Record.{Record}
use Rattle.p21_values.specs.Taking.{all_there, with_first}
use Rattle.rp_content.specs.declared.instance.Entities.{Entities}
use Rattle.rp_content.specs.declared.instance.Instance.{Instance}
use Rattle.rp_meaning.specs.declared.schema.Schema.{Schema}
use Rattle.rp_meaning.specs.Populations.{Instance as Populated}
use Rattle.rp_meaning.specs.Report.{report}
use Rattle.rp_population.specs.Populations.{Placed}
use Rattle.rp_positions.specs.Positions.{position_of, positioned}
use Rattle.rp_positions.specs.Seen.{all_seen_by, seen_by}
use Rattle.rp_value.specs.declared.value.Value.{Value}
use Rattle.rp_use_laws.proofs.Read.{was_read}
use Rattle.rp_rule_laws.proofs.ReportsAttributes.{attributes-once}
use Rattle.rp_rule_laws.proofs.ReportsCulprits.{Pairs, culprits-once, all-pairs}
use Rattle.rp_rule_laws.specs.Reports.{HaveAttributesOnce, InEachList}

abbrev Once : List ℕ → Type 0
Once = Pairs (λ e f. e ≢ f)

-- ---- a line

all-filter : (P : ℕ → Type 0) (p : ℕ → Bool) (xs : List ℕ) → AllByRecursion P xs → AllByRecursion P (filter p xs)
all-filter P p [] all = tt
all-filter P p (x ∷ xs) all = elim (p x) as (λ b. AllByRecursion P (if b then x ∷ filter p xs else filter p xs)) [ true ↦ (all.0, all-filter P p xs all.1) | false ↦ all-filter P p xs all.1 ]

once-filter : (p : ℕ → Bool) (xs : List ℕ) → Once xs → Once (filter p xs)
once-filter p [] all = tt
once-filter p (x ∷ xs) all = elim (p x) as (λ b. Once (if b then x ∷ filter p xs else filter p xs)) [ true ↦ (all-filter (λ y. x ≢ y) p xs all.0, once-filter p xs all.1) | false ↦ once-filter p xs all.1 ]

others-by : (x y : ℕ) (ys : List ℕ) (b : Bool) → (y == x) ≡ b → AllByRecursion (λ z. x ≢ z) ys → AllByRecursion (λ z. x ≢ z) (if not b then y ∷ ys else ys)
others-by x y ys true is all = all
others-by x y ys false is all = ((λ same. let e = eq-eqb y x (sym same) in absurd (cc)), all)

others : (x : ℕ) (xs : List ℕ) → AllByRecursion (λ z. x ≢ z) (filter (λ y. not (y == x)) xs)
others x [] = tt
others x (y ∷ ys) = others-by x y (filter (λ z. not (z == x)) ys) (y == x) refl (others x ys)

once-each : (xs : List ℕ) → Once (each_once xs)
once-each [] = tt
once-each (x ∷ xs) = (others x (each_once xs), once-filter (λ y. not (y == x)) (each_once xs) (once-each xs))

once-option : (o : Option (List ℕ)) → Once (unwrap_or (option_map each_once o) [])
once-option None = tt
once-option (Some xs) = once-each xs

-- ---- in the order of names

module _ (below : ℕ → ℕ → Bool) where
  all-placed : (P : ℕ → Type 0) (x : ℕ) (ys : List ℕ) → P x → AllByRecursion P ys → AllByRecursion P (placed below x ys)
  all-placed P x [] h all = (h, tt)
  all-placed P x (y ∷ ys) h all = elim (below y x) as (λ b. AllByRecursion P (if b then y ∷ placed below x ys else x ∷ y ∷ ys)) [ true ↦ (all.0, all-placed P x ys h all.1) | false ↦ (h, all) ]

  once-placed : (x : ℕ) (ys : List ℕ) → AllByRecursion (λ y. x ≢ y) ys → Once ys → Once (placed below x ys)
  once-placed x [] apart all = (tt, tt)
  once-placed x (y ∷ ys) apart all = elim (below y x) as (λ b. Once (if b then y ∷ placed below x ys else x ∷ y ∷ ys)) [
    | true ↦ (all-placed (λ z. y ≢ z) x ys (λ same. apart.0 (sym same)) all.0, once-placed x ys apart.1 all.1)
    | false ↦ (apart, all)
  ]

  all-in_order : (P : ℕ → Type 0) (xs : List ℕ) → AllByRecursion P xs → AllByRecursion P (in_order below xs)
  all-in_order P [] all = tt
  all-in_order P (x ∷ xs) all = all-placed P x (in_order below xs) all.0 (all-in_order P xs all.1)

  once-in_order : (xs : List ℕ) → Once xs → Once (in_order below xs)
  once-in_order [] all = tt
  once-in_order (x ∷ xs) all = once-placed x (in_order below xs) (all-in_order (λ y. x ≢ y) xs all.0) (once-in_order xs all.1)

-- ---- names

place-has : (k : List ℕ) (names : List (List ℕ)) (n : ℕ) → place_of k names ≡ Some n → slice_get names n ≡ Some k
place-has k [] n is = absurd (cc)
place-has k (x ∷ xs) n is = by (λ j there. place-has k xs j there) (bytes_eq x k) refl (place_of k xs) refl n is
  where
    by : ((j : ℕ) → place_of k xs ≡ Some j → slice_get xs j ≡ Some k) → (b : Bool) → bytes_eq x k ≡ b → (o : Option ℕ) → place_of k xs ≡ o → (m : ℕ)
        → (if b then Some zero else option_map suc o) ≡ Some m → slice_get (x ∷ xs) m ≡ Some k
    by rest true same o there m e = let first : zero ≡ m = cc in subst (λ j. slice_get (x ∷ xs) j ≡ Some k) first (ap Some ((bytes_eq-Decides x k).0 same))
    by rest false other None there m e = absurd (cc)
    by rest false other (Some j) there m e = let next : suc j ≡ m = cc in subst (λ i. slice_get (x ∷ xs) i ≡ Some k) next (rest j there)

same-name : (names : List (List ℕ)) (j k : List ℕ) (m n : ℕ) → place_of j names ≡ Some m → place_of k names ≡ Some n → m ≡ n → j ≡ k
same-name names j k m n is_j is_k same = let both : Some j ≡ Some k = sym (place-has j names m is_j) ∙ ap (slice_get names) same ∙ place-has k names n is_k in cc

mapped : (o : Option ℕ) → is_some o ≡ true → is_some (option_map suc o) ≡ true
mapped None there = absurd (cc)
mapped (Some n) there = refl

-- a keyword that stood before stands before what follows
stays : (k x : List ℕ) (before : List (List ℕ)) → is_some (place_of k before) ≡ true → is_some (place_of k (before ++ x ∷ [])) ≡ true
stays k x [] there = absurd (cc)
stays k x (y ∷ ys) there = by (λ before. stays k x ys before) (bytes_eq y k) (place_of k ys) refl there
  where
    by : (is_some (place_of k ys) ≡ true → is_some (place_of k (ys ++ x ∷ [])) ≡ true) → (b : Bool) (o : Option ℕ) → place_of k ys ≡ o → is_some (if b then Some zero else option_map suc o) ≡ true
        → is_some (if b then Some zero else option_map suc (place_of k (ys ++ x ∷ []))) ≡ true
    by rest true o is e = refl
    by rest false None is e = absurd (cc)
    by rest false (Some n) is e = mapped (place_of k (ys ++ x ∷ [])) (rest (ap is_some is))

last-there : (k : List ℕ) (before : List (List ℕ)) → is_some (place_of k (before ++ k ∷ [])) ≡ true
last-there k [] = ap (λ b. is_some (if b then Some zero else None)) ((bytes_eq-Decides k k).1 refl)
last-there k (y ∷ ys) = by (bytes_eq y k) (place_of k (ys ++ k ∷ [])) (last-there k ys)
  where
    by : (b : Bool) (o : Option ℕ) → is_some o ≡ true → is_some (if b then Some zero else option_map suc o) ≡ true
    by true o e = refl
    by false None e = absurd (cc)
    by false (Some n) e = refl

neither-of : (a b : Bool) → (a || b) ≡ false → (a ≡ false) × (b ≡ false)
neither-of true b e = absurd (cc)
neither-of false b e = (refl, e)

-- ---- the entities of several records

module _ (schema : Checked) where
  abbrev spelled_in : Record → Option ℕ
  spelled_in r = entity_spelled schema r.keyword

  abbrev keyword_of : Record → List ℕ
  keyword_of r = str_to_ascii_uppercase r.keyword

  -- the first entity with those of the records behind it
  pub record Found (r : Record) (rs : List Record) (ns : List ℕ) : Type 0 where
    pub first : ℕ
    pub behind : List ℕ
    pub is_first : spelled_in r ≡ Some first
    pub are_behind : all_there (map spelled_in rs) ≡ Some behind
    pub are : first ∷ behind ≡ ns

  found : (r : Record) (rs : List Record) (ns : List ℕ) → all_there (map spelled_in (r ∷ rs)) ≡ Some ns → Found r rs ns
  found r rs ns is = by (spelled_in r) refl (all_there (map spelled_in rs)) refl is
    where
      by : (o : Option ℕ) → spelled_in r ≡ o → (p : Option (List ℕ)) → all_there (map spelled_in rs) ≡ p → with_first o p ≡ Some ns → Found r rs ns
      by (Some n) first (Some ms) behind e = record { first = n; behind = ms; is_first = first; are_behind = behind; are = cc }
      by (Some n) first None behind e = absurd (cc)
      by None first p behind e = absurd (cc)

  -- of records behind one with this keyword
  later-differ : (k : List ℕ) (n : ℕ) → place_of k (entity_names schema.named.schema.entities) ≡ Some n → (before : List (List ℕ)) → is_some (place_of k before) ≡ true
      → (rs : List Record) (ms : List ℕ) → all_there (map spelled_in rs) ≡ Some ms → repeats before (keywords rs) ≡ false → AllByRecursion (λ m. n ≢ m) ms
  later-differ k n is before stood [] ms there once = let none : [] ≡ ms = cc in subst (AllByRecursion (λ m. n ≢ m)) none tt
  later-differ k n is before stood (r ∷ rs) ms there once =
      let parts = found r rs ms there in
      let single = neither-of (is_some (place_of (keyword_of r) before)) (repeats (before ++ keyword_of r ∷ []) (keywords rs)) once in
      let rest = later-differ k n is (before ++ keyword_of r ∷ []) (stays k (keyword_of r) before stood) rs parts.behind parts.are_behind single.1 in
      let apart : n ≢ parts.first = λ same.
      let name = same-name (entity_names schema.named.schema.entities) k (keyword_of r) n parts.first is parts.is_first same in
      let both = sym stood ∙ ap (λ l. is_some (place_of l before)) name ∙ single.0 in
      absurd (cc) in
      subst (AllByRecursion (λ m. n ≢ m)) parts.are (apart, rest)

  records-once : (before : List (List ℕ)) (rs : List Record) (ns : List ℕ) → all_there (map spelled_in rs) ≡ Some ns → repeats before (keywords rs) ≡ false → Once ns
  records-once before [] ns there once = let none : [] ≡ ns = cc in subst Once none tt
  records-once before (r ∷ rs) ns there once =
      let parts = found r rs ns there in
      let single = neither-of (is_some (place_of (keyword_of r) before)) (repeats (before ++ keyword_of r ∷ []) (keywords rs)) once in
      let rest = records-once (before ++ keyword_of r ∷ []) rs parts.behind parts.are_behind single.1 in
      let first = later-differ (keyword_of r) parts.first parts.is_first (before ++ keyword_of r ∷ []) (last-there (keyword_of r) before) rs parts.behind parts.are_behind single.1 in
      subst Once parts.are (first, rest)

  -- ---- the entities of an instance

  line-once : (e : ℕ) → Once (line_of schema e)
  line-once e = once-option (line_within (suc (length schema.named.supertypes)) schema.named.supertypes e)

  abbrev IsOnce : Entities → Type 0
  IsOnce es = Once (entities_of schema es)

  ordered-once : (ns : List ℕ) → Once ns → Once (in_name_order schema ns)
  unfolding in_name_order
  ordered-once ns all = once-in_order _ ns all

  by-once : (ns : List ℕ) → Once ns → (o : Option ℕ) → IsOnce (entities_by schema ns o)
  by-once ns all None = ordered-once ns all
  by-once ns all (Some e) = line-once e

  module _ (is_defined : ℕ → Bool) where
    laid-out : (name : ℕ) (rs : List Record) (layout : Layout) (i : Instance) → by_layout schema is_defined name rs (Some layout) ≡ Ok i → layout.instance_entities ≡ i.entities
    laid-out name rs layout i e = by (same_counts layout.slots rs) (each (part schema is_defined) (zip layout.slots rs)) e
      where
        by : (t : Bool) (o : Mapped (List (List Value))) → counted t (and_then o (λ lists. Ok (made name layout lists))) ≡ Ok i → layout.instance_entities ≡ i.entities
        by true (Ok lists) is = let same : made name layout lists ≡ i = cc in ap (λ (j : Instance). j.entities) same
        by true (Err kind) is = absurd (cc)
        by false o is = absurd (cc)

    of-entity : (name : ℕ) (rs : List Record) (i : Instance) (o : Option ℕ) → by_entity schema is_defined name rs o ≡ Ok i → IsOnce i.entities
    unfolding internal
    of-entity name rs i None e = absurd (cc)
    of-entity name rs i (Some found) e = by (is_legal schema (line_of schema found)) e
      where
        by : (t : Bool) → by_layout schema is_defined name rs (if t then Some (of_leaf schema found) else None) ≡ Ok i → IsOnce i.entities
        by false is = absurd (cc)
        by true is = subst IsOnce (laid-out name rs (of_leaf schema found) i is) (line-once found)

    of-several : (name : ℕ) (rs : List Record) (i : Instance) (o : Option (List ℕ)) → ((ns : List ℕ) → o ≡ Some ns → Once ns) → by_entities schema is_defined name rs o ≡ Ok i → IsOnce i.entities
    unfolding external
    of-several name rs i None once e = absurd (cc)
    of-several name rs i (Some ns) once e = by (is_legal schema ns) e
      where
        by : (t : Bool) → by_layout schema is_defined name rs (if t then Some (of_several schema ns) else None) ≡ Ok i → IsOnce i.entities
        by false is = absurd (cc)
        by true is = subst IsOnce (laid-out name rs (of_several schema ns) i is) (by-once ns (once ns refl) (leaf schema ns))

    of-mapping : (name : ℕ) (m : Mapping) (i : Instance) → has_twice m ≡ false → by_mapping schema is_defined name m ≡ Ok i → IsOnce i.entities
    unfolding by_several
    of-mapping name (Internal single) i once e = of-entity name (single ∷ []) i (entity_spelled schema single.keyword) e
    of-mapping name (External rs) i once e = of-several name rs i (all_there (map spelled_in rs)) (λ ns is. records-once [] rs ns is once) e

    read-once : (stood : Bool) (x : tree.Instance) (i : Instance) → instance schema is_defined stood x ≡ Ok i → IsOnce i.entities
    unfolding instance
    read-once stood x i e = by stood (has_twice x.mapping) refl e
      where
        by : (t u : Bool) → has_twice x.mapping ≡ u → (if t || u then Err Twice else by_mapping schema is_defined x.name x.mapping) ≡ Ok i → IsOnce i.entities
        by true u is read = absurd (cc)
        by false true is read = absurd (cc)
        by false false is read = of-mapping x.name x.mapping i is read

  spelled-once : (i : Instance) → IsSpelled schema i → IsOnce i.entities
  spelled-once i is = let read = was_read schema i is in read-once read.0 read.1.0 read.1.1.0 i read.1.1.1

  -- ---- a population

  module _ (evaluated : Schema) (xs : List Placed) where
    abbrev HasOnce : Placed → Type 0
    HasOnce x = AllPairs (λ a b. a.attribute ≢ b.attribute) (seen_by evaluated schema xs x).values

    seen-once : (x : Placed) → IsSpelled schema x.instance → HasOnce x
    seen-once x is =
        attributes-once evaluated (length xs) (entities_of schema x.instance.entities) (map (positioned (position_of xs x)) x.instance.values)
        (all-pairs (λ e f. e ≢ f) (entities_of schema x.instance.entities) (spelled-once x.instance is))

    pub population-once : All (λ x. IsSpelled schema x.instance) xs → HaveAttributesOnce (all_seen_by evaluated schema xs)
    population-once spelled =
        All-map (λ (i : Populated). AllPairs (λ a b. a.attribute ≢ b.attribute) i.values) (seen_by evaluated schema xs) xs
        (λ k d low. seen-once (slice_index_or xs k d) (spelled k d low))

    pub read-culprits-once : All (λ x. IsSpelled schema x.instance) xs → All (InEachList (AllPairs (λ x y. x ≢ y))) (report evaluated (all_seen_by evaluated schema xs)).checks
    read-culprits-once spelled = culprits-once (all_seen_by evaluated schema xs) evaluated (population-once spelled)
