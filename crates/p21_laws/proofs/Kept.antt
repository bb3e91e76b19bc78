-- What a model holds is read again of what is written of it.
use Rattle.std.proofs.Common.{◌≡◌, ◌≤◌, ◌<◌, ◌==◌, ◌⊎◌, inl, inr, ℕ, true, false, nat_lt, List, [], ◌∷◌, ◌++◌, map, Ok, Err, refl, sym, ◌∙◌, ap, subst, arith}
use Rattle.std.proofs.lemmas.Bool.Decides.{nat_tests}
use Rattle.std.proofs.lemmas.List.Folds.{list_any-append}
use Rattle.std.specs.List.{AllByRecursion, list_any}
use Rattle.plain_data.specs.Numbers.{is_among}
use Rattle.ex_types.specs.Checked.{Checked}
use Rattle.p21_bind.specs.Files.{AreAscending, bound_file, told}
use Rattle.p21_mappings.specs.Contents.{header}
use Rattle.p21_mappings.specs.Instances.{Mapped, instance}
use Rattle.p21_bind.specs.Origins as origins
use Rattle.p21_bind.specs.Origins.{IsHeaderOfFile, IsInstanceOfFile, IsInstanceOfText}
use Rattle.p21_bind.specs.Single.{bound_instance}
use Rattle.p21_grammar.specs.File.{file_of}
use Rattle.p21_spelling.proofs.Files.{file_again}
use Rattle.p21_spelling.proofs.Runs.{both_hold}
use Rattle.p21_spelling.proofs.Single.{mapping_of_is}
use Rattle.p21_spelling.proofs.WellSpelled.{file_is}
use Rattle.p21_spelling.specs.Files.{is_file, is_header}
use Rattle.p21_spelling.specs.Instances.{is_mapping}
use Rattle.p21_spelling.specs.Tokens.{is_name}
use Rattle.p21_lexemes.specs.Lexical.{max_name}
use Rattle.p21_tree.specs.declared.header.Header as spelled_header
use Rattle.p21_tree.specs.declared.instance.Instance as tree
use Rattle.p21_canonical.specs.Trees.{canonical, content_tree, instance_tree}
use Rattle.rp_content.specs.Headers as held
use Rattle.rp_content.specs.declared.content.Content.{Content}
use Rattle.rp_content.specs.declared.header.Header.{Header}
use Rattle.rp_content.specs.declared.instance.Instance.{Instance}
use Rattle.p21_laws.proofs.Contents.{Said, all_more, content_stands, either_more, name_of}
use Rattle.p21_laws.proofs.Defaults.{default_fits, default_header, header-default}
use Rattle.p21_laws.proofs.Files.{IsSpelled, among_first, among_second, content_spelled, file_said, one_content, parts_of}
use Rattle.p21_laws.proofs.Order.{OnceBy, Rises, stays}
use Rattle.p21_laws.specs.Contents.{AreAmong, IsRead, new_content}
use Rattle.p21_laws.specs.Kept.{IsKept, IsSound}
use Rattle.p21_laws.specs.Instances.{references_of}
use Rattle.p21_laws.specs.Schemas.{IsAccepted}

-- ---- order

apart : (m n : ℕ) → m < n → (n == m) ≡ false
apart m n less = grind (arith, nat_tests)

not_below : (m n : ℕ) → m < n → nat_lt n m ≡ false
not_below m n less = grind (arith, nat_tests)

none_named : (n : ℕ) (is : List Instance) → AllByRecursion (λ (j : Instance). n < j.name) is → list_any (λ j. j.name == n) is ≡ false
none_named n [] all = refl
none_named n (j ∷ is) all = rw (apart n j.name all.0) (none_named n is all.1)

once : (is : List Instance) → AreAscending is → OnceBy name_of is
once [] order = tt
once (i ∷ is) order = (none_named i.name is order.0, once is order.1)

rises : (is : List Instance) → AreAscending is → Rises name_of is
rises [] order = tt
rises (i ∷ []) order = (tt, tt)
rises (i ∷ j ∷ is) order = (not_below i.name j.name order.0.0, rises (j ∷ is) order.1)

in_middle : (P : Instance → Type 0) (before : List Instance) (i : Instance) (behind : List Instance) → AllByRecursion P (before ++ i ∷ behind) → P i
in_middle P [] i behind all = all.0
in_middle P (j ∷ before) i behind all = in_middle P before i behind all.1

-- ---- the header

-- it was read of one that is well spelled
abbrev WasRead : Header → Type 0
WasRead h = (x : spelled_header.Header) × ((is_header x ≡ true) × (header x ≡ h))

module _ (schema : Checked) (accepted : IsAccepted schema.named) where
  header_read : (h : Header) → (h ≡ held.default_header) ⊎ IsHeaderOfFile h → WasRead h
  header_read h (inl is) = (default_header, (default_fits, header-default ∙ sym is))
  header_read h (inr from) = (from.raw.header, ((parts_of schema accepted from.raw (file_is from.raw from.file from.reads)).head, sym from.is))

  -- ---- instances

  name_fits : (n : ℕ) → n ≤ max_name → is_name n ≡ true
  name_fits n low = grind (arith, nat_tests)

  of_file : (i : Instance) → IsInstanceOfFile schema i → Said schema accepted IsSpelled i
  of_file i from =
      let said = file_said schema accepted from.linked from.raw from.content (file_is from.raw from.file from.reads) from.says in
      in_middle (Said schema accepted IsSpelled) from.before i from.behind
      (subst (AllByRecursion (Said schema accepted IsSpelled)) (ap (λ (c : Content). c.instances) said.1.1 ∙ from.stands) said.1.0)

  not_told : (name : ℕ) (r : Mapped Instance) (i : Instance) → told name r ≡ Ok i → r ≡ Ok i
  not_told name (Ok j) i e = cc
  not_told name (Err kind) i e = cc

  of_text : (i : Instance) → i.name ≤ max_name → IsInstanceOfText schema i → Said schema accepted IsSpelled i
  unfolding bound_instance
  of_text i low from =
      let x : tree.Instance = record { name = i.name; mapping = from.mapping } in
      let read = not_told i.name (instance schema from.defined false x) i from.says in
      (from.defined, (x, (false, (read, both_hold (is_name i.name) (is_mapping from.mapping) (name_fits i.name low) (mapping_of_is from.mapping from.text from.reads)))))

  said_by : (i : Instance) → i.name ≤ max_name → origins.IsSpelled schema i → Said schema accepted IsSpelled i
  said_by i low (inl from) = of_file i from
  said_by i low (inr from) = of_text i low from

  all_said : (is : List Instance) → AllByRecursion (λ (i : Instance). i.name ≤ max_name) is → AllByRecursion (origins.IsSpelled schema) is → AllByRecursion (Said schema accepted IsSpelled) is
  all_said [] names read = tt
  all_said (i ∷ is) names read = (said_by i names.0 read.0, all_said is names.1 read.1)

  -- ---- contents

  module _ (linked : List ℕ) (c : Content) (kept : IsKept schema linked c) where
    head : WasRead c.header
    head = header_read c.header kept.header

    said : AllByRecursion (Said schema accepted IsSpelled) c.instances
    said = all_said c.instances kept.names kept.read

    pub kept_tree : file_of (canonical schema c) ≡ Ok (content_tree schema c)
    unfolding canonical
    kept_tree =
        file_again (content_tree schema c)
        (subst (λ h. is_file (content_tree schema (record c { header = h })) ≡ true) head.1.1 (content_spelled schema accepted head.0 c.instances c.links head.1.0 said))

    kept_content : bound_file schema linked (content_tree schema c) ≡ Ok (record c { links = [] })
    kept_content =
        subst (λ h. bound_file schema linked (content_tree schema (record c { header = h })) ≡ Ok (record { header = h; instances = c.instances; links = [] })) head.1.1
        (content_stands schema accepted linked IsSpelled head.0 c.instances c.links said kept.sound (once c.instances kept.order) (stays name_of c.instances (rises c.instances kept.order)))

    pub kept_again : IsRead schema linked (canonical schema c) (record c { links = [] })
    kept_again = (content_tree schema c, (kept_tree, kept_content))

  -- what else is linked doesn't matter
  sound_more : (linked now : List ℕ) → AreAmong linked now → (all is : List Instance) → AllByRecursion (IsSound schema linked all) is → AllByRecursion (IsSound schema now all) is
  sound_more linked now among all [] sound = tt
  sound_more linked now among all (i ∷ is) sound = (
    all_more (is_among (map name_of all ++ linked)) (is_among (map name_of all ++ now)) more (references_of (instance_tree schema i).mapping) sound.0,
    sound_more linked now among all is sound.1,
  )
    where
      more : (n : ℕ) → is_among (map name_of all ++ linked) n ≡ true → is_among (map name_of all ++ now) n ≡ true
      more n there =
          list_any-append (λ m. m == n) (map name_of all) now
          ∙ either_more (is_among (map name_of all) n) (is_among linked n) (is_among now n) (sym (list_any-append (λ m. m == n) (map name_of all) linked) ∙ there) (among n)

  kept_more : (linked now : List ℕ) → AreAmong linked now → (c : Content) → IsKept schema linked c → IsKept schema now c
  kept_more linked now among c kept = record {
    header = kept.header;
    order = kept.order;
    names = kept.names;
    read = kept.read;
    sound = sound_more linked now among c.instances c.instances kept.sound;
  }

  pub kept_one : (linked linked2 : List ℕ) (c c2 : Content) → IsKept schema linked c → IsKept schema linked2 c2 → canonical schema c ≡ canonical schema c2 → record c { links = [] } ≡ record c2 { links = [] }
  kept_one linked linked2 c c2 kept kept2 same =
      let all : List ℕ = linked ++ linked2 in
      one_content schema accepted all (canonical schema c2) (record c { links = [] }) (record c2 { links = [] })
      (subst (λ t. IsRead schema all t (record c { links = [] })) same (kept_again all c (kept_more linked all (among_first linked linked2) c kept)))
      (kept_again all c2 (kept_more linked2 all (among_second linked linked2) c2 kept2))

  pub kept_stays : (linked : List ℕ) (c c2 : Content) → IsKept schema linked c → IsRead schema linked (canonical schema c) c2 → canonical schema c2 ≡ canonical schema c
  unfolding canonical
  kept_stays linked c c2 kept read = ap (canonical schema) (one_content schema accepted linked (canonical schema c) c2 (record c { links = [] }) read (kept_again linked c kept))

  pub new_again : (linked : List ℕ) → IsRead schema linked (canonical schema new_content) new_content
  new_again linked = kept_again linked new_content (record { header = inl refl; order = tt; names = tt; read = tt; sound = tt })
