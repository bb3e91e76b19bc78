-- What is written of what was read is well spelled, and so it is read again.
use Rattle.std.proofs.Common.{◌≡◌, ◌≤◌, ℕ, suc, Bool, true, ◌&&◌, nat_le, ◌==◌, nat_lt, List, [], ◌∷◌, ◌++◌, length, map, Ok, refl, sym, ◌∙◌, ap, subst, arith}
use Rattle.std.proofs.lemmas.Bool.{or_left, or_right}
use Rattle.std.proofs.lemmas.Bool.Decides.{nat_tests}
use Rattle.std.proofs.lemmas.List.Folds.{list_any-append}
use Rattle.std.specs.List.{AllByRecursion, list_all}
use Rattle.plain_data.specs.Numbers.{is_among}
use Rattle.ex_slots.specs.Slots.{Slot}
use Rattle.ex_types.specs.Checked.{Checked}
use Rattle.p21_bind.specs.Files.{bound_file}
use Rattle.p21_mappings.specs.Contents.{content, header}
use Rattle.p21_mappings.specs.Instances.{instance}
use Rattle.p21_grammar.specs.File.{file_of}
use Rattle.p21_grammar.specs.Grammar.{max_nesting}
use Rattle.p21_spelling.proofs.Ascii.{word_utf8}
use Rattle.p21_spelling.proofs.Files.{file_again}
use Rattle.p21_spelling.proofs.Runs.{both_hold, first_holds, second_holds}
use Rattle.p21_spelling.proofs.WellSpelled.{file_is}
use Rattle.p21_spelling.proofs.Written.{written_text}
use Rattle.p21_spelling.specs.Files.{is_file, is_header, is_section}
use Rattle.p21_spelling.specs.Instances.{are_values, is_instance, is_mapping, is_record}
use Rattle.p21_spelling.specs.Tokens.{is_name, is_string, is_word}
use Rattle.p21_spelling.specs.Values.{all_spelled, deepest, spelling}
use Rattle.p21_escapes.specs.Encoding.{encoded}
use Rattle.p21_tree.specs.declared.header.Header as spelled_header
use Rattle.p21_tree.specs.declared.instance.Instance as tree
use Rattle.p21_tree.specs.declared.instance.Mapping.{Mapping}
use Rattle.p21_tree.specs.declared.instance.Mapping.TheVariants.{External, Internal}
use Rattle.p21_tree.specs.declared.instance.Record.{Record}
use Rattle.p21_tree.specs.declared.raw.Raw.{Raw}
use Rattle.p21_tree.specs.declared.value.Value.{Value as SpelledValue}
use Rattle.p21_canonical.specs.Trees.{canonical, content_tree, entity_name, header_tree, instance_tree, mapping, own_parts, records}
use Rattle.rp_content.specs.declared.content.Content.{Content}
use Rattle.rp_content.specs.declared.instance.Instance.{Instance}
use Rattle.rp_content.specs.declared.instance.Entities.{Entities}
use Rattle.rp_content.specs.declared.instance.Entities.TheVariants.{Leaf, Several}
use Rattle.rp_content.specs.declared.link.Link.{Link}
use Rattle.rp_value.specs.declared.value.Value.{Value}
use Rattle.p21_laws.proofs.Attributes.{shown_as, trees_of, value_read}
use Rattle.p21_laws.proofs.Contents.{Said, content_again, file_read, ordered, said_ordered, same_name}
use Rattle.p21_laws.proofs.Entities.{IsEntity, entities_of, entity_word}
use Rattle.p21_laws.proofs.Headers.{header_fit}
use Rattle.p21_laws.proofs.Instances.{instance_read}
use Rattle.p21_laws.proofs.Pairs.{AllBoth}
use Rattle.p21_laws.proofs.Shapes.{OfEntities, leaf_passes, made, record_by, several_pass, several_records}
use Rattle.p21_laws.specs.Contents.{AreAmong, IsRead}
use Rattle.p21_laws.specs.Instances.{parts}
use Rattle.p21_laws.specs.Schemas.{IsAccepted}

-- ---- values

-- a value that is well spelled and doesn't nest too deep
abbrev Fits : SpelledValue → Type 0
Fits x = ((spelling x).is_spelled ≡ true) × ((spelling x).levels ≤ max_nesting)

is_most : (a n : ℕ) → a ≤ n → nat_le a n ≡ true
is_most a n less = grind (arith, nat_tests)

at_most : (a n : ℕ) → nat_le a n ≡ true → a ≤ n
at_most a n e = grind (arith, nat_tests)

all_fit : (xs : List SpelledValue) → all_spelled (map spelling xs) ≡ true → deepest (map spelling xs) ≤ max_nesting → AllByRecursion Fits xs
all_fit [] spelled deep = tt
all_fit (x ∷ xs) spelled deep = (
  (first_holds (spelling x).is_spelled (all_spelled (map spelling xs)) spelled, omega arith),
  all_fit xs (second_holds (spelling x).is_spelled (all_spelled (map spelling xs)) spelled) (omega arith),
)

values_fit : (xs : List SpelledValue) → are_values (map spelling xs) ≡ true → AllByRecursion Fits xs
values_fit xs e =
    let spelled : Bool = all_spelled (map spelling xs) in
    let low : Bool = nat_le (deepest (map spelling xs)) max_nesting in
    all_fit xs (first_holds spelled low e) (at_most (deepest (map spelling xs)) max_nesting (second_holds spelled low e))

records_fit : (rs : List Record) → list_all is_record rs ≡ true → AllByRecursion (λ r. AllByRecursion Fits r.values) rs
records_fit [] e = tt
records_fit (r ∷ rs) e = (
  values_fit r.values (second_holds (is_word r.keyword) (are_values (map spelling r.values)) (first_holds (is_record r) (list_all is_record rs) e)),
  records_fit rs (second_holds (is_record r) (list_all is_record rs) e),
)

mapping_fits : (m : Mapping) → is_mapping m ≡ true → AllByRecursion (λ r. AllByRecursion Fits r.values) (parts m)
mapping_fits (Internal r) e = (values_fit r.values (second_holds (is_word r.keyword) (are_values (map spelling r.values)) e), tt)
mapping_fits (External rs) e = records_fit rs (second_holds (nat_lt 0 (length rs)) (list_all is_record rs) e)

-- ---- names

pub among_first : (xs ys : List ℕ) → AreAmong xs (xs ++ ys)
among_first xs ys n there = list_any-append (λ m. m == n) xs ys ∙ or_left (is_among xs n) (is_among ys n) there

pub among_second : (xs ys : List ℕ) → AreAmong ys (xs ++ ys)
among_second xs ys n there = list_any-append (λ m. m == n) xs ys ∙ or_right (is_among xs n) (is_among ys n) there

abbrev pub IsSpelled : tree.Instance → Type 0
IsSpelled x = is_instance x ≡ true

module _ (schema : Checked) (accepted : IsAccepted schema.named) where
  -- ---- records

  abbrev Shows : Slot → Value → Type 0
  Shows s w = Fits (shown_as schema.named.schema.types s w)

  trees_spelled : (ss : List Slot) (ws : List Value) → AllBoth Shows ss ws → all_spelled (map spelling (trees_of schema.named.schema.types ss ws)) ≡ true
  trees_spelled [] [] p = refl
  trees_spelled [] (w ∷ ws) p = absurd p
  trees_spelled (s ∷ ss) [] p = absurd p
  trees_spelled (s ∷ ss) (w ∷ ws) p =
      both_hold (spelling (shown_as schema.named.schema.types s w)).is_spelled (all_spelled (map spelling (trees_of schema.named.schema.types ss ws))) (p.0).0 (trees_spelled ss ws p.1)

  trees_low : (ss : List Slot) (ws : List Value) → AllBoth Shows ss ws → deepest (map spelling (trees_of schema.named.schema.types ss ws)) ≤ max_nesting
  trees_low [] [] p = omega arith
  trees_low [] (w ∷ ws) p = absurd p
  trees_low (s ∷ ss) [] p = absurd p
  trees_low (s ∷ ss) (w ∷ ws) p = let first = (p.0).1 in let others = trees_low ss ws p.1 in omega arith

  record_fits : (n : ℕ) (ss : List Slot) (ws : List Value) → IsEntity schema n → AllBoth Shows ss ws → is_record (record_by schema n ss ws) ≡ true
  record_fits n ss ws there both =
      let xs : List SpelledValue = trees_of schema.named.schema.types ss ws in
      both_hold (is_word (entity_name (entities_of schema) n)) (are_values (map spelling xs)) (entity_word schema accepted n there)
      (both_hold (all_spelled (map spelling xs)) (nat_le (deepest (map spelling xs)) max_nesting) (trees_spelled ss ws both) (is_most (deepest (map spelling xs)) max_nesting (trees_low ss ws both)))

  same_length : {A B : Type 0} (f : A → B) (xs : List A) → length (map f xs) ≡ length xs
  same_length f [] = refl
  same_length f (x ∷ xs) = ap suc (same_length f xs)

  mapping_spelled : (entities : Entities) (ws : List Value) → OfEntities schema Shows entities ws → is_mapping (mapping schema entities ws) ≡ true
  mapping_spelled (Leaf entity) ws is = leaf_passes schema Shows is_record record_fits entity ws is
  mapping_spelled (Several all) ws is =
      both_hold (nat_lt 0 (length (records schema (own_parts schema all) ws))) (list_all is_record (records schema (own_parts schema all) ws))
      (ap (λ rs. nat_lt 0 (length rs)) (several_records schema Shows all ws is) ∙ ap (nat_lt 0) (same_length (made schema Shows all ws is) all) ∙ is.some)
      (several_pass schema Shows is_record record_fits all ws is)

  -- ---- instances

  shows : (is_defined : ℕ → Bool) (x : tree.Instance) (i : Instance) (stood : Bool) → instance schema is_defined stood x ≡ Ok i → is_instance x ≡ true → OfEntities schema Shows i.entities i.values
  shows is_defined x i stood e spelled =
      let read =
      instance_read schema accepted is_defined Shows Fits
      (λ s x w e q. let good = value_read schema accepted.types is_defined s x w e in let less = good.levels in let low = q.1 in (good.spelled q.0, omega arith))
      stood x i e (mapping_fits x.mapping (second_holds (is_name x.name) (is_mapping x.mapping) spelled)) in
      read.1.1

  instance_spelled : (i : Instance) → Said schema accepted IsSpelled i → is_instance (instance_tree schema i) ≡ true
  instance_spelled i said =
      let from = said.1 in
      let x : tree.Instance = from.0 in
      both_hold (is_name i.name) (is_mapping (mapping schema i.entities i.values))
      (ap is_name (same_name schema accepted said.0 from.1.0 x i from.1.1.0) ∙ first_holds (is_name x.name) (is_mapping x.mapping) from.1.1.1)
      (mapping_spelled i.entities i.values (shows said.0 x i from.1.0 from.1.1.0 from.1.1.1))

  all_instances : (is : List Instance) → AllByRecursion (Said schema accepted IsSpelled) is → list_all is_instance (map (instance_tree schema) is) ≡ true
  all_instances [] all = refl
  all_instances (i ∷ is) all = both_hold (is_instance (instance_tree schema i)) (list_all is_instance (map (instance_tree schema) is)) (instance_spelled i all.0) (all_instances is all.1)

  all_by : (xs : List tree.Instance) → list_all is_instance xs ≡ true → AllByRecursion IsSpelled xs
  all_by [] e = tt
  all_by (x ∷ xs) e = (first_holds (is_instance x) (list_all is_instance xs) e, all_by xs (second_holds (is_instance x) (list_all is_instance xs) e))

  -- ---- files

  pub record Parts (raw : Raw) : Type 0 where
    pub head : is_header raw.header ≡ true
    pub body : list_all is_instance raw.instances ≡ true

  pub parts_of : (raw : Raw) → is_file raw ≡ true → Parts raw
  parts_of raw e = apart (is_header raw.header) (is_string raw.schema) (is_section raw.section) (list_all is_instance raw.instances) e refl refl
    where
      apart : (a b c d : Bool) → (a && b && c && d) ≡ true → is_header raw.header ≡ a → list_all is_instance raw.instances ≡ d → Parts raw
      apart true true true true e head body = record { head = head; body = body }
      apart _ _ _ _ e head body = cc

  -- a content whose header and instances were read is well spelled where it is written
  pub content_spelled : (h : spelled_header.Header) (is : List Instance) (links : List Link) → is_header h ≡ true → AllByRecursion (Said schema accepted IsSpelled) is
      → is_file (content_tree schema (record { header = header h; instances = is; links = links })) ≡ true
  content_spelled h is links fits said =
      together (is_header (header_tree (header h))) (is_string (encoded schema.named.schema.name.text)) (list_all is_instance (map (instance_tree schema) is)) (header_fit h fits)
      (written_text schema.named.schema.name.text (word_utf8 schema.named.schema.name.text accepted.words.schema)) (all_instances is said)
    where
      together : (a b d : Bool) → a ≡ true → b ≡ true → d ≡ true → (a && b && true && d) ≡ true
      together a b d p q r = rw (p, q, r) refl

  -- the instances of a file that was read
  pub file_said : (linked : List ℕ) (raw : Raw) (c : Content) → is_file raw ≡ true → bound_file schema linked raw ≡ Ok c → (is : List Instance) × (AllByRecursion (Said schema accepted IsSpelled) (ordered is) × (content raw.header is ≡ c))
  file_said linked raw c spelled e =
      let read = file_read schema accepted linked IsSpelled raw c (all_by raw.instances (parts_of raw spelled).body) e in
      (read.0, (said_ordered schema accepted linked IsSpelled raw.instances read.0 read.1.0, read.1.1))

  tree_spelled : (linked : List ℕ) (raw : Raw) (c : Content) → is_file raw ≡ true → bound_file schema linked raw ≡ Ok c → is_file (content_tree schema c) ≡ true
  tree_spelled linked raw c spelled e =
      let said = file_said linked raw c spelled e in
      subst (λ c. is_file (content_tree schema c) ≡ true) said.1.1 (content_spelled raw.header (ordered said.0) [] (parts_of raw spelled).head said.1.0)

  -- ---- texts, where names are linked

  pub tree_again : (linked text : List ℕ) (c : Content) → IsRead schema linked text c → file_of (canonical schema c) ≡ Ok (content_tree schema c)
  unfolding canonical
  tree_again linked text c read = file_again (content_tree schema c) (tree_spelled linked read.0 c (file_is read.0 text read.1.0) read.1.1)

  pub text_again : (linked now : List ℕ) → AreAmong linked now → (text : List ℕ) (c : Content) → IsRead schema linked text c → IsRead schema now (canonical schema c) c
  text_again linked now among text c read = (content_tree schema c, (tree_again linked text c read, content_again schema accepted linked now among read.0 c read.1.1))

  -- what is read of a text is one content
  pub one_content : (linked text : List ℕ) (c c2 : Content) → IsRead schema linked text c → IsRead schema linked text c2 → c ≡ c2
  one_content linked text c c2 read read2 =
      let files : Ok read.0 ≡ Ok read2.0 = sym read.1.0 ∙ read2.1.0 in
      let one : read.0 ≡ read2.0 = cc in
      let both : Ok c ≡ Ok c2 = sym read.1.1 ∙ ap (bound_file schema linked) one ∙ read2.1.1 in
      cc

  -- contents that have one text are one
  pub one_text : (linked linked2 text text2 : List ℕ) (c c2 : Content) → IsRead schema linked text c → IsRead schema linked2 text2 c2 → canonical schema c ≡ canonical schema c2 → c ≡ c2
  one_text linked linked2 text text2 c c2 read read2 same =
      let all : List ℕ = linked ++ linked2 in
      one_content all (canonical schema c2) c c2
      (subst (λ t. IsRead schema all t c) same (text_again linked all (among_first linked linked2) text c read))
      (text_again linked2 all (among_second linked linked2) text2 c2 read2)

  -- what is read of canonical text has this text again
  pub text_stays : (linked text : List ℕ) (c c2 : Content) → IsRead schema linked text c → IsRead schema linked (canonical schema c) c2 → canonical schema c2 ≡ canonical schema c
  text_stays linked text c c2 read again =
      ap (canonical schema) (one_content linked (canonical schema c) c2 c again (text_again linked linked (λ n there. there) text c read))
