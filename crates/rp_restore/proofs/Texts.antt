-- The rows of a valid repository are texts: their names and their files are UTF-8, and their numbers are of 64 bits.
use Rattle.std.proofs.Common.{◌≡◌, ◌<◌, ◌||◌, ℕ, Bool, true, false, List, [], ◌∷◌, Some, None, IsUtf8, refl, sym, ap, ◌∙◌, subst, arith}
use Rattle.std.specs.Prelude.{if◌then◌else◌, length, map, nat_lt, not}
use Rattle.std.specs.List.{AllByRecursion, list_all}
use Rattle.std.specs.Str.{bytes_eq, IsAscii}
use Rattle.std.proofs.lemmas.Bool.{and_parts}
use Rattle.std.proofs.lemmas.Bool.Decides.{nat_tests}
use Rattle.std.proofs.lemmas.Slice.Eq.{bytes_eq-Decides}
use Rattle.std.proofs.lemmas.Str.{IsUtf8-from_ascii}
use Rattle.ex_types.specs.Checked.{Checked}
use Rattle.p21_canonical.specs.Trees.{canonical}
use Rattle.p21_spelling.proofs.Ascii.{all_ascii, word_utf8}
use Rattle.p21_laws.specs.Contents.{IsRead}
use Rattle.p21_laws.specs.Schemas.{IsAccepted}
use Rattle.rp_content.specs.declared.content.Content.{Content}
use Rattle.rp_content.specs.declared.link.Link.{Link}
use Rattle.rp_rows.specs.declared.rows.Grant.{Grant}
use Rattle.rp_rows.specs.Contents.{link_names}
use Rattle.rp_rows.specs.Names.{is_byte_of_name, is_name}
use Rattle.rp_rows.specs.Rows.{Text, row_key, Model, GroupRow}
use Rattle.rp_plain.specs.declared.messages.NewFault.TheVariants.{BadName, TooMany, TwoPartners, TwoSchemas}
use Rattle.rp_plain.specs.Meaning.{first_some, has_text, has_schema, schema_name, schema_named}
use Rattle.rp_plain.specs.Opening.{has_twice, max_partners, max_schemas, new_fault, when}
use Rattle.rp_plain.specs.Valid.{IsValidGrant, IsValidGroup, IsValidLink, IsValidMember, IsValidModel}
use Rattle.rp_laws.proofs.ValidTables.{all_each}
use Rattle.rp_laws.specs.Laws.{IsModelReadAgain}
use Rattle.rp_snapshots.specs.Snapshots.{first_version, file_by, file_in}
use Rattle.rp_restore.proofs.Numbers.{model_numbers}
use Rattle.rp_snapshot_texts.specs.Again.{IsTextGrant, IsTextGroup, IsTextKey, IsTextLink, IsTextModel}

-- ---- names

byte_ascii : (b : ℕ) → is_byte_of_name b ≡ true → b < 128
byte_ascii b e = grind (arith, nat_tests)

name_utf8 : (t : List ℕ) → is_name t ≡ true → IsUtf8 t
name_utf8 t e = IsUtf8-from_ascii t (all_ascii is_byte_of_name byte_ascii t (and_parts _ (list_all is_byte_of_name t) e).1)

-- a text that stands among others passes where they do
among : (p : List ℕ → Bool) (ts : List (List ℕ)) (s : List ℕ) → list_all p ts ≡ true → has_text ts s ≡ true → p s ≡ true
among p [] s all there = cc
among p (t ∷ ts) s all there = let both = and_parts (p t) (list_all p ts) all in by both.0 (among p ts s both.1) (bytes_eq s t) refl there
  where
    by : p t ≡ true → (has_text ts s ≡ true → p s ≡ true) → (same : Bool) → bytes_eq s t ≡ same → (same || has_text ts s) ≡ true → p s ≡ true
    by first others true e is = ap p ((bytes_eq-Decides s t).0 e) ∙ first
    by first others false e is = others is

-- ---- schemas

abbrev pub AllAccepted : List Checked → Type 0
AllAccepted = AllByRecursion (λ (schema : Checked). IsAccepted schema.named)

-- the schema of a name is accepted, and has the name
found : (schemas : List Checked) (name : List ℕ) (schema : Checked) → AllAccepted schemas → schema_named schemas name ≡ Some schema → IsAccepted schema.named × (name ≡ schema_name schema)
found [] name schema all is = cc
found (x ∷ xs) name schema all is = by (found xs name schema all.1) (bytes_eq name (schema_name x)) refl is
  where
    by : (schema_named xs name ≡ Some schema → IsAccepted schema.named × (name ≡ schema_name schema)) → (same : Bool) → bytes_eq name (schema_name x) ≡ same → (if same then Some x else schema_named xs name) ≡ Some schema → IsAccepted schema.named × (name ≡ schema_name schema)
    by others true e here = let it : x ≡ schema = cc in subst (λ (s : Checked). IsAccepted s.named × (name ≡ schema_name s)) it (all.0, (bytes_eq-Decides name (schema_name x)).0 e)
    by others false e here = others here

-- the name of one that there is
loaded_utf8 : (schemas : List Checked) (name : List ℕ) → AllAccepted schemas → has_schema schemas name ≡ true → IsUtf8 name
loaded_utf8 [] name all there = cc
loaded_utf8 (x ∷ xs) name all there = by (loaded_utf8 xs name all.1) (bytes_eq name (schema_name x)) refl there
  where
    by : (has_schema xs name ≡ true → IsUtf8 name) → (same : Bool) → bytes_eq name (schema_name x) ≡ same → (same || has_schema xs name) ≡ true → IsUtf8 name
    by others true e is = subst IsUtf8 (sym ((bytes_eq-Decides name (schema_name x)).0 e)) (word_utf8 (schema_name x) all.0.words.schema)
    by others false e is = others is

found_utf8 : (schemas : List Checked) (name : List ℕ) (schema : Checked) → AllAccepted schemas → schema_named schemas name ≡ Some schema → IsUtf8 name
found_utf8 schemas name schema all is = let it = found schemas name schema all is in subst IsUtf8 (sym it.1) (word_utf8 (schema_name schema) it.0.words.schema)

-- ---- partners

third : (first second test fourth : Bool) → first_some (when first TwoSchemas ∷ when second TwoPartners ∷ when (not test) BadName ∷ when fourth TooMany ∷ []) ≡ None → test ≡ true
third first second true fourth none = refl
third true second false fourth none = cc
third false true false fourth none = cc
third false false false fourth none = cc

pub have_names : (schemas : List Checked) (partners : List Text) → new_fault schemas partners ≡ None → list_all is_name partners ≡ true
have_names schemas partners none = third (has_twice (map schema_name schemas)) (has_twice partners) (list_all is_name partners) (nat_lt max_schemas (length schemas) || nat_lt max_partners (length partners)) none

-- ---- rows

-- what p21_ascii tells
abbrev pub CanonicalUtf8 : Type 0
CanonicalUtf8 = (schema : Checked) → IsAccepted schema.named → (linked text : List ℕ) (c : Content) (links : List Link) → IsRead schema linked text c → IsAscii (canonical schema (record c { links = links }))

module _ (ascii : CanonicalUtf8) (schemas : List Checked) (partners : List Text) (accepted : AllAccepted schemas) (names : list_all is_name partners ≡ true) where
  partner_utf8 : (name : List ℕ) → has_text partners name ≡ true → IsUtf8 name
  partner_utf8 name there = name_utf8 name (among is_name partners name names there)

  grants_utf8 : (owner : List ℕ) (gs : List Grant) → AllByRecursion (IsValidGrant partners owner) gs → AllByRecursion IsTextGrant gs
  grants_utf8 owner gs all = all_each (IsValidGrant partners owner) IsTextGrant (λ g valid. partner_utf8 g.partner valid.partner) gs all

  pub group_text : (g : GroupRow) → IsValidGroup schemas partners g → IsTextGroup g
  group_text g valid = record {
    owner = partner_utf8 g.owner valid.row.owner;
    name = name_utf8 g.name valid.row.name;
    schema = loaded_utf8 schemas g.holds.schema accepted valid.schema;
    grants = grants_utf8 g.owner g.grants valid.row.grantees;
    members = all_each (IsValidMember partners) IsTextKey (λ k member. (partner_utf8 k.owner member.owner, name_utf8 k.name member.name)) g.holds.members valid.members;
  }

  file_utf8 : (m : Model) (valid : IsValidModel schemas partners m) → IsModelReadAgain schemas m → IsUtf8 (file_in first_version schemas m.holds)
  file_utf8 m valid again =
      let schema = valid.content.schema in
      let loaded = valid.content.loaded in
      let c = m.holds.content in
      let it = found schemas m.holds.schema schema accepted loaded in
      let text : IsUtf8 (canonical schema c) = IsUtf8-from_ascii (canonical schema c) (ascii schema it.0 (link_names c.links) (canonical schema c) (record c { links = [] }) c.links (again schema loaded)) in
      subst IsUtf8 (sym (ap (λ found. file_by first_version found m.holds) loaded)) text

  pub model_text : (m : Model) → IsValidModel schemas partners m → IsModelReadAgain schemas m → IsTextModel (file_in first_version schemas) m
  model_text m valid again = record {
    owner = partner_utf8 m.owner valid.row.owner;
    name = name_utf8 m.name valid.row.name;
    schema = found_utf8 schemas m.holds.schema valid.content.schema accepted valid.content.loaded;
    written = file_utf8 m valid again;
    grants = grants_utf8 m.owner m.grants valid.row.grantees;
    links = all_each (IsValidLink partners (row_key m) m.holds.content) IsTextLink (λ l link. (partner_utf8 l.owner link.owner, name_utf8 l.model link.model)) m.holds.content.links valid.content.linked;
    numbers = model_numbers schemas partners m valid;
  }

  -- all of them
  pub groups_text : (gs : List GroupRow) → AllByRecursion (IsValidGroup schemas partners) gs → AllByRecursion IsTextGroup gs
  groups_text gs all = all_each (IsValidGroup schemas partners) IsTextGroup group_text gs all

  pub models_text : (ms : List Model) → AllByRecursion (IsValidModel schemas partners) ms → AllByRecursion (IsModelReadAgain schemas) ms → AllByRecursion (IsTextModel (file_in first_version schemas)) ms
  models_text [] all again = tt
  models_text (m ∷ ms) all again = (model_text m all.0 again.0, models_text ms all.1 again.1)
