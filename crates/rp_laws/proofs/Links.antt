-- Links that a put is not refused for are such as a valid model has.
use Rattle.std.proofs.Common.{◌≡◌, ◌≤◌, ℕ, Bool, true, false, ◌&&◌, ◌||◌, nat_le, nat_lt, List, [], ◌∷◌, length, Option, Some, None, is_some, refl, sym, ap, subst, arith}
use Rattle.std.specs.Prelude.{if◌then◌else◌}
use Rattle.std.specs.List.{list_all, AllByRecursion}
use Rattle.std.specs.Ordering.{nat_cmp}
use Rattle.std.proofs.lemmas.Bool.{and_parts}
use Rattle.std.proofs.lemmas.Bool.Decides.{nat_tests}
use Rattle.plain_data.specs.Numbers.{is_among}
use Rattle.rp_content.specs.declared.content.Content.{Content}
use Rattle.rp_content.specs.declared.link.Link.{Link}
use Rattle.sorted_tables.specs.Table.{IsAscending}
use Rattle.rp_rows.specs.declared.rows.ModelContent.{ModelContent}
use Rattle.rp_rows.specs.Names.{is_name}
use Rattle.rp_rows.specs.declared.rows.Key.{Key}
use Rattle.rp_rows.specs.Rows.{Text, same_key, row_key, is_row, Model}
use Rattle.rp_rows.specs.Contents.{names, link_name, link_names}
use Rattle.rp_rows.specs.Instances.{max_name}
use Rattle.rp_rows.specs.Sight.{sees}
use Rattle.rp_rows.proofs.Keys.{key_at, found_at}
use Rattle.rp_plain.specs.declared.messages.LinkFault.{LinkFault}
use Rattle.rp_plain.specs.declared.messages.LinkFaultKind.{LinkFaultKind}
use Rattle.rp_plain.specs.declared.messages.LinkFaultKind.TheVariants.{Defined, Own}
use Rattle.rp_plain.specs.declared.messages.Refusal.TheVariants as refusal
use Rattle.rp_plain.specs.Plain.{Plain, model_at}
use Rattle.rp_plain.specs.Readers.{Readers, asked, held}
use Rattle.rp_plain.specs.Meaning.{has_text}
use Rattle.rp_plain.specs.Links.{max_links, target_model, links_in_order, linking, has_names, no_request, target_fault, fault_of, told_first, first_fault, told, link_refusal}
use Rattle.rp_plain.specs.Valid.{IsValidModel, IsValidLink, IsValid}
use Rattle.p21_instances.specs.Instances.{AreOnce}
use Rattle.p21_instances.proofs.ByName.{all-in_order, length-in_order}
use Rattle.rp_laws.proofs.ByName.{AreWithin, ordered}
use Rattle.rp_laws.proofs.Passed.{is_so, no_more}
use Rattle.rp_laws.proofs.ValidTables.{all_each, all_found}

-- ---- numbers

small : (n most : ℕ) → nat_le n most ≡ true → n ≤ most
small n most e = grind (arith, nat_tests)

abbrev IsNumbered : Link → Type 0
IsNumbered l = (l.name ≤ max_name) × (l.target ≤ max_name)

numbered : (l : Link) → has_names l ≡ true → IsNumbered l
numbered l e =
    let both = and_parts (nat_le l.name max_name) (nat_le l.target max_name) e in
    (small l.name max_name both.0, small l.target max_name both.1)

all_numbered : (ls : List Link) → list_all has_names ls ≡ true → AllByRecursion IsNumbered ls
all_numbered [] e = tt
all_numbered (l ∷ ls) e = let both = and_parts (has_names l) (list_all has_names ls) e in (numbered l both.0, all_numbered ls both.1)

-- ---- links without a fault

module _ (a : Readers) (k : Key) (schema : Text) (instances : List ℕ) where
  -- it has a name of no instance, and leads to another model that is seen
  record Leads (l : Link) : Type 0 where
    free : is_among instances l.name ≡ false
    other : same_key k (target_model l) ≡ false
    seen : is_some (a.content (target_model l)) ≡ true

  faultless : (others : List ℕ) (l : Link) → fault_of a k schema instances others l ≡ None → (is_among others l.name ≡ false) × Leads l
  faultless others l e = by (is_among instances l.name) refl (is_among others l.name) refl (same_key k (target_model l)) refl (a.content (target_model l)) refl e
    where
      by : (s : Bool) → is_among instances l.name ≡ s → (t : Bool) → is_among others l.name ≡ t → (u : Bool) → same_key k (target_model l) ≡ u → (o : Option ModelContent) → a.content (target_model l) ≡ o
          → (if s || t then Some Defined else (if u then Some Own else target_fault schema l.target o)) ≡ None → (is_among others l.name ≡ false) × Leads l
      by true free t once u other o seen f = cc
      by false free true once u other o seen f = cc
      by false free false once true other o seen f = cc
      by false free false once false other None seen f = cc
      by false free false once false other (Some h) seen f = (once, record { free = free; other = other; seen = ap is_some seen })

  none_first : (name : ℕ) (kind : Option LinkFaultKind) (others : Option LinkFault) → told_first a k schema instances name kind others ≡ None → (kind ≡ None) × (others ≡ None)
  none_first name None others e = (refl, e)
  none_first name (Some kind) others e = cc

  all_lead : (ls : List Link) → first_fault a k schema instances ls ≡ None → AreOnce link_name ls × AllByRecursion Leads ls
  all_lead [] e = (tt, tt)
  all_lead (l ∷ ls) e =
      let none = none_first l.name (fault_of a k schema instances (link_names ls) l) (first_fault a k schema instances ls) e in
      let here = faultless (link_names ls) l none.0 in
      let rest = all_lead ls none.1 in
      ((here.0, rest.0), (here.1, rest.1))

untold : (o : Option LinkFault) → told o ≡ None → o ≡ None
untold None e = refl
untold (Some fault) e = cc

-- ---- models that are seen

-- one is valid, and stands at its key
pub seen_valid : (r : Plain) (c : Text) (k : Key) (m : Model) → model_at r c k ≡ Some m → IsValid r → IsValidModel r.schemas r.partners m × (row_key m ≡ k)
seen_valid r c k m seen valid = (
  all_found (IsValidModel r.schemas r.partners) (λ x. is_row k x && sees r.groups c x) r.models m seen valid.models,
  key_at k m (and_parts (is_row k m) (sees r.groups c m) (found_at (λ x. is_row k x && sees r.groups c x) r.models m seen)).0,
)

-- its key is a partner's name and a name
key_valid : (r : Plain) (c : Text) (k : Key) → is_some (held (model_at r c k)) ≡ true → IsValid r → (has_text r.partners k.owner ≡ true) × (is_name k.name ≡ true)
key_valid r c k there valid = by (model_at r c k) refl there
  where
    by : (o : Option Model) → model_at r c k ≡ o → is_some (held o) ≡ true → (has_text r.partners k.owner ≡ true) × (is_name k.name ≡ true)
    by None seen e = cc
    by (Some m) seen e =
        let old = seen_valid r c k m seen valid in
        (subst (λ (j : Key). has_text r.partners j.owner ≡ true) old.1 old.0.row.owner, subst (λ (j : Key). is_name j.name ≡ true) old.1 old.0.row.name)

-- ---- the links of a put

each_valid : (r : Plain) (c : Text) (k : Key) (schema : Text) (x : Content) → IsValid r → (ls : List Link) → AllByRecursion IsNumbered ls → AllByRecursion (Leads (asked r c) k schema (names x.instances)) ls → AllByRecursion (IsValidLink r.partners k x) ls
each_valid r c k schema x valid [] numbers lead = tt
each_valid r c k schema x valid (l ∷ ls) numbers lead =
    let here = lead.0 in
    let target = key_valid r c (target_model l) here.seen valid in
    (record { free = here.free; target = numbers.0.1; owner = target.0; model = target.1; other = here.other }, each_valid r c k schema x valid ls numbers.1 lead.1)

-- links, in order, that a model of this key may have with the content
pub record AreTaken (partners : List Text) (k : Key) (links : List Link) (x : Content) : Type 0 where
  pub order : IsAscending nat_cmp link_name (links_in_order links)
  pub each : AllByRecursion (IsValidLink partners k (linking links x)) (links_in_order links)
  pub named : AreWithin link_name max_name (links_in_order links)
  pub few : length (links_in_order links) ≤ max_links

pub links_taken : (r : Plain) (c : Text) (k : Key) (schema : Text) (links : List Link) (x : Content) → no_request links ≡ None → link_refusal (asked r c) k schema links x ≡ None → nat_lt max_links (length links) ≡ false → IsValid r
    → AreTaken r.partners k links x
links_taken r c k schema links x request fault few valid =
    let numbers = all-in_order link_name IsNumbered links (all_numbered links (is_so (list_all has_names links) refusal.BadRequest request)) in
    let first = first_fault (asked r c) k schema (names x.instances) (links_in_order links) in
    let lead = all_lead (asked r c) k schema (names x.instances) (links_in_order links) (untold first fault) in
    record {
      order = ordered link_name links lead.0;
      each = each_valid r c k schema (linking links x) valid (links_in_order links) numbers lead.1;
      named = all_each IsNumbered (λ (l : Link). l.name ≤ max_name) (λ l number. number.0) (links_in_order links) numbers;
      few = subst (λ n. n ≤ max_links) (sym (length-in_order link_name links)) (no_more max_links (length links) few);
    }
