-- What holds of the population of a group of a valid repository.
use Rattle.std.proofs.Common.{◌≡◌, ℕ, Bool, true, false, not, ◌&&◌, if◌then◌else◌, List, [], ◌∷◌, map, filter, Option, Some, None, Ok, refl, sym, ◌∙◌, ap, subst}
use Rattle.std.proofs.lemmas.Bool.{and_parts}
use Rattle.std.proofs.lemmas.Slice.Eq.{bytes_eq-Decides}
use Rattle.std.specs.List.{AllByRecursion, find, list_all}
use Rattle.std.specs.Str.{bytes_eq}
use Rattle.plain_data.specs.Numbers.{is_among}
use Rattle.ex_schemas.specs.Schemas.{Checked}
use Rattle.p21_bind.specs.Origins.{IsSpelled}
use Rattle.p21_canonical.specs.Trees.{instance_tree}
use Rattle.p21_laws.specs.Schemas.{IsAccepted}
use Rattle.p21_mappings.specs.Instances.{instance}
use Rattle.p21_tree.specs.declared.instance.Instance as tree
use Rattle.rp_content.specs.declared.instance.Instance.{Instance}
use Rattle.rp_content.specs.declared.link.Link.{Link}
use Rattle.rp_rows.specs.Rows.{row_key, Model, GroupRow}
use Rattle.rp_rows.specs.Contents.{names}
use Rattle.rp_rows.specs.Sight.{counts, lists, may_group}
use Rattle.rp_plain.specs.declared.messages.Refusal.{Refusal}
use Rattle.rp_plain.specs.declared.messages.Refusal.TheVariants.{NoSuchInstance}
use Rattle.rp_plain.specs.declared.messages.Reply.TheVariants as reply
use Rattle.rp_plain.specs.Meaning.{Meaning, first_some, is_no_partner, key_fault, schema_name, schema_named, unseen, when}
use Rattle.rp_plain.specs.Plain.{Plain, group_at}
use Rattle.rp_plain.specs.Populations.{group_schema, users_by}
use Rattle.rp_plain.specs.Populations.{users as request_users}
use Rattle.rp_plain.specs.Readers.{as_counted, asked, counted_in, held}
use Rattle.rp_plain.specs.Step.{outcome}
use Rattle.rp_plain.specs.Valid.{IsValid, IsValidContent, IsValidLink, IsValidModel}
use Rattle.rp_population.specs.declared.place.Place.{Place}
use Rattle.rp_population.specs.Populations.{Placed, has_place, places, population}
use Rattle.rp_population.specs.Uses.{users}
use Rattle.rp_plain.proofs.Counted.{all_counted, counted_ascending}
use Rattle.rp_use_laws.proofs.Agreeing.{agree}
use Rattle.rp_use_laws.proofs.Lists.{each_by}
use Rattle.rp_use_laws.proofs.Read.{again_unset, was_read}
use Rattle.rp_use_laws.specs.Schemas.{IsBound}
use Rattle.rp_use_laws.specs.Uses.{AreSound, HasUsers, HasValues, IsSound, standing}
use Rattle.rp_use_laws.specs.ValidUses.{ValidUsersAgree}

-- what was read is read again of what is written of it
abbrev pub IsReadAgain : Checked → Type 0
IsReadAgain schema = (is_defined : ℕ → Bool) (stood : Bool) (x : tree.Instance) (i : Instance) → instance schema is_defined stood x ≡ Ok i → instance schema (λ n. true) false (instance_tree schema i) ≡ Ok i

-- a schema whose names are bound, and by which instances are read again
pub record IsTaken (schema : Checked) : Type 0 where
  pub bound : IsBound schema.named
  pub again : IsReadAgain schema

module _ (schema : Checked) (taken : IsTaken schema) where
  has_values : (i : Instance) → IsSpelled schema i → HasValues schema i
  has_values i spelled =
      let read = was_read schema i spelled in
      again_unset schema (λ n. true) i (taken.again read.0 read.1.0 read.1.1.0 i read.1.1.1)

  is_sound : (schemas : List Checked) (partners : List (List ℕ)) (m : Model) (valid : IsValidContent schemas partners (row_key m) m.holds) → valid.schema ≡ schema → IsSound schema (as_counted m)
  is_sound schemas partners m valid same = record {
    values = each_by (IsSpelled schema) (HasValues schema) has_values m.holds.content.instances (subst (λ s. AllByRecursion (IsSpelled s) m.holds.content.instances) same valid.spelled);
    instances = valid.instances;
    links = valid.links;
    free = each_by (IsValidLink partners (row_key m) m.holds.content) (λ (l : Link). is_among (names m.holds.content.instances) l.name ≡ false) (λ l is. is.free) m.holds.content.links valid.linked;
  }

  counted_sound : (schemas : List Checked) (partners : List (List ℕ)) (g : GroupRow) → schema_named schemas g.holds.schema ≡ Some schema
      → (m : Model) → IsValidModel schemas partners m → counts m g ≡ true → IsSound schema (as_counted m)
  counted_sound schemas partners g loaded m valid counted =
      let more = and_parts (lists (row_key m) g) (bytes_eq m.holds.schema g.holds.schema && may_group g.owner m) counted in
      let one : m.holds.schema ≡ g.holds.schema = (bytes_eq-Decides m.holds.schema g.holds.schema).0 (and_parts (bytes_eq m.holds.schema g.holds.schema) (may_group g.owner m) more.1).0 in
      let content = valid.content in
      let found : Some content.schema ≡ Some schema = sym content.loaded ∙ ap (schema_named schemas) one ∙ loaded in
      let same : content.schema ≡ schema = cc in
      is_sound schemas partners m content same

  -- ---- groups

  models_sound : (r : Plain) (g : GroupRow) → schema_named r.schemas g.holds.schema ≡ Some schema → (ms : List Model) → AllByRecursion (IsValidModel r.schemas r.partners) ms
      → AllByRecursion (IsSound schema) (map as_counted (filter (λ m. counts m g) ms))
  models_sound r g loaded ms valid =
      all_counted (IsSound schema) (λ m. counts m g) ms
      (each_by (IsValidModel r.schemas r.partners) (λ (m : Model). counts m g ≡ true → IsSound schema (as_counted m))
      (λ m is counted. counted_sound r.schemas r.partners g loaded m is counted) ms valid)

  of_group : (r : Plain) → IsValid r → (g : Option GroupRow) → group_schema r.schemas (held g) ≡ Some schema → AreSound schema (counted_in r.models g)
  of_group r valid None loaded = cc
  of_group r valid (Some g) loaded = record {
    order = counted_ascending (λ m. counts m g) r.models valid.order.models;
    models = models_sound r g loaded r.models valid.models;
  }

-- ---- repositories

module _ (P : Checked → Type 0) where
  -- a schema that is found is one of them
  found_holds : (test : Checked → Bool) (schemas : List Checked) (schema : Checked) → AllByRecursion P schemas → find test schemas ≡ Some schema → P schema
  found_holds test [] schema all found = cc
  found_holds test (x ∷ xs) schema all found = by (found_holds test xs schema all.1) (test x) found
    where
      by : (find test xs ≡ Some schema → P schema) → (t : Bool) → (if t then Some x else find test xs) ≡ Some schema → P schema
      by rest true e = let same : x ≡ schema = cc in subst P same all.0
      by rest false e = rest e

  -- and so is that of a group
  pub group_holds : (r : Plain) (schema : Checked) → AllByRecursion P r.schemas → (g : Option GroupRow) → group_schema r.schemas (held g) ≡ Some schema → P schema
  group_holds r schema all None loaded = cc
  group_holds r schema all (Some g) loaded = found_holds (λ s. bytes_eq g.holds.schema (schema_name s)) r.schemas schema all loaded

-- ---- replies

-- what is told where no test refuses it
replied : (first second third : Option Refusal) (there : Bool) (m : Meaning) (found : List Place)
    → (outcome m (first_some (first ∷ second ∷ third ∷ when (not there) NoSuchInstance ∷ []))).reply ≡ reply.Users found → (there ≡ true) × (m.reply ≡ reply.Users found)
replied (Some refusal) second third there m found e = cc
replied None (Some refusal) third there m found e = cc
replied None None (Some refusal) there m found e = cc
replied None None None true m found e = (refl, e)
replied None None None false m found e = cc

valid_agree : (schemas : List Checked) → AllByRecursion IsTaken schemas → ValidUsersAgree schemas
valid_agree schemas all r same valid c k p role found told schema loaded x at below =
    let a = asked r c in
    let xs : List Placed = population (a.counted k) in
    let taken = group_holds IsTaken r schema (subst (AllByRecursion IsTaken) (sym same) all) (group_at r c k) loaded in
    let both = replied (key_fault k) (is_no_partner a k.owner) (unseen (a.group_right k)) (has_place xs p) (request_users a k p role) found told in
    let said : reply.Users (places (users_by (group_schema r.schemas (a.listing k)) role p xs)) ≡ reply.Users found = both.1 in
    let given : places (users_by (group_schema r.schemas (a.listing k)) role p xs) ≡ found = cc in
    let here : places (users schema role p xs) ≡ found = ap (λ o. places (users_by o role p xs)) (sym loaded) ∙ given in
    subst (λ l. HasUsers schema xs below role x (standing schema xs l)) here
    (agree schema taken.bound (counted_in r.models (group_at r c k)) (of_group schema taken r valid (group_at r c k) loaded) p both.0 x at role below)

taken_each : (schemas : List Checked) → ((schema : Checked) → IsAccepted schema.named → IsReadAgain schema) → AllByRecursion (λ (schema : Checked). IsBound schema.named) schemas
    → AllByRecursion (λ (schema : Checked). IsAccepted schema.named) schemas → AllByRecursion IsTaken schemas
taken_each [] again bound accepted = tt
taken_each (s ∷ schemas) again bound accepted = (record { bound = bound.0; again = again s accepted.0 }, taken_each schemas again bound.1 accepted.1)

-- every name is defined
pub all_defined : (ns : List ℕ) → list_all (λ n. true) ns ≡ true
all_defined [] = refl
all_defined (n ∷ ns) = all_defined ns

pub of_repository : (schemas : List Checked) → ((schema : Checked) → IsAccepted schema.named → IsReadAgain schema) → AllByRecursion (λ (schema : Checked). IsBound schema.named) schemas
    → AllByRecursion (λ (schema : Checked). IsAccepted schema.named) schemas → ValidUsersAgree schemas
of_repository schemas again bound accepted = valid_agree schemas (taken_each schemas again bound accepted)
