-- Rules have the instances of an entity that a request returns.
use Rattle.std.proofs.Common.{◌≡◌, ◌≤◌, ◌+◌, ℕ, zero, suc, Bool, true, false, if◌then◌else◌, List, [], ◌∷◌, map, filter, Option, Some, None, option_map, slice_get, refl, sym, ◌∙◌, ap, subst, arith}
use Rattle.std.proofs.lemmas.Slice.Eq.{bytes_eq-Decides}
use Rattle.std.specs.List.{AllByRecursion}
use Rattle.std.specs.Str.{bytes_eq, str_to_ascii_uppercase}
use Rattle.ex_resolve.specs.Proved.{count}
use Rattle.ex_schemas.specs.Schemas.{Checked, entity_names}
use Rattle.ex_layouts.specs.Entities.{entity_spelled}
use Rattle.name_tables.specs.Names.{place_of}
use Rattle.rp_rows.specs.Rows.{GroupRow, Model}
use Rattle.rp_rows.specs.Sight.{counts}
use Rattle.rp_population.specs.declared.place.Place.{Place}
use Rattle.rp_population.specs.Entities as asked
use Rattle.rp_population.specs.Populations.{Counted, Placed, places, population}
use Rattle.rp_meaning.specs.Compiled.{compiled}
use Rattle.rp_meaning.specs.Populations.{Instance, instances, places_from, places_of}
use Rattle.rp_meaning.specs.Report.{of_instance}
use Rattle.rp_plain.proofs.Counted.{all_counted, counted_ascending}
use Rattle.rp_plain.specs.declared.messages.Refusal.{Refusal}
use Rattle.rp_plain.specs.declared.messages.Reply.TheVariants as reply
use Rattle.rp_plain.specs.Meaning.{Meaning, first_some, is_no_partner, key_fault, unseen}
use Rattle.rp_plain.specs.Plain.{Plain, group_at}
use Rattle.rp_plain.specs.Populations.{extent as request_extent, extent_by, group_schema}
use Rattle.rp_plain.specs.Readers.{as_counted, asked as asked_by, counted_in}
use Rattle.rp_plain.specs.Step.{outcome}
use Rattle.rp_plain.specs.Valid.{IsValid, IsValidModel}
use Rattle.rp_positions.specs.Positions.{AreInOrder, IsSearchable, place_position}
use Rattle.rp_positions.specs.Seen.{all_seen_by, seen_by}
use Rattle.rp_use_laws.proofs.Holding.{group_holds}
use Rattle.rp_use_laws.proofs.Lists.{each_by}
use Rattle.rp_use_laws.proofs.Naming.{StandFrom, all_stand}
use Rattle.rp_use_laws.proofs.Populations.{InstancesAscend, population_apart}
use Rattle.rp_use_laws.proofs.Roles.{entities_once}
use Rattle.rp_use_laws.specs.Extents.{HasExtent, HasName, ValidExtentsAgree, set_of}
use Rattle.rp_use_laws.specs.Schemas.{IsBound}
use Rattle.rp_use_laws.specs.Uses.{entities_in}

-- ---- the entity of a name

counted : (name n : List ℕ) (ns : List (List ℕ)) (t : Bool) → bytes_eq n name ≡ t → count name (n ∷ ns) ≡ (if t then suc (count name ns) else count name ns)
counted name n ns true is = rw is refl
counted name n ns false is = rw is refl

is_counted : (name : List ℕ) (ns : List (List ℕ)) (k : ℕ) → slice_get ns k ≡ Some name → 1 ≤ count name ns
is_counted name [] k e = cc
is_counted name (n ∷ ns) zero e =
    let same : n ≡ name = cc in
    let one = counted name n ns true ((bytes_eq-Decides n name).1 same) in
    omega arith
is_counted name (n ∷ ns) (suc k) e = by (bytes_eq n name) refl (is_counted name ns k e)
  where
    by : (t : Bool) → bytes_eq n name ≡ t → 1 ≤ count name ns → 1 ≤ count name (n ∷ ns)
    by true is others = let one = counted name n ns true is in omega arith
    by false is others = let none = counted name n ns false is in omega arith

-- a name that stands once stands where it is found
placed_once : (name : List ℕ) (ns : List (List ℕ)) (k : ℕ) → count name ns ≤ 1 → slice_get ns k ≡ Some name → place_of name ns ≡ Some k
placed_once name [] k once e = cc
placed_once name (n ∷ ns) zero once e = let same : n ≡ name = cc in rw ((bytes_eq-Decides n name).1 same) refl
placed_once name (n ∷ ns) (suc k) once e = by (bytes_eq n name) refl (λ few. placed_once name ns k few e)
  where
    by : (t : Bool) → bytes_eq n name ≡ t → (count name ns ≤ 1 → place_of name ns ≡ Some k) → place_of name (n ∷ ns) ≡ Some (suc k)
    by true is later =
        let one = counted name n ns true is in
        let others = is_counted name ns k e in
        absurd (omega arith)
    by false is later =
        let none = counted name n ns false is in
        rw is (ap (option_map suc) (later (omega arith)))

-- ---- in one population

module _ (schema : Checked) (xs : List Placed) (entity : ℕ) where
  abbrev seen : Placed → Instance
  seen = seen_by (compiled schema) schema xs

  -- the positions of an entity's instances, as rules count them
  all_places : (n : ℕ) (ys : List Placed) → StandFrom xs n ys → places_from entity n (map seen ys) ≡ map (place_position xs) (places (filter (λ y. asked.is_of schema entity y.instance) ys))
  unfolding places_from
  all_places n [] stand = refl
  all_places n (y ∷ ys) stand = by (asked.is_of schema entity y.instance) (all_places (n + 1) ys stand.1)
    where
      later : List Placed
      later = filter (λ y. asked.is_of schema entity y.instance) ys

      by : (t : Bool) → places_from entity (n + 1) (map seen ys) ≡ map (place_position xs) (places later)
          → (if t then n ∷ places_from entity (n + 1) (map seen ys) else places_from entity (n + 1) (map seen ys)) ≡ map (place_position xs) (places (if t then y ∷ later else later))
      by true rest = ap (λ k. k ∷ places_from entity (n + 1) (map seen ys)) (sym stand.0) ∙ ap (λ l. place_position xs y.place ∷ l) rest
      by false rest = rest

  abbrev positions : List ℕ
  positions = places_of (all_seen_by (compiled schema) schema xs) entity

  has_extent : (found : List Place) → positions ≡ map (place_position xs) found → HasExtent schema xs entity found
  has_extent found are = record {
    given = ap instances are;
    value = λ below. ap (λ l. set_of (instances l)) are;
    tried = λ rules. ap (map (of_instance (compiled schema) (all_seen_by (compiled schema) schema xs) rules)) are;
  }

  pub spelled : IsBound schema.named → (name : List ℕ) → HasName schema entity name → entity_spelled schema name ≡ Some entity
  spelled bound name is = placed_once (str_to_ascii_uppercase name) (entity_names (entities_in schema)) entity (entities_once schema.named.schema bound.once (str_to_ascii_uppercase name)) is

-- rules have the instances that a request by the entity's name returns
abbrev AllExtentsAgree : Checked → Type 0
AllExtentsAgree schema = (ms : List Counted) → AreInOrder ms → (entity : ℕ) (name : List ℕ) → HasName schema entity name
    → HasExtent schema (population ms) entity (places (asked.extent schema name (population ms)))

pub extents_agree : (schema : Checked) → IsBound schema.named → AllExtentsAgree schema
extents_agree schema bound ms order entity name is =
    let xs = population ms in
    let apart = population_apart ms order.models (each_by (λ (m : Counted). IsSearchable m.content) InstancesAscend (λ m searchable. searchable.instances) ms order.contents) in
    has_extent schema xs entity (places (asked.extent schema name xs))
    (all_places schema xs entity 0 xs (all_stand xs apart)
    ∙ ap (λ o. map (place_position xs) (places (asked.extent_of schema o xs))) (sym (spelled schema xs entity bound name is)))

-- ---- in a valid repository

searchable_models : (schemas : List Checked) (partners : List (List ℕ)) (g : GroupRow) (ms : List Model) → AllByRecursion (IsValidModel schemas partners) ms
    → AllByRecursion (λ (m : Counted). IsSearchable m.content) (map as_counted (filter (λ m. counts m g) ms))
searchable_models schemas partners g ms valid =
    all_counted (λ (m : Counted). IsSearchable m.content) (λ m. counts m g) ms
    (each_by (IsValidModel schemas partners) (λ (m : Model). counts m g ≡ true → IsSearchable m.holds.content)
    (λ m is counted. record { instances = is.content.instances; links = is.content.links }) ms valid)

in_order : (r : Plain) → IsValid r → (g : Option GroupRow) → AreInOrder (counted_in r.models g)
in_order r valid None = record { models = tt; contents = tt }
in_order r valid (Some g) = record {
  models = counted_ascending (λ m. counts m g) r.models valid.order.models;
  contents = searchable_models r.schemas r.partners g r.models valid.models;
}

-- the reply if no test refuses the request
replied : (first second third : Option Refusal) (m : Meaning) (found : List Place) → (outcome m (first_some (first ∷ second ∷ third ∷ []))).reply ≡ reply.Extent found → m.reply ≡ reply.Extent found
replied (Some refusal) second third m found e = cc
replied None (Some refusal) third m found e = cc
replied None None (Some refusal) m found e = cc
replied None None None m found e = e

pub valid_extents_agree : (schemas : List Checked) → AllByRecursion (λ (schema : Checked). IsBound schema.named) schemas → ValidExtentsAgree schemas
valid_extents_agree schemas all r same valid c k name found told schema loaded entity is =
    let a = asked_by r c in
    let xs : List Placed = population (a.counted k) in
    let bound : IsBound schema.named = group_holds (λ (s : Checked). IsBound s.named) r schema (subst (AllByRecursion (λ (s : Checked). IsBound s.named)) (sym same) all) (group_at r c k) loaded in
    let said : reply.Extent (places (extent_by (group_schema r.schemas (a.listing k)) name xs)) ≡ reply.Extent found = replied (key_fault k) (is_no_partner a k.owner) (unseen (a.group_right k)) (request_extent a k name) found told in
    let given : places (extent_by (group_schema r.schemas (a.listing k)) name xs) ≡ found = cc in
    let here : places (asked.extent schema name xs) ≡ found = ap (λ o. places (extent_by o name xs)) (sym loaded) ∙ given in
    subst (HasExtent schema xs entity) here (extents_agree schema bound (counted_in r.models (group_at r c k)) (in_order r valid (group_at r c k)) entity name is)
