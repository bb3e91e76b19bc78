-- Whom an instance uses, as rules see it and as requests do.
use Rattle.std.proofs.Common.{◌≡◌, ◌+◌, ℕ, Bool, true, false, ◌==◌, if◌then◌else◌, List, [], ◌∷◌, ◌++◌, map, filter, zip, refl, sym, ◌∙◌, ap}
use Rattle.std.proofs.lemmas.List.{map-append}
use Rattle.std.proofs.lemmas.List.Elements.{filter-append}
use Rattle.std.specs.List.{AllByRecursion, flat_map}
use Rattle.plain_data.specs.Numbers.{is_among}
use Rattle.ex_slots.specs.Slots.{Slot, slots}
use Rattle.ex_schemas.specs.Schemas.{Checked}
use Rattle.ex_layouts.specs.Entities.{entities_of, line_of}
use Rattle.name_tables.specs.Names.{named}
use Rattle.rp_content.specs.declared.instance.Instance as content
use Rattle.rp_value.specs.declared.value.Value.{Value}
use Rattle.rp_value.specs.declared.value.Value.TheVariants as v
use Rattle.rp_rows.specs.Contents as names
use Rattle.rp_population.specs.declared.roles.Role as asked
use Rattle.rp_population.specs.declared.roles.Role.TheVariants as a
use Rattle.rp_population.specs.Uses.{is_slot_of, references_in}
use Rattle.rp_code.specs.declared.role.Role.{Role}
use Rattle.rp_code.specs.declared.role.Role.TheVariants as r
use Rattle.rp_meaning.specs.Compiled as compiling
use Rattle.rp_meaning.specs.Compiled.{compiled}
use Rattle.rp_meaning.specs.CompiledNames.{inherited_rows}
use Rattle.rp_meaning.specs.Populations.{Instance, Stored}
use Rattle.rp_meaning.specs.Reading as reading
use Rattle.rp_meaning.specs.Uses as positions
use Rattle.rp_meaning.specs.Uses.{Use, User, is_in, places_among, same_attribute, user, uses_at, uses_from, uses_of}
use Rattle.rp_positions.specs.Positions.{positioned}
use Rattle.rp_use_laws.proofs.Lists.{each_by}
use Rattle.rp_use_laws.proofs.Referring.{moved, names-Indet, refers-Indet}
use Rattle.rp_use_laws.proofs.Slots.{IsSlot, all_slots, attributes_are, derived_slot, named_slot}
use Rattle.rp_use_laws.specs.Schemas.{IsBound}
use Rattle.rp_use_laws.specs.Uses.{AllBoth, IsUnset, entities_in}

-- what the instance at a place refers to in a role by an attribute
abbrev pub held_in : Role → ℕ → Instance → Stored → List ℕ
held_in role n i x = if is_in role (user n i x) then positions.references x.written else []

-- ---- the uses of one place

module _ (role : Role) (place : ℕ) where
  abbrev is_use : Use → Bool
  is_use u = u.0 == place

  abbrev who : Use → User
  who u = u.1

  abbrev stands : User → ℕ
  stands u = u.place

  -- the places of its users
  abbrev pub told : List Use → List ℕ
  told us = places_among role (uses_at place us)

  told_parts : (us vs : List Use) → told (us ++ vs) ≡ told us ++ told vs
  told_parts us vs =
      ap (λ l. map stands (filter (is_in role) (map who l))) (filter-append is_use us vs)
      ∙ ap (λ l. map stands (filter (is_in role) l)) (map-append who (filter is_use us) (filter is_use vs))
      ∙ ap (map stands) (filter-append (is_in role) (map who (filter is_use us)) (map who (filter is_use vs)))
      ∙ map-append stands (filter (is_in role) (map who (filter is_use us))) (filter (is_in role) (map who (filter is_use vs)))

  abbrev pub at_place : List ℕ → List ℕ
  at_place = filter (λ used. used == place)

  abbrev used_by : User → List ℕ → List Use
  used_by u names = map (λ used. (used, u)) names

  told_user : (u : User) (names : List ℕ) (t : Bool) → is_in role u ≡ t → told (used_by u names) ≡ map (λ used. u.place) (at_place (if t then names else []))
  told_user u [] true is = refl
  told_user u [] false is = refl
  told_user u (n ∷ ns) true is = by (n == place) (told_user u ns true is)
    where
      by : (b : Bool) → told (used_by u ns) ≡ map (λ used. u.place) (at_place ns)
          → map stands (filter (is_in role) (map who (if b then (n, u) ∷ filter is_use (used_by u ns) else filter is_use (used_by u ns)))) ≡ map (λ used. u.place) (if b then n ∷ at_place ns else at_place ns)
      by true rest = rw is (ap (λ l. u.place ∷ l) rest)
      by false rest = rest
  told_user u (n ∷ ns) false is = by (n == place) (told_user u ns false is)
    where
      by : (b : Bool) → told (used_by u ns) ≡ [] → map stands (filter (is_in role) (map who (if b then (n, u) ∷ filter is_use (used_by u ns) else filter is_use (used_by u ns)))) ≡ []
      by true rest = rw is rest
      by false rest = rest

  told_values : (n : ℕ) (i : Instance) (sts : List Stored) → told (flat_map (uses_of n i) sts) ≡ map (λ used. n) (at_place (flat_map (held_in role n i) sts))
  told_values n i [] = refl
  told_values n i (x ∷ sts) =
      told_parts (uses_of n i x) (flat_map (uses_of n i) sts)
      ∙ ap (λ l. l ++ told (flat_map (uses_of n i) sts)) (told_user (user n i x) (positions.references x.written) (is_in role (user n i x)) refl)
      ∙ ap (λ l. map (λ used. n) (at_place (held_in role n i x)) ++ l) (told_values n i sts)
      ∙ sym (map-append (λ used. n) (at_place (held_in role n i x)) (at_place (flat_map (held_in role n i) sts)))
      ∙ ap (map (λ used. n)) (sym (filter-append (λ used. used == place) (held_in role n i x) (flat_map (held_in role n i) sts)))

  abbrev pub told_from : ℕ → List Instance → List ℕ
  told_from n [] = []
  told_from n (i ∷ is) = map (λ used. n) (at_place (flat_map (held_in role n i) i.values)) ++ told_from (n + 1) is

  pub all_told : (n : ℕ) (is : List Instance) → told (uses_from n is) ≡ told_from n is
  unfolding uses_from
  all_told n [] = refl
  all_told n (i ∷ is) =
      told_parts (flat_map (uses_of n i) i.values) (uses_from (n + 1) is)
      ∙ ap (λ l. l ++ told (uses_from (n + 1) is)) (told_values n i i.values)
      ∙ ap (λ l. map (λ used. n) (at_place (flat_map (held_in role n i) i.values)) ++ l) (all_told (n + 1) is)

-- ---- what one instance refers to

module _ (schema : Checked) (count : ℕ) (position : ℕ → ℕ) (all : List ℕ) where
  written_is : (s : Slot) → IsSlot schema all s → (w : Value) → IsUnset s w → positions.references (reading.written_as (compiled schema) all s.place (positioned position w)) ≡ map position (names.references w)
  written_is s slot w unset = by (reading.is_derived (compiled schema) all s.place) refl
    where
      by : (t : Bool) → reading.is_derived (compiled schema) all s.place ≡ t → positions.references (if t then v.Indet else positioned position w) ≡ map position (names.references w)
      by true is =
          refers-Indet ∙ ap (map position) (sym names-Indet)
          ∙ ap (λ x. map position (names.references x)) (sym (unset (derived_slot schema all s slot is)))
      by false is = moved position w

  abbrev stored_of : List Slot → List Value → List Stored
  stored_of ss ws = map (λ p. reading.stored_as (compiled schema) count all p.0 p.1) (zip (map (λ (s : Slot). s.place) ss) (map (positioned position) ws))

  module _ (role : Role) (n : ℕ) (vs : List Value) (test : Slot → Bool) where
    abbrev this : Instance
    this = reading.instance_of (compiled schema) count all vs

    -- an attribute is in the role
    abbrev IsTest : Slot → Type 0
    IsTest s = is_in role (record { place = n; entities = all; attribute = s.place }) ≡ test s

    abbrev tested : List Slot → List Value → List Value
    tested ss ws = map (λ x. x.1) (filter (λ x. test x.0) (zip ss ws))

    held_are : (ss : List Slot) (ws : List Value) → AllByRecursion (IsSlot schema all) ss → AllByRecursion IsTest ss → AllBoth IsUnset ss ws
        → flat_map (held_in role n this) (stored_of ss ws) ≡ map position (flat_map names.references (tested ss ws))
    held_are [] [] are tests unset = refl
    held_are [] (w ∷ ws) are tests unset = absurd unset
    held_are (s ∷ ss) [] are tests unset = absurd unset
    held_are (s ∷ ss) (w ∷ ws) are tests unset =
        ap (λ t. (if t then positions.references (reading.written_as (compiled schema) all s.place (positioned position w)) else []) ++ flat_map (held_in role n this) (stored_of ss ws)) tests.0
        ∙ by (held_are ss ws are.1 tests.1 unset.1) (test s)
      where
        by : flat_map (held_in role n this) (stored_of ss ws) ≡ map position (flat_map names.references (tested ss ws)) → (t : Bool) → (if t then positions.references (reading.written_as (compiled schema) all s.place (positioned position w)) else []) ++ flat_map (held_in role n this) (stored_of ss ws)
            ≡ map position (flat_map names.references (map (λ x. x.1) (if t then (s, w) ∷ filter (λ x. test x.0) (zip ss ws) else filter (λ x. test x.0) (zip ss ws))))
        by rest true =
            ap (λ l. l ++ flat_map (held_in role n this) (stored_of ss ws)) (written_is s are.0 w unset.0)
            ∙ ap (λ l. map position (names.references w) ++ l) rest
            ∙ sym (map-append position (names.references w) (flat_map names.references (tested ss ws)))
        by rest false = rest

-- ---- in the roles that are asked for

-- the role as rules have it
abbrev pub role_as : Checked → asked.Role → Role
role_as schema a.Every = r.Every
role_as schema (a.Of number name) = r.Of number (named name (inherited_rows (entities_in schema) (compiling.supertypes schema.named.schema) number))

all_of : {X Y : Type 0} (R : X → Y → Type 0) (xs : List X) (ys : List Y) → AllBoth R xs ys → map (λ p. p.1) (filter (λ p. true) (zip xs ys)) ≡ ys
all_of R [] [] both = refl
all_of R [] (y ∷ ys) both = absurd both
all_of R (x ∷ xs) [] both = absurd both
all_of R (x ∷ xs) (y ∷ ys) both = ap (λ l. y ∷ l) (all_of R xs ys both.1)

none_of : {X : Type 0} (xs : List X) → filter (λ x. false) xs ≡ []
none_of [] = refl
none_of (x ∷ xs) = none_of xs

module _ (schema : Checked) (bound : IsBound schema.named) (count : ℕ) (position : ℕ → ℕ) (i : content.Instance) (n : ℕ) where
  abbrev all : List ℕ
  all = entities_of schema i.entities

  abbrev pub seen : Instance
  seen = reading.instance_of (compiled schema) count all (map (positioned position) i.values)

  abbrev own : List Slot
  own = slots (entities_in schema) all

  seen_values : seen.values ≡ stored_of schema count position all own i.values
  seen_values = ap (λ l. map (λ p. reading.stored_as (compiled schema) count all p.0 p.1) (zip l (map (positioned position) i.values))) (attributes_are schema all)

  by_test : (role : Role) (test : Slot → Bool) → ((s : Slot) → IsSlot schema all s → is_in role (record { place = n; entities = all; attribute = s.place }) ≡ test s) → AllBoth IsUnset own i.values
      → flat_map (held_in role n seen) seen.values ≡ map position (flat_map names.references (map (λ x. x.1) (filter (λ x. test x.0) (zip own i.values))))
  by_test role test is unset =
      ap (flat_map (held_in role n seen)) seen_values
      ∙ held_are schema count position all role n (map (positioned position) i.values) test own i.values (all_slots schema all)
      (each_by (IsSlot schema all) (IsTest schema count position all role n (map (positioned position) i.values) test) is own (all_slots schema all)) unset

  -- in a role it refers to the positions of the names that it refers to there
  pub refers : (taken : asked.Role) → AllBoth IsUnset own i.values → flat_map (held_in (role_as schema taken) n seen) seen.values ≡ map position (references_in schema taken i)
  refers a.Every unset =
      by_test r.Every (λ s. true) (λ s slot. refl) unset
      ∙ ap (λ l. map position (flat_map names.references l)) (all_of IsUnset own i.values unset)
  refers (a.Of number name) unset = by (is_among all number) refl
    where
      by : (t : Bool) → is_among all number ≡ t → flat_map (held_in (role_as schema (a.Of number name)) n seen) seen.values
          ≡ map position (flat_map names.references (if t then map (λ x. x.1) (filter (λ x. is_slot_of (line_of schema number) name x.0) (zip own i.values)) else []))
      by true is = by_test (role_as schema (a.Of number name)) (is_slot_of (line_of schema number) name) (λ s slot. rw is (named_slot schema bound all s slot number name)) unset
      by false is =
          by_test (role_as schema (a.Of number name)) (λ s. false) (λ s slot. rw is refl) unset
          ∙ ap (λ l. map position (flat_map names.references (map (λ x. x.1) l))) (none_of (zip own i.values))
