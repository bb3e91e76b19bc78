-- USEDIN has the users that the request tells of.
use Rattle.std.proofs.Common.{◌≡◌, ◌+◌, ℕ, Bool, true, false, ◌&&◌, ◌||◌, ◌==◌, nat_lt, if◌then◌else◌, List, [], ◌∷◌, ◌++◌, length, map, filter, Option, Some, None, option_map, suc, refl, sym, ◌∙◌, ap, subst, arith}
use Rattle.std.proofs.lemmas.Bool.Decides.{nat_tests}
use Rattle.std.proofs.lemmas.List.{map-append}
use Rattle.std.proofs.lemmas.Slice.Eq.{bytes_eq-Decides}
use Rattle.std.specs.List.{AllByRecursion, find, flat_map, list_any, slice_split}
use Rattle.std.specs.Str.{bytes_eq}
use Rattle.plain_data.specs.Numbers.{is_among}
use Rattle.ex_named.specs.declared.reference.AttributePlace.{AttributePlace}
use Rattle.ex_schemas.specs.Schemas.{Checked, entity_names}
use Rattle.ex_layouts.specs.Entities.{entity_named}
use Rattle.name_tables.specs.Names.{named, place_of}
use Rattle.rp_value.specs.declared.value.Value.{Value}
use Rattle.rp_population.specs.declared.place.Place.{Place}
use Rattle.rp_population.specs.declared.roles.Role as asked
use Rattle.rp_population.specs.declared.roles.Role.TheVariants as a
use Rattle.rp_population.specs.Populations.{Counted, Placed, has_place, is_at, places, population, stands_for}
use Rattle.rp_population.specs.Uses.{as_user, is_full_stop, references_in, role_of, role_of_parts, users, users_in}
use Rattle.rp_meaning.specs.declared.body.Body.{Body}
use Rattle.rp_meaning.specs.Computations.{Computation}
use Rattle.rp_code.specs.declared.role.NamedRole.{NamedRole}
use Rattle.rp_code.specs.declared.role.Role.{Role}
use Rattle.rp_code.specs.declared.role.Role.TheVariants as r
use Rattle.rp_meaning.specs.Attributes.{role_named}
use Rattle.rp_meaning.specs.Compiled as compiling
use Rattle.rp_meaning.specs.Compiled.{compiled}
use Rattle.rp_meaning.specs.CompiledNames.{inherited_rows}
use Rattle.rp_meaning.specs.Expressions as expressions
use Rattle.rp_meaning.specs.Expressions.{used_in_by, used_in_role}
use Rattle.rp_meaning.specs.Populations.{Instance, instances}
use Rattle.rp_meaning.specs.Bare.{place_of as place_in}
use Rattle.rp_meaning.specs.Report.{world}
use Rattle.rp_meaning.specs.Uses.{User, is_in, places_among, uses_at, uses_from, user_places}
use Rattle.rp_positions.specs.Positions.{place_position, position_of}
use Rattle.rp_positions.specs.Seen.{all_seen_by, seen_by}
use Rattle.rp_use_laws.proofs.Lists.{each_by, given}
use Rattle.rp_use_laws.proofs.Naming.{AreApart, DenotesOnce, IsFree, StandFrom, all_stand, once, place_same, position_is}
use Rattle.rp_use_laws.proofs.Populations.{InstancesAscend, IsGood, all_good, population_apart}
use Rattle.rp_use_laws.proofs.NoRoles.{none_named}
use Rattle.rp_use_laws.proofs.Roles.{entities_once, plain_name, role_found}
use Rattle.rp_use_laws.proofs.Slots.{length_map}
use Rattle.rp_use_laws.proofs.Using.{all_told, held_in, refers, role_as, told_from}
use Rattle.rp_use_laws.specs.Schemas.{IsBound}
use Rattle.rp_use_laws.specs.Uses.{AllUsersAgree, AreSound, HasUsers, IsSound, bag_of, entities_in, standing}
use Rattle.rp_use_laws.specs.Uses as law

-- ---- what stands at a place is free to be named

free_at : (x : Placed) (p : Place) (ys : List Placed) → AllByRecursion (λ (y : Placed). IsFree x y.place) ys → has_place ys p ≡ true → IsFree x p
free_at x p [] free there = cc
free_at x p (y ∷ ys) free there = by (free_at x p ys free.1) (is_at p y) refl there
  where
    by : (has_place ys p ≡ true → IsFree x p) → (t : Bool) → is_at p y ≡ t → (t || has_place ys p) ≡ true → IsFree x p
    by rest true at e = subst (IsFree x) (place_same p y.place at) free.0
    by rest false at e = rest e

position_within : (p : Place) (xs : List Placed) → has_place xs p ≡ true → nat_lt (place_position xs p) (length xs) ≡ true
unfolding place_position
position_within p [] there = cc
position_within p (x ∷ xs) there = by (position_within p xs) (is_at p x) there
  where
    by : (has_place xs p ≡ true → nat_lt (place_position xs p) (length xs) ≡ true) → (t : Bool) → (t || has_place xs p) ≡ true → nat_lt (if t then 0 else suc (place_position xs p)) (suc (length xs)) ≡ true
    by rest true e = grind (arith, nat_tests)
    by rest false e = let less = rest e in grind (arith, nat_tests)

-- ---- one after the other

moved_uses : (position : ℕ → ℕ) (n place : ℕ) (names : List ℕ) → map (λ used. n) (filter (λ used. used == place) (map position names)) ≡ map (λ name. n) (filter (λ name. position name == place) names)
moved_uses position n place [] = refl
moved_uses position n place (m ∷ names) = by (position m == place) (moved_uses position n place names)
  where
    by : (t : Bool) → map (λ used. n) (filter (λ used. used == place) (map position names)) ≡ map (λ name. n) (filter (λ name. position name == place) names)
        → map (λ used. n) (if t then position m ∷ filter (λ used. used == place) (map position names) else filter (λ used. used == place) (map position names))
        ≡ map (λ name. n) (if t then m ∷ filter (λ name. position name == place) names else filter (λ name. position name == place) names)
    by true rest = ap (λ l. n ∷ l) rest
    by false rest = rest

copies : (xs : List Placed) (y : Placed) (n : ℕ) → place_position xs y.place ≡ n → (names : List ℕ) → map (λ name. n) names ≡ map (place_position xs) (places (map (λ name. y) names))
copies xs y n at [] = refl
copies xs y n at (m ∷ names) = ap (λ k. k ∷ map (λ name. n) names) (sym at) ∙ ap (λ l. place_position xs y.place ∷ l) (copies xs y n at names)

module _ (schema : Checked) (bound : IsBound schema.named) (xs : List Placed) (p : Place) (there : has_place xs p ≡ true) (taken : asked.Role) where
  abbrev place : ℕ
  place = place_position xs p

  abbrev seen : Placed → Instance
  seen = seen_by (compiled schema) schema xs

  denotes : (x : Placed) → IsGood schema xs x → (name : ℕ) (ys : List Placed) → AllByRecursion (λ (y : Placed). IsFree x y.place) ys → DenotesOnce x name p ys
  denotes x good name [] free = tt
  denotes x good name (y ∷ ys) free =
      ((λ apart stands. once x name p y.place (free_at x p xs good.free there) free.0 good.links apart stands), denotes x good name ys free.1)

  abbrev found_by : Placed → List ℕ
  found_by y = filter (stands_for p y) (references_in schema taken y.instance)

  one_user : (y : Placed) → IsGood schema xs y → (n : ℕ) → place_position xs y.place ≡ n
      → map (λ used. n) (filter (λ used. used == place) (flat_map (held_in (role_as schema taken) n (seen y)) (seen y).values)) ≡ map (place_position xs) (places (as_user schema taken p y))
  one_user y good n at =
      ap (λ l. map (λ used. n) (filter (λ used. used == place) l)) (refers schema bound (length xs) (position_of xs y) y.instance n taken good.values)
      ∙ moved_uses (position_of xs y) n place (references_in schema taken y.instance)
      ∙ ap (λ test. map (λ name. n) (filter test (references_in schema taken y.instance))) (λ i name. position_is y name p xs (denotes y good name xs good.free) there i)
      ∙ copies xs y n at (found_by y)

  all_users : (n : ℕ) (ys : List Placed) → StandFrom xs n ys → AllByRecursion (IsGood schema xs) ys
      → told_from (role_as schema taken) place n (map seen ys) ≡ map (place_position xs) (places (flat_map (as_user schema taken p) ys))
  all_users n [] stand good = refl
  all_users n (y ∷ ys) stand good =
      ap (λ l. l ++ told_from (role_as schema taken) place (n + 1) (map seen ys)) (one_user y good.0 n stand.0)
      ∙ ap (λ l. map (place_position xs) (places (as_user schema taken p y)) ++ l) (all_users (n + 1) ys stand.1 good.1)
      ∙ sym (map-append (place_position xs) (places (as_user schema taken p y)) (places (flat_map (as_user schema taken p) ys)))
      ∙ ap (map (place_position xs)) (sym (map-append (λ (x : Placed). x.place) (as_user schema taken p y) (flat_map (as_user schema taken p) ys)))

  by_role : AreApart xs → AllByRecursion (IsGood schema xs) xs
      → user_places (all_seen_by (compiled schema) schema xs) (role_as schema taken) place ≡ map (place_position xs) (places (flat_map (as_user schema taken p) xs))
  by_role apart good =
      ap (λ t. if t then places_among (role_as schema taken) (uses_at place (uses_from 0 (map seen xs))) else [])
      (ap (nat_lt place) (length_map seen xs) ∙ position_within p xs there)
      ∙ all_told (role_as schema taken) place 0 (map seen xs)
      ∙ all_users 0 xs (all_stand xs apart) good

-- ---- by the name of the role

nobody : (number : ℕ) (us : List User) → places_among (r.Of number []) us ≡ []
nobody number [] = refl
nobody number (u ∷ us) = by (is_among u.entities number) (nobody number us)
  where
    by : (t : Bool) → places_among (r.Of number []) us ≡ [] → map (λ (v : User). v.place) (if t && false then u ∷ filter (is_in (r.Of number [])) us else filter (is_in (r.Of number [])) us) ≡ []
    by true rest = rest
    by false rest = rest

nobody_in : (population : List Instance) (number place : ℕ) → user_places population (r.Of number []) place ≡ []
nobody_in population number place = by (nat_lt place (length population))
  where
    by : (t : Bool) → (if t then places_among (r.Of number []) (uses_at place (uses_from 0 population)) else []) ≡ []
    by true = nobody number (uses_at place (uses_from 0 population))
    by false = refl

abbrev Rows : Type 0
Rows = List (List ℕ × AttributePlace)

no_rows : (name : List ℕ) (rows : Rows) → list_any (λ x. bytes_eq x.0 name) rows ≡ false → named name rows ≡ []
no_rows name [] none = refl
no_rows name (x ∷ rows) none = by (no_rows name rows) (bytes_eq x.0 name) none
  where
    by : (list_any (λ x. bytes_eq x.0 name) rows ≡ false → named name rows ≡ []) → (t : Bool) → (t || list_any (λ x. bytes_eq x.0 name) rows) ≡ false
        → map (λ x. x.1) (if t then x ∷ filter (λ x. bytes_eq x.0 name) rows else filter (λ x. bytes_eq x.0 name) rows) ≡ []
    by rest true e = cc
    by rest false e = rest e

module _ (below : Body → Computation Value) (schema : Checked) (bound : IsBound schema.named) (population : List Instance) (place : ℕ) where
  -- what USEDIN has in a role, if there is one
  abbrev used_by : Option Role → List Value
  used_by role = expressions.users_in (world (compiled schema) population) below role place

  abbrev used_as : asked.Role → List Value
  used_as taken = instances (user_places population (role_as schema taken) place)

  abbrev schema_name : List ℕ
  schema_name = schema.named.schema.name.text

  abbrev rows_in : ℕ → Rows
  rows_in number = inherited_rows (entities_in schema) (compiling.supertypes schema.named.schema) number

  roles_are : (compiled schema).roles ≡ compiling.roles schema.named.schema
  unfolding compiled
  roles_are = refl

  of_answer : (text name : List ℕ) (number : ℕ) (t : Bool) → list_any (λ x. bytes_eq x.0 name) (rows_in number) ≡ t
      → used_by (option_map (λ (x : NamedRole). x.role) (if t then Some (record { name = text; role = r.Of number (named name (rows_in number)) }) else None)) ≡ used_as (a.Of number name)
  of_answer text name number true is = refl
  of_answer text name number false is =
      sym (ap (λ l. instances (user_places population (r.Of number l) place)) (no_rows name (rows_in number) is) ∙ ap instances (nobody_in population number place))

  of_three : (text second third : List ℕ) (number : ℕ) → slice_split is_full_stop text ≡ schema_name ∷ second ∷ third ∷ [] → place_of second (entity_names (entities_in schema)) ≡ Some number
      → used_by (option_map (λ (x : NamedRole). x.role) (find (λ (x : NamedRole). bytes_eq x.name text) (compiled schema).roles)) ≡ used_as (a.Of number third)
  of_three text second third number split there =
      ap (λ l. used_by (option_map (λ (x : NamedRole). x.role) (find (λ (x : NamedRole). bytes_eq x.name text) l))) roles_are
      ∙ ap (λ o. used_by (option_map (λ (x : NamedRole). x.role) o))
      (role_found text schema_name second third split (entities_in schema) (compiling.supertypes schema.named.schema) (plain_name schema_name bound.identified.schema) number bound.identified.entities (entities_once schema.named.schema bound.once second) there)
      ∙ of_answer text third number (list_any (λ x. bytes_eq x.0 third) (rows_in number)) refl

  by_schema : (text first second third : List ℕ) (taken : asked.Role) → slice_split is_full_stop text ≡ first ∷ second ∷ third ∷ [] → (t : Bool) → bytes_eq first schema_name ≡ t
      → (if t then option_map (λ number. a.Of number third) (entity_named schema second) else None) ≡ Some taken
      → used_by (option_map (λ (x : NamedRole). x.role) (find (λ (x : NamedRole). bytes_eq x.name text) (compiled schema).roles)) ≡ used_as taken
  by_schema text first second third taken split true is e =
      let found = given (λ number. a.Of number third) (entity_named schema second) taken e in
      let same : first ≡ schema_name = (bytes_eq-Decides first schema_name).0 is in
      of_three text second third found.0 (split ∙ ap (λ l. l ∷ second ∷ third ∷ []) same) found.1.0 ∙ ap used_as found.1.1
  by_schema text first second third taken split false is e = cc

  by_parts : (text : List ℕ) (taken : asked.Role) (parts : List (List ℕ)) → slice_split is_full_stop text ≡ parts → role_of_parts schema parts ≡ Some taken
      → used_by (option_map (λ (x : NamedRole). x.role) (find (λ (x : NamedRole). bytes_eq x.name text) (compiled schema).roles)) ≡ used_as taken
  by_parts text taken [] split e = cc
  by_parts text taken (first ∷ []) split e = cc
  by_parts text taken (first ∷ second ∷ []) split e = cc
  by_parts text taken (first ∷ second ∷ third ∷ []) split e = by_schema text first second third taken split (bytes_eq first schema_name) refl e
  by_parts text taken (first ∷ second ∷ third ∷ fourth ∷ others) split e = cc

  -- USEDIN takes a name for the role that a request takes it for
  pub by_name : (name : List ℕ) (taken : asked.Role) → role_of schema name ≡ Some taken → used_by (role_named (compiled schema).roles name) ≡ used_as taken
  by_name [] taken e = let every : a.Every ≡ taken = cc in ap used_as every
  by_name (byte ∷ bytes) taken e = by_parts (byte ∷ bytes) taken (slice_split is_full_stop (byte ∷ bytes)) refl e

  -- and for none that a request takes for none
  pub by_no_name : (name : List ℕ) → role_of schema name ≡ None → used_by (role_named (compiled schema).roles name) ≡ []
  by_no_name [] e = cc
  by_no_name (byte ∷ bytes) e =
      ap (λ l. used_by (option_map (λ (x : NamedRole). x.role) (find (λ (x : NamedRole). bytes_eq x.name (byte ∷ bytes)) l))) roles_are
      ∙ ap (λ o. used_by (option_map (λ (x : NamedRole). x.role) o)) (none_named schema bound (byte ∷ bytes) e)

-- ---- both

module _ (schema : Checked) (bound : IsBound schema.named) (ms : List Counted) (sound : AreSound schema ms) (p : Place) (there : has_place (population ms) p ≡ true) (role : List ℕ) (below : Body → Computation Value) where
  abbrev xs : List Placed
  xs = population ms

  abbrev found : List Value
  found = expressions.users_in (law.seen schema xs) below (role_named (compiled schema).roles role) (place_position xs p)

  found_for : (o : Option asked.Role) → role_of schema role ≡ o → found ≡ standing schema xs (places (users_in schema o p xs))
  found_for None is = by_no_name below schema bound (all_seen_by (compiled schema) schema xs) (place_position xs p) role is
  found_for (Some taken) is =
      by_name below schema bound (all_seen_by (compiled schema) schema xs) (place_position xs p) role taken is
      ∙ ap instances (by_role schema bound xs p there taken (population_apart ms sound.order (each_by (IsSound schema) InstancesAscend (λ m is. is.instances) ms sound.models)) (all_good schema ms sound.order sound.models))

  found_are : found ≡ standing schema xs (places (users schema role p xs))
  found_are = found_for (role_of schema role) refl

  pub agreed : (x : Value) → place_in x ≡ Some (place_position xs p) → HasUsers schema xs below role x (standing schema xs (places (users schema role p xs)))
  agreed x at = record {
    computed = λ y text.
        ap (λ o. used_in_by (law.seen schema xs) below o (place_in x)) text
        ∙ ap (used_in_by (law.seen schema xs) below (Some role)) at
        ∙ ap bag_of found_are;
    literal = ap (used_in_role (law.seen schema xs) below (role_named (compiled schema).roles role)) at ∙ ap bag_of found_are;
  }

pub agree : (schema : Checked) → IsBound schema.named → AllUsersAgree schema
agree schema bound ms sound p there x at role below = agreed schema bound ms sound p there role below x at
