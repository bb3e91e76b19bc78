-- That USEDIN and the request for users tell the same of a population.
use Rattle.std.specs.Prelude.{◌≡◌, ℕ, true, false, List, [], ◌∷◌, length, map, Some}
use Rattle.std.specs.List.{AllByRecursion}
use Rattle.std.specs.Ordering.{nat_cmp}
use Rattle.plain_data.specs.Numbers.{is_among}
use Rattle.sorted_tables.specs.Table.{IsAscending}
use Rattle.ex_named.specs.declared.declaration.NamedEntity.{NamedEntity}
use Rattle.ex_slots.specs.Slots.{Slot, slots}
use Rattle.ex_schemas.specs.Schemas.{Checked}
use Rattle.ex_layouts.specs.Entities.{entities_of}
use Rattle.ex_tree.specs.declared.expression.BuiltInFunction.TheVariants as f
use Rattle.rp_content.specs.declared.instance.Instance.{Instance}
use Rattle.rp_content.specs.declared.link.Link.{Link}
use Rattle.rp_value.specs.declared.value.AggregateKind.TheVariants as k
use Rattle.rp_value.specs.declared.value.Value.{Value}
use Rattle.rp_value.specs.declared.value.Value.TheVariants as v
use Rattle.rp_rows.specs.Contents.{instance_name, link_name, names}
use Rattle.rp_rows.specs.Rows.{key_cmp}
use Rattle.rp_population.specs.declared.place.Place.{Place}
use Rattle.rp_population.specs.Populations.{Counted, Placed, has_place, places, population}
use Rattle.rp_population.specs.Uses.{users}
use Rattle.rp_meaning.specs.declared.body.Body.{Body}
use Rattle.rp_meaning.specs.Attributes.{aggregate, role_named}
use Rattle.rp_meaning.specs.Bare.{place_of, text_of}
use Rattle.rp_meaning.specs.Compiled.{compiled}
use Rattle.rp_meaning.specs.Computations.{Computation}
use Rattle.rp_meaning.specs.Expressions.{World, built_in, costing, used_in_role}
use Rattle.rp_meaning.specs.Populations.{instances}
use Rattle.rp_meaning.specs.Report.{world}
use Rattle.rp_positions.specs.Positions.{counted_key, place_position}
use Rattle.rp_positions.specs.Seen.{all_seen_by}

-- ---- models in which names stand for one thing each

-- the elements of two lists belong together, one by one
abbrev pub AllBoth : {A B : Type 0} → (A → B → Type 0) → List A → List B → Type 0
AllBoth R [] [] = Unit {0}
AllBoth R [] (y ∷ ys) = ⊥
AllBoth R (x ∷ xs) [] = ⊥
AllBoth R (x ∷ xs) (y ∷ ys) = R x y × AllBoth R xs ys

-- what is derived is indeterminate
abbrev pub IsUnset : Slot → Value → Type 0
IsUnset s w = s.is_derived ≡ true → w ≡ v.Indet

abbrev pub entities_in : Checked → List NamedEntity
entities_in schema = schema.named.schema.entities

-- an instance has a value for each of its attributes
abbrev pub HasValues : Checked → Instance → Type 0
HasValues schema i = AllBoth IsUnset (slots (entities_in schema) (entities_of schema i.entities)) i.values

-- its instances have their values, and these and its links have names of their own
pub record IsSound (schema : Checked) (m : Counted) : Type 0 where
  pub values : AllByRecursion (HasValues schema) m.content.instances
  pub instances : IsAscending nat_cmp instance_name m.content.instances
  pub links : IsAscending nat_cmp link_name m.content.links
  pub free : AllByRecursion (λ (l : Link). is_among (names m.content.instances) l.name ≡ false) m.content.links

-- models in the order of owner and name, each name once
pub record AreSound (schema : Checked) (ms : List Counted) : Type 0 where
  pub order : IsAscending key_cmp counted_key ms
  pub models : AllByRecursion (IsSound schema) ms

-- ---- the law

-- a BAG of these elements, which costs a step for each
abbrev pub bag_of : List Value → Computation Value
bag_of elements = costing (length elements) (aggregate k.Bag elements)

module _ (schema : Checked) (xs : List Placed) where
  -- the population by positions, as the schema's rules see it
  abbrev pub seen : World
  seen = world (compiled schema) (all_seen_by (compiled schema) schema xs)

  -- These are the elements of USEDIN of a value and of a text that is the role's name. So it is where the text is a literal, of which
  -- the role is looked up when the schema is compiled.
  pub record HasUsers (below : Body → Computation Value) (role : List ℕ) (x : Value) (elements : List Value) : Type 0 where
    pub computed : (y : Value) → text_of y ≡ Some role → built_in seen below f.UsedIn (x ∷ y ∷ []) ≡ bag_of elements
    pub literal : used_in_role seen below (role_named (compiled schema).roles role) (place_of x) ≡ bag_of elements

  -- the instances at the positions of these places
  abbrev pub standing : List Place → List Value
  standing all = instances (map (place_position xs) all)

  -- USEDIN of each instance of the population has the users that a request is told of, by their positions: as many, in their order, and
  -- none where the text is no role's name, whatever the bodies beneath mean.
  abbrev pub UsersAgree : Type 0
  UsersAgree = (p : Place) → has_place xs p ≡ true → (x : Value) → place_of x ≡ Some (place_position xs p) → (role : List ℕ) (below : Body → Computation Value)
      → HasUsers below role x (standing (places (users schema role p xs)))

-- so it is in each population of such models
abbrev pub AllUsersAgree : Checked → Type 0
AllUsersAgree schema = (ms : List Counted) → AreSound schema ms → UsersAgree schema (population ms)
