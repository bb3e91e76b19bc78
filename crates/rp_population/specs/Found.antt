-- What is found in one model: the same as the definitions say of its instances, in parts.
use Rattle.std.specs.Prelude.{◌≡◌, ℕ, Bool, false, ◌||◌, List, [], ◌∷◌, Option, Some, None, if◌then◌else◌}
use Rattle.std.specs.List.{flat_map, list_any}
use Rattle.plain_data.specs.Numbers.{is_among}
use Rattle.ex_layouts.specs.Entities.{entities_of, line_of}
use Rattle.ex_layouts.specs.Layouts.{layout}
use Rattle.ex_layouts.specs.declared.layout.Layout.{Layout}
use Rattle.ex_slots.specs.Slots.{Slot}
use Rattle.ex_schemas.specs.Schemas.{Checked}
use Rattle.rp_content.specs.declared.instance.Instance.{Instance}
use Rattle.rp_content.specs.declared.link.Link.{Link}
use Rattle.rp_value.specs.declared.value.Value.{Value}
use Rattle.rp_rows.specs.declared.rows.Key.{Key}
use Rattle.rp_rows.specs.Contents.{references}
use Rattle.rp_population.specs.declared.place.Place.{Place}
use Rattle.rp_population.specs.declared.roles.Role.{Role}
use Rattle.rp_population.specs.declared.roles.Role.TheVariants.{Every, Of}
use Rattle.rp_population.specs.Populations.{same_place, links_to}
use Rattle.rp_population.specs.Uses.{is_slot_of}

abbrev pub place_in : Key → Instance → Place
place_in model i = record { model = model; instance = i.name }

-- ---- extents

abbrev pub is_sought : Option ℕ → List ℕ → Bool
is_sought None all = false
is_sought (Some entity) all = is_among all entity

abbrev pub is_of_sought : Checked → Option ℕ → Instance → Bool
is_of_sought schema entity i = is_sought entity (entities_of schema i.entities)

-- ---- names

-- the numbers are the names that stand for a place in a model with these links
abbrev pub AreNames : Place → Key → List Link → List ℕ → Type 0
AreNames p model links names = (name : ℕ) → is_among names name ≡ (same_place p (record { model = model; instance = name }) || list_any (links_to name p) links)

-- ---- users

-- where an instance stands, and the names of what it may use
pub record User : Type 0 where
  pub names : List ℕ
  pub place : Place

abbrev pub told_at : User → ℕ → List Place
told_at user name = if is_among user.names name then user.place ∷ [] else []

-- the attributes of a name that an entity, which has this line, declares or inherits
pub record Attribute : Type 0 where
  pub entity : ℕ
  pub line : List ℕ
  pub name : List ℕ

-- the values of such attributes
abbrev pub values_of : List ℕ → List ℕ → List Slot → List Value → List Value
values_of line name [] values = []
values_of line name (s ∷ slots) [] = []
values_of line name (s ∷ slots) (value ∷ values) = if is_slot_of line name s then value ∷ values_of line name slots values else values_of line name slots values

-- the attributes of all records
abbrev pub all_slots : List (List Slot) → List Slot
all_slots = flat_map (λ slots. slots)

-- the values of an attribute in an instance whose entities have this layout
abbrev pub values_by : Attribute → Layout → List Value → List Value
values_by a l values = if is_among l.entities a.entity then values_of a.line a.name (all_slots l.slots) values else []

-- where an instance of a model stands, and the names of what it may use
abbrev pub user_in : List ℕ → Key → Instance → User
user_in names model i = record { names = names; place = place_in model i }

-- what is told of an instance of a model, in all attributes
abbrev pub told_in_all : List ℕ → Key → Instance → List Place
told_in_all names model i = flat_map (told_at (user_in names model i)) (flat_map references i.values)

module _ (schema : Checked) where
  -- the line of the entity of a role
  abbrev pub line_by : Option Role → List ℕ
  line_by None = []
  line_by (Some Every) = []
  line_by (Some (Of entity name)) = line_of schema entity

  -- what is told of an instance of a model, in an attribute
  abbrev pub told_in : Attribute → List ℕ → Key → Instance → List Place
  told_in a names model i = flat_map (told_at (user_in names model i)) (flat_map references (values_by a (layout schema i.entities) i.values))
