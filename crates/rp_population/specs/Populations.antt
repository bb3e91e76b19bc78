-- The population of a group (ISO 10303-22, schema instance): the instances of the models that count in it, and what the names in
-- them denote.
use Rattle.std.specs.Prelude.{ℕ, Bool, ◌&&◌, ◌||◌, ◌==◌, List, map, Option}
use Rattle.std.specs.List.{find, list_any, flat_map}
use Rattle.rp_content.specs.declared.content.Content.{Content}
use Rattle.rp_content.specs.declared.instance.Instance.{Instance}
use Rattle.rp_content.specs.declared.link.Link.{Link}
use Rattle.rp_rows.specs.declared.rows.Key.{Key}
use Rattle.rp_rows.specs.Rows.{same_key, key_of}
use Rattle.rp_population.specs.declared.place.Place.{Place}

-- a model that counts in a group, with what it holds
pub record Counted : Type 0 where
  pub model : Key
  pub content : Content

-- an instance of a population: where it stands, what it is, and the links of its model
pub record Placed : Type 0 where
  pub place : Place
  pub instance : Instance
  pub links : List Link

-- ---- the population

abbrev pub placed : Counted → Instance → Placed
placed m i = record { place = record { model = m.model; instance = i.name }; instance = i; links = m.content.links }

abbrev pub placed_all : Counted → List Placed
placed_all m = map (placed m) m.content.instances

-- The models that count are given in the order of owner and name, and each holds its instances in the order of their names: so the
-- places stand in the order of owner, model and instance.
abbrev pub population : List Counted → List Placed
population = flat_map placed_all

abbrev pub same_place : Place → Place → Bool
same_place p q = same_key p.model q.model && p.instance == q.instance

abbrev pub is_at : Place → Placed → Bool
is_at p x = same_place p x.place

abbrev pub has_place : List Placed → Place → Bool
has_place xs p = list_any (is_at p) xs

abbrev pub places : List Placed → List Place
places = map (λ x. x.place)

-- ---- names

-- the place of this name in the model of x
abbrev pub beside : Placed → ℕ → Place
beside x name = record { model = x.place.model; instance = name }

abbrev pub target_of : Link → Place
target_of l = record { model = key_of l.owner l.model; instance = l.target }

-- it has this name, and leads to this place
abbrev pub links_to : ℕ → Place → Link → Bool
links_to name p l = l.name == name && same_place p (target_of l)

-- whether a name that x refers to stands for a place: it is that of an instance of its model, or of a link
abbrev pub stands_for : Place → Placed → ℕ → Bool
stands_for p x name = same_place p (beside x name) || list_any (links_to name p) x.links

-- the instance that a name which x refers to denotes: the one that it stands for, if the population has it, else nothing
abbrev pub denoted : List Placed → Placed → ℕ → Option Placed
denoted xs x name = find (λ y. stands_for y.place x name) xs
