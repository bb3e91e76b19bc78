-- The population of models that count in a group, found model by model.
use Rattle.std.specs.Prelude.{◌≡◌, ◌≤◌, ℕ, ◌+◌, min, nat_lt, List, map, length, take, slice_get, if◌then◌else◌}
use Rattle.std.specs.List.{position_or_len}
use Rattle.std.specs.Option.{unwrap_or}
use Rattle.std.specs.declared.cmp.Ordering.{Ordering}
use Rattle.std.specs.Ordering.{nat_cmp, ordering_then}
use Rattle.sorted_tables.specs.Table.{is_at, IsAscending}
use Rattle.ex_layouts.specs.Entities.{entities_of}
use Rattle.ex_schemas.specs.Schemas.{Checked}
use Rattle.rp_content.specs.declared.instance.Instance as content
use Rattle.rp_content.specs.declared.link.Link.{Link}
use Rattle.rp_rows.specs.Rows.{key_cmp}
use Rattle.rp_rows.specs.Contents.{link_name}
use Rattle.rp_rows.specs.Instances.{is_instance}
use Rattle.rp_population.specs.declared.place.Place.{Place}
use Rattle.rp_population.specs.Populations.{Counted, Placed, placed, population, target_of}
use Rattle.rp_positions.specs.Positions.{AreInOrder, place_position, position_of, positioned}
use Rattle.rp_domain.specs.declared.instance.WrittenInstance.{WrittenInstance}

-- ---- populations

-- the instances of models that are in order
pub record IsPopulation (ms : List Counted) (xs : List Placed) : Type 0 where
  pub order : AreInOrder ms
  pub all : xs ≡ population ms

-- places in the order of owner, model and instance
abbrev pub place_cmp : Place → Place → Ordering
place_cmp p q = ordering_then (key_cmp p.model q.model) (nat_cmp p.instance q.instance)

abbrev pub own_place : Placed → Place
own_place x = x.place

-- ---- where names stand

-- where the instance of a name stands; behind the last where none has it
unfoldable pub place_of : List content.Instance → ℕ → ℕ
place_of instances name = position_or_len (is_instance name) instances

-- where the link of a name stands; behind the last where none has it
unfoldable pub link_of : List Link → ℕ → ℕ
link_of links name = position_or_len (is_at nat_cmp link_name name) links

-- where links lead, in their order
abbrev pub targets_of : List Placed → List Link → List ℕ
targets_of xs links = map (λ l. place_position xs (target_of l)) links

-- a model's instances in a population of so many, with where the first of them stands, and its links with where they lead
pub record Names : Type 0 where
  pub instances : List content.Instance
  pub start : ℕ
  pub count : ℕ
  pub links : List Link
  pub targets : List ℕ

-- none stands behind the last of the population, and the links can be searched
pub record CanName (n : Names) : Type 0 where
  pub within : n.start + length n.instances ≤ n.count
  pub links : IsAscending nat_cmp link_name n.links

-- where the instance of this place among the model's stands
abbrev pub own_at : Names → ℕ → ℕ
own_at n place = if nat_lt place (length n.instances) then n.start + place else n.count

-- where the link of this place leads
abbrev pub linked_at : Names → ℕ → ℕ
linked_at n place = unwrap_or (slice_get n.targets place) n.count

-- a name that is both an instance's and a link's stands for the first of them
unfoldable pub named_at : Names → ℕ → ℕ
named_at n name = min (own_at n (place_of n.instances name)) (linked_at n (link_of n.links name))

-- these are what the names of a model stand for
abbrev pub AreNamesOf : List Placed → Counted → Names → Type 0
AreNamesOf xs m n = (i : content.Instance) (name : ℕ) → named_at n name ≡ position_of xs (placed m i) name

-- ---- instances as they are written

-- an instance of a model in which names stand for this
abbrev pub written : Checked → Names → content.Instance → WrittenInstance
written checked n i = record { entities = entities_of checked i.entities; values = map (positioned (named_at n)) i.values }

-- an instance of a population
abbrev pub written_in : Checked → List Placed → Placed → WrittenInstance
written_in checked xs x = record { entities = entities_of checked x.instance.entities; values = map (positioned (position_of xs x)) x.instance.values }

-- instances of a population
abbrev pub all_written_in : Checked → List Placed → List Placed → List WrittenInstance
all_written_in checked xs found = map (written_in checked xs) found

-- those of the models before a place
abbrev pub written_before : Checked → List Placed → List Counted → ℕ → List WrittenInstance
written_before checked xs ms at = all_written_in checked xs (population (take at ms))
