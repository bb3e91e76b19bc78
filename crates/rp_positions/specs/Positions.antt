-- A population by positions: what a name denotes there is told by where that stands in the order of the population.
use Rattle.std.specs.Prelude.{ℕ, suc, List, [], ◌∷◌, if◌then◌else◌}
use Rattle.std.specs.List.{AllByRecursion}
use Rattle.std.specs.Ordering.{nat_cmp}
use Rattle.sorted_tables.specs.Table.{IsAscending}
use Rattle.rp_content.specs.declared.content.Content.{Content}
use Rattle.rp_rows.specs.declared.rows.Key.{Key}
use Rattle.rp_rows.specs.Rows.{key_cmp}
use Rattle.rp_rows.specs.Contents.{link_name}
use Rattle.rp_rows.specs.Instances.{IsInOrder}
use Rattle.rp_value.specs.declared.value.Value.{Value}
use Rattle.rp_value.specs.declared.value.Value.TheFolds.{fold-Value}
use Rattle.rp_value.specs.declared.value.Value.TheOpen.{Value-F}
use Rattle.rp_value.specs.declared.value.Value.TheVariants as v
use Rattle.rp_value.specs.declared.value.Value.TheViews.{roll-Value}
use Rattle.rp_population.specs.declared.place.Place.{Place}
use Rattle.rp_population.specs.Populations.{Counted, Placed, is_at, stands_for}

-- where the instance stands that a name which x refers to denotes; behind the last where the population lacks it
unfoldable pub position_of : List Placed → Placed → ℕ → ℕ
position_of [] x name = 0
position_of (y ∷ others) x name = if stands_for y.place x name then 0 else suc (position_of others x name)

-- where the first stands that is at this place; behind the last where none is
unfoldable pub place_position : List Placed → Place → ℕ
place_position [] p = 0
place_position (x ∷ others) p = if is_at p x then 0 else suc (place_position others p)

module _ (position : ℕ → ℕ) where
  abbrev pub positioned_in : Value-F Value → Value
  positioned_in (Value-F.Inst name) = v.Inst (position name)
  positioned_in x = roll-Value x

  -- a value, in which each reference is the position that its name has
  unfoldable pub positioned : Value → Value
  positioned = fold-Value Value positioned_in

-- ---- models whose names can be searched: those of each valid repository

pub record IsSearchable (x : Content) : Type 0 where
  pub instances : IsInOrder x.instances
  pub links : IsAscending nat_cmp link_name x.links

abbrev pub counted_key : Counted → Key
counted_key m = m.model

pub record AreInOrder (ms : List Counted) : Type 0 where
  pub models : IsAscending key_cmp counted_key ms
  pub contents : AllByRecursion (λ (m : Counted). IsSearchable m.content) ms
