-- A population by positions, as the rules of its schema see it.
use Rattle.std.specs.Prelude.{List, map, length}
use Rattle.ex_layouts.specs.Entities.{entities_of}
use Rattle.ex_schemas.specs.Schemas.{Checked}
use Rattle.rp_population.specs.Populations.{Placed}
use Rattle.rp_meaning.specs.declared.schema.Schema.{Schema}
use Rattle.rp_meaning.specs.Populations.{Instance}
use Rattle.rp_meaning.specs.Reading.{instance_of}
use Rattle.rp_positions.specs.Positions.{position_of, positioned}

module _ (schema : Schema) (checked : Checked) (xs : List Placed) where
  -- one of its instances, whose references are positions
  abbrev pub seen_by : Placed → Instance
  seen_by x = instance_of schema (length xs) (entities_of checked x.instance.entities) (map (positioned (position_of xs x)) x.instance.values)

  abbrev pub all_seen_by : List Instance
  all_seen_by = map seen_by xs
