use Rattle.ex_attributes.specs.Tables.{redeclared_key}
use Rattle.ex_attributes.proofs.Places.{has_places}
use Rattle.ex_attributes.proofs.redeclared_rows.by_place.Goals as goal

pub returns : goal.returns
returns c = has_places redeclared_key c.args.rows.now c.in_ok-keys.keys.items c.in_ok-table.table c.in_ok-keys.ensures c.in_ok-table.ensures
