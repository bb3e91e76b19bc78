use Rattle.ex_attributes.specs.Tables.{redeclarer_key}
use Rattle.ex_attributes.proofs.Places.{has_places}
use Rattle.ex_attributes.proofs.redeclared_rows.by_redeclarer.Goals as goal

pub returns : goal.returns
returns c = has_places redeclarer_key c.args.rows.now c.in_ok-keys.keys.items c.in_ok-table.table c.in_ok-keys.ensures c.in_ok-table.ensures
