use Rattle.std.proofs.Common.{sym, ◌∙◌, ap}
use Rattle.std.specs.Prelude.{option_map}
use Rattle.sorted_tables.proofs.Finding.{found_is}
use Rattle.rp_rows.specs.Rows.{key_cmp, row_key, key_of}
use Rattle.rp_rows.proofs.Keys.{key_total}
use Rattle.rp_sight.specs.Stored.{row_of}
use Rattle.rp_sight.proofs.rows.Table.find_for.Goals as goal

pub returns-in_err-place-clause-found : goal.returns-in_err-place-clause-found
returns-in_err-place-clause-found g c = ap (option_map row_of) c.from_residual.ensures ∙ sym c.in_err-place.ensures.there

pub row-requires : goal.row-requires
row-requires g c = c.in_ok-place.ensures.there.within

pub returns-clause-found : goal.returns-clause-found
returns-clause-found g c =
    sym (found_is key_cmp row_key key_total (key_of c.args.owner.now c.args.name.now) c.args.self.now.rows c.in_ok-place.place (row_of c.row.result) c.in_ok-place.ensures.there c.row.ensures)
