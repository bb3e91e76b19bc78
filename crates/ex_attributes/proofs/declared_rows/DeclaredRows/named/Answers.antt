use Rattle.std.proofs.Common.{◌∙◌, ap}
use Rattle.ex_attributes.specs.Tables.{places_at}
use Rattle.ex_attributes.proofs.Runs.{named_rows}
use Rattle.ex_attributes.proofs.declared_rows.DeclaredRows.named.Goals as goal

pub returns : goal.returns
returns c =
    let places = c.places_of.ensures ∙ ap (λ n. places_at n c.self.inside.by_name) c.as_bytes.ensures.value in
    rw (← c.self.view_is, ← named_rows c.self.inside.rows.items c.self.inside.by_name c.args.name.now c.self.invariant.0, ← places, ← c.deref.ensures.value) c.rows_at.ensures
