use Rattle.std.proofs.Common.{sym, ◌∙◌, ap, length}
use Rattle.std.specs.Prelude.{filter}
use Rattle.rp_rows.specs.Sight.{owns}
use Rattle.rp_sight.proofs.Joining.{owned_rows}
use Rattle.rp_sight.proofs.rows.Table.count_of.Goals as goal

pub returns : goal.returns
returns g c =
    let t = c.self.inside in
    c.count_of.ensures ∙ sym (owned_rows c.args.owner.now t.held.now.entries t.rights.now.entries c.self.invariant.same) ∙ ap (λ s. length (filter (owns c.args.owner.now) s.rows)) c.self.view_is
