use Rattle.std.proofs.Common.{refl, subst, sym, ap, ◌∙◌}
use Rattle.std.specs.List.{find, list_any}
use Rattle.rp_rows.specs.Rows.{is_row}
use Rattle.rp_rows.specs.Sight.{is_grant_to}
use Rattle.rp_rows.specs.Alterations.{grants_of}
use Rattle.rp_sight.specs.Granted.{KeepsGranted}
use Rattle.rp_sight.specs.Stored.{joined}
use Rattle.rp_sight.proofs.Joining.{remove_rows}
use Rattle.rp_sight.specs.Told.{KeepsListed}
use Rattle.rp_sight.proofs.Names.{remove_keeps}
use Rattle.rp_sight.proofs.Told.{removed_told}
use Rattle.rp_sight.proofs.groups.Groups.remove.Goals as goal

pub invariant_of-self : goal.invariant_of-self
invariant_of-self c =
    let g = c.self.inside in
    let k = c.args.key.now in
    let rows = joined g.listings.entries g.rights.entries in
    let made = remove_rows k g.listings.entries g.rights.entries rows c.self.invariant.table refl in
    let grants = c.grants_at-grants.ensures ∙ ap (λ rs. grants_of (find (is_row k) rs)) c.of.ensures in
    rw (c.remove.ensures, c.remove-2.ensures)
    (record {
      table = made.table;
      granted =
          subst (KeepsGranted c.forget.new.granted.entries) (sym made.rows_are)
          (remove_keeps k g.granted.entries c.forget.new.granted.entries rows c.self.invariant.granted c.forget.ensures.others c.forget.ensures.fewer
          (λ p granted. c.forget.ensures.gone p (ap (list_any (is_grant_to p)) grants ∙ granted)));
      listed = subst (KeepsListed c.unlist.new.self) (sym made.rows_are) (removed_told k g.listers c.unlist.new.self rows c.unlist.ensures.others c.self.invariant.listed);
    })

pub returns : goal.returns
returns c =
    let g = c.self.inside in
    rw (c.remove.ensures, c.remove-2.ensures)
    (remove_rows c.args.key.now g.listings.entries g.rights.entries c.args.self.now.rows c.self.invariant.table (ap (λ s. s.rows) c.self.view_is)).rows_are
