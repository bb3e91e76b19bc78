use Rattle.std.proofs.Common.{◌≡◌, false, None, refl, sym, ◌∙◌, ap, subst}
use Rattle.std.specs.List.{find, list_any}
use Rattle.rp_rows.specs.declared.rows.Key.{Key}
use Rattle.rp_rows.specs.Rows.{Text, is_row, same_key, key_of}
use Rattle.rp_rows.specs.Sight.{is_grant_to}
use Rattle.rp_sight.specs.Granted.{KeepsGranted, has_name, names_at}
use Rattle.rp_sight.specs.Stored.{joined}
use Rattle.rp_sight.proofs.Joining.{hold_rows}
use Rattle.rp_sight.specs.Told.{AreTold, KeepsListed}
use Rattle.rp_sight.proofs.Names.{held_keeps}
use Rattle.rp_sight.proofs.Told.{held_told}
use Rattle.rp_sight.proofs.groups.Groups.hold.Goals as goal

pub invariant_of-self-2 : goal.invariant_of-self-2
invariant_of-self-2 c =
    let g = c.self.inside in
    let k = c.args.key in
    let rows = joined g.listings.entries g.rights.entries in
    let none : find (is_row k) rows ≡ None = ap (find (is_row k)) (ap (λ s. s.rows) c.self.view_is ∙ c.in_ok-reserve.ensures.rows) ∙ c.requires in
    let made = hold_rows k c.args.listing c.args.grants g.listings.entries g.rights.entries rows c.self.invariant.table refl in
    let new = c.list_name.new.granted.entries in
    let first : c.get.result.now ≡ k = c.get.ensures ∙ c.in_ok-key.ensures in
    let second : c.get-2.result.now ≡ k = c.get-2.ensures ∙ c.in_ok-key.ensures in
    let others = subst (λ (i : Key). (p : Text) (j : Key) → same_key i j ≡ false → has_name j.name (names_at (key_of p j.owner) new) ≡ has_name j.name (names_at (key_of p j.owner) g.granted.entries)) second c.list_name.ensures.others in
    let listed = subst (λ (i : Key). (p : Text) → has_name i.name (names_at (key_of p i.owner) new) ≡ list_any (is_grant_to p) c.as_slice.result.now) second c.in_ok-list_name.ensures.listed in
    let told : AreTold c.get.result.now c.args.listing.members g.listers = subst (λ s. AreTold c.get.result.now c.args.listing.members s.listers) (sym c.self.view_is) c.in_ok-reserve.ensures.told in
    rw (c.put-2.ensures, c.put.ensures, c.in_ok-again.ensures, c.in_ok-key.ensures)
    (record {
      table = made.table;
      granted =
          subst (KeepsGranted c.list_name.new.granted.entries) (sym made.rows_are)
          (held_keeps k g.granted.entries c.list_name.new.granted.entries rows c.self.invariant.granted none others c.args.listing c.args.grants
          (λ p. listed p ∙ ap (list_any (is_grant_to p)) c.as_slice.ensures));
      listed =
          subst (KeepsListed g.listers) (sym made.rows_are)
          (held_told k g.listers g.listers rows (λ j m apart kept. kept) c.self.invariant.listed c.args.listing c.args.grants (subst (λ (i : Key). AreTold i c.args.listing.members g.listers) first told));
    })

pub returns-clause-held : goal.returns-clause-held
returns-clause-held c =
    let g = c.self.inside in
    rw (c.put-2.ensures, c.put.ensures, c.in_ok-again.ensures, c.in_ok-key.ensures)
    (hold_rows c.args.key c.args.listing c.args.grants g.listings.entries g.rights.entries c.args.self.now.rows c.self.invariant.table (ap (λ s. s.rows) c.self.view_is ∙ c.in_ok-reserve.ensures.rows)).rows_are
