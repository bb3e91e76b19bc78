use Rattle.std.proofs.Common.{◌≡◌, true, false, refl, sym, ap, subst}
use Rattle.rp_rows.specs.declared.rows.Key.{Key}
use Rattle.rp_rows.specs.Rows.{same_key}
use Rattle.rp_listers.specs.Kept.{tells}
use Rattle.rp_sight.specs.Granted.{KeepsGranted}
use Rattle.rp_sight.specs.Stored.{joined}
use Rattle.rp_sight.proofs.Joining.{put_rows}
use Rattle.rp_sight.specs.Told.{AreTold, KeepsListed}
use Rattle.rp_sight.proofs.Names.{put_keeps}
use Rattle.rp_sight.proofs.Told.{put_told}
use Rattle.rp_sight.proofs.groups.Groups.put.Goals as goal

pub invariant_of-self : goal.invariant_of-self
invariant_of-self c =
    let g = c.self.inside in
    let rows = joined g.listings.entries g.rights.entries in
    let k = c.args.key in
    let a = c.args.listing in
    let listers = c.unlist.new.self in
    let made = put_rows k a g.listings.entries g.rights.entries rows c.self.invariant.table refl in
    let before : AreTold k a.members g.listers = subst (λ s. AreTold k a.members s.listers) (sym c.self.view_is) c.requires.told in
    let own = subst (λ (j : Key). AreTold j c.as_slice.result.now g.listers → AreTold j c.as_slice.result.now listers) c.get-2.ensures c.unlist.ensures.own in
    let others = subst (λ (j : Key). (other m : Key) → same_key j other ≡ false → tells other m g.listers ≡ true → tells other m listers ≡ true) c.get-2.ensures c.unlist.ensures.others in
    let told : AreTold k a.members listers = subst (λ ms. AreTold k ms listers) c.as_slice.ensures (own (subst (λ ms. AreTold k ms g.listers) (sym c.as_slice.ensures) before)) in
    rw (c.put.ensures, c.add.ensures, c.requires.same, c.new.ensures)
    (record {
      table = made.table;
      granted = subst (KeepsGranted g.granted.entries) (sym made.rows_are) (put_keeps k a g.granted.entries rows c.self.invariant.granted);
      listed = subst (KeepsListed listers) (sym made.rows_are) (put_told k g.listers listers rows others c.self.invariant.listed a told);
    })

pub returns : goal.returns
returns c =
    let g = c.self.inside in
    rw (c.put.ensures, c.add.ensures, c.requires.same, c.new.ensures)
    (put_rows c.args.key c.args.listing g.listings.entries g.rights.entries c.args.self.now.rows c.self.invariant.table (ap (λ s. s.rows) c.self.view_is)).rows_are
