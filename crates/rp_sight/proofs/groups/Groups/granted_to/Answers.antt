use Rattle.std.proofs.Common.{sym, ap, subst}
use Rattle.rp_sight.specs.Granted.{granted_of, TellsGranted}
use Rattle.rp_sight.specs.Stored.{joined}
use Rattle.rp_sight.proofs.Names.{tells_whole}
use Rattle.rp_sight.proofs.groups.Groups.granted_to.Goals as goal

pub returns-clause-whole : goal.returns-clause-whole
returns-clause-whole c =
    let g = c.self.inside in
    let p = c.args.partner.now in
    subst (λ es. TellsGranted p es c.args.self.now.rows) (sym c.of_owner.ensures)
    (subst (λ gs. TellsGranted p (granted_of p g.granted.entries) gs) (ap (λ s. s.rows) c.self.view_is) (tells_whole p g.granted.entries (joined g.listings.entries g.rights.entries) c.self.invariant.granted))
