use Rattle.std.proofs.Common.{OnOk, subst}
use Rattle.rp_sight.specs.Stored.{joined}
use Rattle.rp_sight.specs.Told.{AreTold}
use Rattle.rp_sight.proofs.Told.{more_told}
use Rattle.rp_sight.proofs.groups.Groups.reserve.Goals as goal

pub invariant_of-self-2 : goal.invariant_of-self-2
invariant_of-self-2 c =
    let g = c.self.inside in
    rw (c.reserve.ensures.entries, c.reserve-2.ensures.entries)
    (record {
      table = c.self.invariant.table;
      granted = c.self.invariant.granted;
      listed = more_told g.listers c.list.new.self (joined g.listings.entries g.rights.entries) c.list.ensures.kept c.self.invariant.listed;
    })

pub returns-clause-told : goal.returns-clause-told
returns-clause-told c = subst (λ ms. OnOk c.list.result (AreTold c.args.key.now ms c.list.new.self)) c.as_slice.ensures c.list.ensures.told
