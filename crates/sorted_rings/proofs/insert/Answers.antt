use Rattle.std.proofs.Common.{◌≡◌, refl, subst}
use Rattle.std.specs.Prelude.{OnOk}
use Rattle.std.specs.List.{insert}
use Rattle.sorted_tables.proofs.Finding.{put_absent}
use Rattle.sorted_rings.proofs.insert.Goals as goal

pub returns-clause-rows : goal.returns-clause-rows
returns-clause-rows g c =
    rw (subst (λ r. OnOk r (c.insert.new.self.items ≡ insert c.args.rows.now.items c.args.place c.args.row)) c.unwrap.ensures c.insert.ensures.items)
    (put_absent g.T.Row.cmp g.T.Row.key g.met.T.Row.total c.args.row c.args.rows.now.items c.args.rows.now.items c.args.place refl c.requires.absent).are

pub returns-clause-order : goal.returns-clause-order
returns-clause-order g c =
    rw (subst (λ r. OnOk r (c.insert.new.self.items ≡ insert c.args.rows.now.items c.args.place c.args.row)) c.unwrap.ensures c.insert.ensures.items)
    (put_absent g.T.Row.cmp g.T.Row.key g.met.T.Row.total c.args.row c.args.rows.now.items c.args.rows.now.items c.args.place refl c.requires.absent).ascends
