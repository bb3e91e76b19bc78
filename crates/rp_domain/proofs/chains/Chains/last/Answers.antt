use Rattle.std.proofs.Common.{◌-◌, refl, arith}
use Rattle.rp_domain.proofs.Links.{empty-row, last_link, no_link}
use Rattle.rp_domain.proofs.chains.Chains.last.Goals as goal

pub returns-then-end-eq0 : goal.returns-then-end-eq0
returns-then-end-eq0 g c = empty-row c.args.self.now.0 c.args.end c.if-end-eq0.true

pub returns-then-end-len : goal.returns-then-end-len
returns-then-end-len g c = rw (← c.self.view_is) (no_link c.self.inside.links.items c.args.end (omega (arith, c.if-end-len.true, c.len.ensures)))

pub returns : goal.returns
returns g c =
    rw (← c.self.view_is) (last_link c.self.inside.links.items c.self.invariant.linked c.args.end (c.args.end - 1) refl c.if-end-eq0.false (omega (arith, c.if-end-len.false, c.len.ensures)) c.index.result.now c.index.ensures)
