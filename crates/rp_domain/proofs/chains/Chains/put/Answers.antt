use Rattle.std.proofs.Common.{◌≡◌, length, arith}
use Rattle.rp_domain.proofs.Links.{put_more}
use Rattle.rp_domain.proofs.chains.Chains.put.Goals as goal

pub returns-in_ok-push : goal.returns-in_ok-push
returns-in_ok-push g c =
    let many : c.len-then-row-len.result ≡ length c.push.new.self.items = omega (arith, c.len-then-row-len.ensures) in
    rw (← c.self.view_is) (put_more c.self.inside.links.items c.push.new.self.items c.self.inside.ends.items c.args.row c.index.result.now c.len-then-row-len.result c.args.item c.self.invariant.linked c.self.invariant.ends (omega (arith, c.if-row-len.true, c.len.ensures)) c.index.ensures c.in_ok-push.ensures.items many)
