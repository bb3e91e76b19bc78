use Rattle.std.proofs.Common.{refl}
use Rattle.rp_index.specs.declared.index.Index.{Index}
use Rattle.rp_index.proofs.Covering.{entered}
use Rattle.rp_index.proofs.index.Index.enter.Goals as goal

pub returns : goal.returns
returns c =
    let x = c.args.self.now in
    let y : Index = record { uses = c.enter_uses.new.uses; leads = x.leads; kinds = c.enter_kinds.new.kinds } in
    entered c.args.instance.now x y c.in_ok-enter_uses.ensures.grows c.in_ok-enter_uses.ensures.has c.in_ok-enter_uses.ensures.order c.in_ok-enter_kinds.ensures.grows c.in_ok-enter_kinds.ensures.has refl
