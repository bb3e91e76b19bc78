use Rattle.std.proofs.Common.{refl}
use Rattle.rp_index.specs.declared.index.Index.{Index}
use Rattle.rp_index.proofs.Covering.{left}
use Rattle.rp_index.proofs.index.Index.remove.Goals as goal

pub returns : goal.returns
returns c =
    let x = c.args.self.now in
    let y : Index = record { uses = c.remove_values.new.uses; leads = x.leads; kinds = c.remove_kinds.new.kinds } in
    left c.args.instance.now.name x y c.remove_values.ensures.keeps c.remove_values.ensures.order c.remove_kinds.ensures refl
