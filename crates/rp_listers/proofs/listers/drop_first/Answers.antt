use Rattle.std.proofs.Common.{sym, ◌∙◌, ap}
use Rattle.rp_listers.specs.Kept.{is_first}
use Rattle.rp_listers.proofs.Told.{first_stays}
use Rattle.rp_listers.proofs.listers.drop_first.Goals as goal

pub returns-then-is_lister-clause-groups : goal.returns-then-is_lister-clause-groups
returns-then-is_lister-clause-groups c = λ k n apart is.
    let g = c.args.group.now in
    first_stays g k c.args.number n c.args.firsts.now c.remove.new.self (ap (is_first g) (sym c.get.ensures.value) ∙ sym c.is_lister.ensures ∙ c.if-is_lister.true) c.remove.ensures.updates.0 apart is
