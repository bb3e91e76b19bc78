use Rattle.std.proofs.Common.{◌∙◌, ap}
use Rattle.rp_listers.specs.Kept.{KeptListers, tells_at}
use Rattle.rp_listers.proofs.Told.{dropped_number, dropped_group}
use Rattle.rp_listers.proofs.listers.Listers.drop_at.Goals as goal

pub returns-clause-numbers : goal.returns-clause-numbers
returns-clause-numbers c = λ k n apart was.
    let g = c.self.inside in
    let old : KeptListers = record { firsts = g.firsts.entries; others = g.others.entries } in
    let new : KeptListers = record { firsts = c.drop_first.new.firsts.entries; others = c.drop_other.new.others.entries } in
    dropped_number c.args.group.now k n c.args.number old new (c.drop_other.ensures n) (c.drop_first.ensures.numbers n apart) apart (ap (tells_at k n) c.self.view_is ∙ was)

pub returns-clause-groups : goal.returns-clause-groups
returns-clause-groups c = λ k n apart was.
    let g = c.self.inside in
    let old : KeptListers = record { firsts = g.firsts.entries; others = g.others.entries } in
    let new : KeptListers = record { firsts = c.drop_first.new.firsts.entries; others = c.drop_other.new.others.entries } in
    dropped_group c.args.group.now k n c.args.number old new (c.drop_other.ensures n) (c.drop_first.ensures.groups k n apart) apart (ap (tells_at k n) c.self.view_is ∙ was)
