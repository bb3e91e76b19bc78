use Rattle.std.proofs.Common.{◌≡◌, ◌<◌, ℕ, nat_lt, length, true, ◌∙◌, ap}
use Rattle.ex_renamings.specs.Leading as spec
use Rattle.ex_renamings.proofs.Steps.{steps_exact}
use Rattle.ex_renamings.proofs.leading.told.Goals as goal

pub returns-then-are_right : goal.returns-then-are_right
returns-then-are_right c =
    let all : (m : ℕ) → m < length c.args.graph.now → spec.is_right c.args.graph.now c.args.marks.now c.args.steps.now m ≡ true =
    λ m within. c.requires.right c.if-are_right.true m within in
    ap (nat_lt 0) c.steps_of.ensures ∙ steps_exact c.args.graph.now c.args.marks.now c.args.steps.now all c.args.member c.requires.within
