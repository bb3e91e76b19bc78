use Rattle.std.proofs.Common.{sym, ◌-◌, ◌∙◌, arith}
use Rattle.rp_meaning.specs.Expressions.{Scope}
use Rattle.rp_eval_parts.proofs.Assigned.{assigned-next, assigned-past}
use Rattle.rp_eval_parts.proofs.frame.Frame.assign_all.Goals as goal

pub returns-then-len-at : goal.returns-then-len-at
returns-then-len-at c =
    let s : Scope = record { itself = c.loop-name.self-inside.itself; variables = c.loop-name.self-inside.variables } in
    sym (assigned-past c.loop-name.at (c.args.count - c.loop-name._name) c.args.value.now s (omega arith)) ∙ c.loop-name.invariant

pub loop-name-preserved : goal.loop-name-preserved
loop-name-preserved c =
    let s : Scope = record { itself = c.loop-name.self-inside.itself; variables = c.loop-name.self-inside.variables } in
    let next = assigned-next c.loop-name.at c.args.count c.loop-name._name c.args.value.now s (omega arith) in
    rw (c.set.ensures, c.in_ok-copy.ensures) (sym next ∙ c.loop-name.invariant)
