use Rattle.std.proofs.Common.{◌≡◌, ◌-◌}
use Rattle.rp_meaning.specs.Statements.{all_assigned}
use Rattle.rp_eval_parts.proofs.frame.Frame.assign_all.Given as goal

-- what is left gives what all give
abbrev pub invariant-loop-name : goal.invariant-loop-name
invariant-loop-name l = all_assigned l.at (l.count - l._name) l.value (record { itself = l.self-inside.itself; variables = l.self-inside.variables }) ≡ all_assigned l.slot l.count l.value l.fn.self
