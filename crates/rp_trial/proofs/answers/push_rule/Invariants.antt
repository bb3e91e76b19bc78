use Rattle.std.proofs.Common.{◌≡◌, ◌++◌, drop}
use Rattle.plain_data.specs.Numbers.{numbered, numbered_from}
use Rattle.rp_trial.specs.Answers as spec
use Rattle.rp_trial.proofs.answers.push_rule.Given as goal

abbrev pub invariant-loop-place : goal.invariant-loop-place
invariant-loop-place l = l.found ++ numbered_from (spec.rule_condition l.number) l.place (drop l.place l.conditions) ≡ l.initial.found ++ numbered (spec.rule_condition l.number) l.conditions
