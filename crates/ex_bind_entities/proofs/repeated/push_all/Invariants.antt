use Rattle.std.proofs.Common.{◌≡◌, ◌++◌, map, drop}
use Rattle.ex_bind_entities.proofs.repeated.push_all.Given as goal

abbrev pub invariant-loop-number : goal.invariant-loop-number
invariant-loop-number l = l.before ++ map (λ e. (l.name.text, e)) (drop l.number-index l.numbers) ≡ l.initial.before ++ map (λ e. (l.name.text, e)) l.numbers
