use Rattle.std.proofs.Common.{◌≡◌, ◌++◌, map, drop}
use Rattle.ex_selects.proofs.types.names_of.Given as goal

abbrev pub invariant-loop-declared : goal.invariant-loop-declared
invariant-loop-declared l = l.names ++ map (λ x. x.name.text) (drop l.declared-index l.types) ≡ map (λ x. x.name.text) l.types
