use Rattle.std.proofs.Common.{◌≡◌, [], Ok, map, drop}
use Rattle.ex_declarations.specs.Declared as spec
use Rattle.ex_declarations.specs.Steps.{told}
use Rattle.ex_declarations.proofs.uniqueness.first_repeated.Given as goal

abbrev pub invariant-loop-name : goal.invariant-loop-name
invariant-loop-name l = spec.once_after l.before (told l.found) (map (λ n. n.now) (drop l.name-index l.names)) ≡ spec.once_after [] (Ok tt) (map (λ n. n.now) l.names)
