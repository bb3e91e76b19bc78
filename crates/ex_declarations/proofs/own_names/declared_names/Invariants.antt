use Rattle.std.proofs.Common.{◌≡◌, ◌++◌, drop, map}
use Rattle.ex_declarations.specs.Steps.{rows_of}
use Rattle.ex_declarations.proofs.own_names.declared_names.Given as goal

abbrev pub invariant-loop-name : goal.invariant-loop-name
invariant-loop-name l =
    map (λ n. n.now) l.names.items ++ map (λ r. r.0) (rows_of (drop l.name-index l.name-items))
    ≡ map (λ r. r.0) (rows_of l.name-items)
