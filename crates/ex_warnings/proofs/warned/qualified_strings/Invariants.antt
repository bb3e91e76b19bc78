use Rattle.std.proofs.Common.{◌≡◌, ◌++◌, map, filter, drop}
use Rattle.ex_warnings.specs.Warnings as spec
use Rattle.ex_warnings.proofs.warned.qualified_strings.Given as goal

abbrev pub invariant-loop-string : goal.invariant-loop-string
invariant-loop-string l =
    l.found.items ++ map (λ s. s.at) (filter (λ s. spec.is_qualified l.schema l.names s.value) (drop l.string-index l.strings))
    ≡ map (λ s. s.at) (filter (λ s. spec.is_qualified l.schema l.names s.value) l.strings)
