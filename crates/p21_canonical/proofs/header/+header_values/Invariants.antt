use Rattle.std.proofs.Common.{◌≡◌, ◌==◌, ◌++◌, ◌∷◌, map, drop}
use Rattle.p21_spelling.specs.Values as spelled
use Rattle.p21_canonical.proofs.Written.{left}
use Rattle.p21_canonical.specs.Trees as spec
use Rattle.p21_canonical.proofs.header.+header_values.Given as goal

abbrev pub invariant-write_values-values : goal.invariant-write_values-values
invariant-write_values-values l =
    l.out ++ left (l.number == 0) (map (λ v. spelled.header_spelling (spec.header_value_tree v)) (drop l.number l.values))
    ≡ l.fn.out ++ 40 ∷ spelled.listed (map (λ v. spelled.header_spelling (spec.header_value_tree v)) l.values)
