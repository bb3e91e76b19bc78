use Rattle.std.proofs.Common.{◌≡◌, ◌++◌, map, drop}
use Rattle.ex_selects.specs.Items as spec
use Rattle.ex_selects.proofs.items.all_items.Given as goal

abbrev pub invariant-loop-declared : goal.invariant-loop-declared
invariant-loop-declared l =
    l.all.items ++ map (λ x. spec.items_by x.underlying) (drop l.declared-index l.types) ≡ map (λ x. spec.items_by x.underlying) l.types
