use Rattle.std.proofs.Common.{◌≡◌, ◌++◌, map, drop}
use Rattle.std.specs.List.{filter_map}
use Rattle.ex_declarations.specs.Declared as spec
use Rattle.ex_declarations.proofs.attribute_names.derived_names.Given as goal

abbrev pub invariant-loop-derived : goal.invariant-loop-derived
invariant-loop-derived l =
    map (λ n. n.now) l.names.items ++ filter_map (λ x. spec.own_name x.attribute) (drop l.derived-index l.derived-items) ≡ spec.derived_names l.body
