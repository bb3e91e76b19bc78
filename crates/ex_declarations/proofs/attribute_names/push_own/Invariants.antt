use Rattle.std.proofs.Common.{◌≡◌, ◌++◌, map, drop}
use Rattle.std.specs.List.{filter_map}
use Rattle.ex_declarations.specs.Declared as spec
use Rattle.ex_declarations.proofs.attribute_names.push_own.Given as goal

abbrev pub invariant-loop-attribute : goal.invariant-loop-attribute
invariant-loop-attribute l =
    map (λ n. n.now) l.names.items ++ filter_map spec.own_name (drop l.attribute-index l.attributes) ≡ map (λ n. n.now) l.initial.names.items ++ filter_map spec.own_name l.attributes
