use Rattle.std.proofs.Common.{◌≡◌, ◌++◌, map, drop}
use Rattle.std.specs.List.{filter_map, flat_map}
use Rattle.ex_declarations.specs.Declared as spec
use Rattle.ex_declarations.proofs.attribute_names.explicit_names.Given as goal

abbrev pub invariant-loop-explicit : goal.invariant-loop-explicit
invariant-loop-explicit l =
    map (λ n. n.now) l.names.items ++ flat_map (λ x. filter_map spec.own_name x.attributes) (drop l.explicit-index l.explicit-items) ≡ spec.explicit_names l.body
