use Rattle.std.proofs.Common.{◌≡◌, ◌++◌, map, drop}
use Rattle.std.specs.List.{filter_map, flat_map}
use Rattle.ex_declarations.specs.Declared.{own_name}
use Rattle.ex_bind_entities.proofs.scope_names.push_explicit.Given as goal

abbrev pub invariant-loop-explicit : goal.invariant-loop-explicit
invariant-loop-explicit l = map (λ n. n.now) l.names.items ++ flat_map (λ x. filter_map own_name x.attributes) (drop l.explicit-index l.list) ≡ map (λ n. n.now) l.initial.names.items ++ flat_map (λ x. filter_map own_name x.attributes) l.list
