use Rattle.std.proofs.Common.{◌≡◌, ◌++◌, map, drop}
use Rattle.std.specs.List.{filter_map}
use Rattle.ex_declarations.specs.Declared.{own_name}
use Rattle.ex_bind_entities.proofs.scope_names.push_derived.Given as goal

abbrev pub invariant-loop-derived : goal.invariant-loop-derived
invariant-loop-derived l = map (λ n. n.now) l.names.items ++ filter_map (λ x. own_name x.attribute) (drop l.derived-index l.list) ≡ map (λ n. n.now) l.initial.names.items ++ filter_map (λ x. own_name x.attribute) l.list
