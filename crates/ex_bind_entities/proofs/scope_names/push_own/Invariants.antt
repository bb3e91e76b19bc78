use Rattle.std.proofs.Common.{◌≡◌, ◌++◌, map, drop}
use Rattle.std.specs.List.{filter_map}
use Rattle.ex_declarations.specs.Declared.{own_name}
use Rattle.ex_bind_entities.proofs.scope_names.push_own.Given as goal

abbrev pub invariant-loop-declaration : goal.invariant-loop-declaration
invariant-loop-declaration l = map (λ n. n.now) l.names.items ++ filter_map own_name (drop l.declaration-index l.declarations) ≡ map (λ n. n.now) l.initial.names.items ++ filter_map own_name l.declarations
