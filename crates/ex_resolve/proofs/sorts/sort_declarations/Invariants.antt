use Rattle.std.proofs.Common.{◌≡◌, ◌++◌, length}
use Rattle.std.specs.List.{filter_map}
use Rattle.ex_declarations.specs.Declared as spec
use Rattle.ex_resolve.proofs.sorts.sort_declarations.Given as goal

abbrev pub invariant-loop-declaration : goal.invariant-loop-declaration
invariant-loop-declaration l = record {
  entities : filter_map spec.entity_of l.left ++ l.sorted.entities ≡ filter_map spec.entity_of l.initial.left;
  functions : filter_map spec.function_of l.left ++ l.sorted.functions ≡ filter_map spec.function_of l.initial.left;
  rules : filter_map spec.rule_of l.left ++ l.sorted.rules ≡ filter_map spec.rule_of l.initial.left;
  types : filter_map spec.type_of l.left ++ l.sorted.types ≡ filter_map spec.type_of l.initial.left;
}

abbrev pub decreases-loop-declaration : goal.decreases-loop-declaration
decreases-loop-declaration l = length l.left
