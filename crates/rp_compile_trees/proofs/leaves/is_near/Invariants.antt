use Rattle.std.proofs.Common.{◌≡◌, ℕ, List, drop}
use Rattle.std.specs.List.{flat_map}
use Rattle.ex_kinds.specs.declared.kind.ValueKind.{ValueKind}
use Rattle.plain_data.specs.Numbers.{is_among}
use Rattle.rp_meaning.specs.CompiledExpressions as spec
use Rattle.rp_compile_trees.proofs.leaves.is_near.Given as goal

abbrev above : List (List ℕ) → ValueKind → List ℕ
above supertypes kind = spec.family_at supertypes kind.depth kind.sort

abbrev pub invariant-loop-kind : goal.invariant-loop-kind
invariant-loop-kind l = is_among (flat_map (above l.schema.known.attributes.supertypes) (drop l.kind-index l.kinds)) l.entity ≡ is_among (flat_map (above l.schema.known.attributes.supertypes) l.kinds) l.entity
