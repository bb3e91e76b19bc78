use Rattle.std.proofs.Common.{◌≡◌, length, ◌++◌, ◌-◌}
use Rattle.rp_meaning.specs.CompiledTypes as types_spec
use Rattle.rp_compile.proofs.defined_types.beneath.Given as goal

abbrev pub invariant-loop-turn : goal.invariant-loop-turn
invariant-loop-turn l = l.found ++ types_spec.renamed_within l.types (length l.types - l._turn) l.last ≡ types_spec.beneath l.types l.number
