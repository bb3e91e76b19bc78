use Rattle.std.proofs.Common.{◌≡◌, drop, map, ◌++◌}
use Rattle.ex_named.specs.declared.reference.TypeName.TheVariants as typenames
use Rattle.rp_compile_names.proofs.select_types.push_entities.Given as goal

abbrev pub invariant-loop-number : goal.invariant-loop-number
invariant-loop-number l = l.found ++ map typenames.Entity (drop l.number-index l.numbers) ≡ l.initial.found ++ map typenames.Entity l.numbers
