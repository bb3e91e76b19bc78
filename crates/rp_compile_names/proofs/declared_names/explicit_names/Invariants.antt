use Rattle.std.proofs.Common.{◌≡◌, drop, map, ◌++◌}
use Rattle.ex_slots.specs.Slots as slots
use Rattle.rp_compile_names.proofs.declared_names.explicit_names.Given as goal

abbrev pub invariant-loop-name : goal.invariant-loop-name
invariant-loop-name l = map (λ n. n.now) l.names.items ++ map (λ d. d.0.text) (slots.rows_of (drop l.name-index l.name-items)) ≡ map (λ d. d.0.text) (slots.declared_by l.entity)
