use Rattle.std.proofs.Common.{◌≡◌, drop, ◌++◌}
use Rattle.plain_data.specs.Numbers.{numbered, numbered_from}
use Rattle.name_tables.specs.Names.{rows_of}
use Rattle.ex_slots.specs.Slots as slots
use Rattle.rp_compile_names.proofs.role_names.push_places.Given as goal

abbrev pub invariant-loop-place : goal.invariant-loop-place
invariant-loop-place l = rows_of l.found.items ++ numbered_from (λ place d. (d.0.text, slots.explicit_place l.entity place)) l.place (slots.rows_of (drop l.place l.rows)) ≡ rows_of l.initial.found.items ++ numbered (λ place d. (d.0.text, slots.explicit_place l.entity place)) (slots.rows_of l.rows)
