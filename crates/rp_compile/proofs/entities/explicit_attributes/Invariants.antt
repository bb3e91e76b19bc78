use Rattle.std.proofs.Common.{◌≡◌, drop, ◌++◌}
use Rattle.plain_data.specs.Numbers.{numbered, numbered_from}
use Rattle.ex_slots.specs.Slots as slots
use Rattle.rp_compile.specs.Declarations as spec
use Rattle.rp_compile.proofs.entities.explicit_attributes.Given as goal

abbrev pub invariant-loop-place : goal.invariant-loop-place
invariant-loop-place l = l.found ++ numbered_from (λ place d. spec.explicit l.rederived l.entity place d.1) l.place (slots.rows_of (drop l.place l.rows)) ≡ numbered (λ place d. spec.explicit l.rederived l.entity place d.1) (slots.rows_of l.rows)
