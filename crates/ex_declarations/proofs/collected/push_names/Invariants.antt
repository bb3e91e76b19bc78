use Rattle.std.proofs.Common.{◌≡◌, drop}
use Rattle.ex_declarations.specs.Steps.{and_names, rows_of}
use Rattle.ex_declarations.proofs.collected.push_names.Given as goal

abbrev pub invariant-loop-name : goal.invariant-loop-name
invariant-loop-name l =
    and_names l.found (rows_of (drop l.name-index l.rows)) ≡ and_names l.initial.found (rows_of l.rows)
