use Rattle.std.proofs.Common.{◌≡◌, ◌++◌, drop}
use Rattle.plain_data.specs.Numbers.{numbered_from}
use Rattle.ex_attributes.specs.Attributes as spec
use Rattle.ex_attributes.specs.Steps.{rows_of}
use Rattle.ex_attributes.proofs.declared_attributes.push_rows.Given as goal

abbrev pub invariant-loop-place : goal.invariant-loop-place
invariant-loop-place l =
    l.found ++ numbered_from (λ k r. record { name = r.0; place = record { entity = l.entity; sort = l.sort; place = k }; kinds = r.1 }) l.place (rows_of (drop l.place l.rows))
    ≡ l.initial.found ++ spec.placed l.entity l.sort (rows_of l.rows)
