use Rattle.std.proofs.Common.{◌≡◌, drop, ◌++◌}
use Rattle.plain_data.specs.Numbers.{numbered, numbered_from}
use Rattle.rp_compile_names.specs.Rows.{row}
use Rattle.rp_compile.specs.Declarations as spec
use Rattle.rp_compile.proofs.entities.entities.Given as goal

abbrev pub invariant-loop-number : goal.invariant-loop-number
invariant-loop-number l = l.found ++ numbered_from (λ number x. spec.entity l.schema l.schema_name (row l.rederived number) number x) l.number (drop l.number l.list) ≡ numbered (λ number x. spec.entity l.schema l.schema_name (row l.rederived number) number x) l.list
