use Rattle.std.proofs.Common.{◌≡◌, drop, ◌++◌}
use Rattle.plain_data.specs.Numbers.{numbered, numbered_from}
use Rattle.rp_compile.specs.Declarations as spec
use Rattle.rp_compile.proofs.defined_types.defined_types.Given as goal

abbrev pub invariant-loop-number : goal.invariant-loop-number
invariant-loop-number l = l.found ++ numbered_from (spec.defined_type l.schema l.schema_name l.list) l.number (drop l.number l.list) ≡ numbered (spec.defined_type l.schema l.schema_name l.list) l.list
