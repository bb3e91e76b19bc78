use Rattle.std.proofs.Common.{◌≡◌, ◌+◌, ◌++◌, drop}
use Rattle.plain_data.specs.Numbers.{numbered, numbered_from}
use Rattle.ex_named.specs.declared.reference.Declared.TheVariants as d
use Rattle.ex_declarations.specs.Declared as spec
use Rattle.ex_declarations.specs.Steps.{rows_of}
use Rattle.ex_declarations.proofs.own_names.own_names.Given as goal

abbrev pub invariant-loop-number : goal.invariant-loop-number
invariant-loop-number l =
    rows_of l.rows.items ++ numbered_from (λ k c. (c.name, d.Constant k)) l.number (drop l.number l.schema.constants)
    ≡ numbered (λ k c. (c.name, d.Constant k)) l.schema.constants

abbrev pub invariant-loop-declaration : goal.invariant-loop-declaration
invariant-loop-declaration l = record {
  rows : rows_of l.rows.items ++ spec.names_from l.types l.entities l.functions l.rules (drop l.declaration-index l.declaration-items) ≡ spec.declared_names l.schema;
  counted : l.types + l.entities + l.functions + l.rules ≡ l.declaration-index;
}
