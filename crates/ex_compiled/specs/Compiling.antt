-- A schema whose supertype expressions can be read (ISO 10303-11:1994, 9.2.4).
use Rattle.std.specs.Prelude.{Result}
use Rattle.ex_types.specs.Checked.{Checked}
use Rattle.ex_subtypes.specs.declared.build.SubtypeFault.{SubtypeFault}
use Rattle.ex_subtypes.specs.Faults.{built_by, first_fault}

-- the schema, or the fault of least offset of its expressions
abbrev pub built : Checked → Result Checked SubtypeFault
built schema = built_by schema (first_fault schema.named.schema.entities)
