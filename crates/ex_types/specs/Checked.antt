-- A schema whose expressions can't go wrong in ways that the profile leaves out.
use Rattle.std.specs.Prelude.{Some, None, Result, Ok, Err}
use Rattle.ex_kinds.specs.declared.fault.TypeFault.{TypeFault}
pub use Rattle.ex_schemas.specs.Schemas.{Checked, Resolved, entity_names, type_names}
use Rattle.ex_typing_statements.specs.Statements.{Told}
use Rattle.ex_types.specs.Declarations.{known, declarations}
use Rattle.ex_warnings.specs.Warnings.{warnings}

abbrev pub checked_by : Resolved → Told → Result Checked TypeFault
checked_by schema None = Ok (record { named = schema; warnings = warnings schema.schema })
checked_by schema (Some fault) = Err fault

-- the schema, or the fault of least offset
unfoldable pub checked : Resolved → Result Checked TypeFault
checked schema = checked_by schema (declarations (known schema.schema) schema.schema)
