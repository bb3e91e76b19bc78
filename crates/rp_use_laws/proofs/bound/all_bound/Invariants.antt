use Rattle.std.proofs.Common.{List, drop}
use Rattle.std.specs.List.{AllByRecursion}
use Rattle.ex_schemas.specs.Schemas.{Checked}
use Rattle.rp_use_laws.specs.Schemas.{IsBound}
use Rattle.rp_use_laws.proofs.bound.all_bound.Given as goal

abbrev AllBound : List Checked → Type 0
AllBound = AllByRecursion (λ (schema : Checked). IsBound schema.named)

-- all are, once those are that are left
abbrev pub invariant-loop-schema : goal.invariant-loop-schema
invariant-loop-schema l = AllBound (drop l.schema-index l.schemas) → AllBound l.schemas
