use Rattle.std.proofs.Common.{List, drop}
use Rattle.std.specs.List.{AllByRecursion}
use Rattle.ex_types.specs.Checked.{Checked}
use Rattle.p21_laws.specs.Schemas.{IsAccepted}
use Rattle.p21_laws.proofs.whole.accepted_schemas.Given as goal

abbrev AllAccepted : List Checked → Type 0
AllAccepted = AllByRecursion (λ (schema : Checked). IsAccepted schema.named)

-- all are, once those are that are left
abbrev pub invariant-loop-schema : goal.invariant-loop-schema
invariant-loop-schema l = AllAccepted (drop l.schema-index l.schemas) → AllAccepted l.schemas
