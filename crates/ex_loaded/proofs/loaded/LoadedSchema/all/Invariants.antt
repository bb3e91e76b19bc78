use Rattle.std.proofs.Common.{◌≡◌, take}
use Rattle.ex_loaded.proofs.loaded.LoadedSchema.all.Given as goal

abbrev pub invariant-loop-schema : goal.invariant-loop-schema
invariant-loop-schema l = l.loaded.items ≡ take l.schema-index l.schemas
