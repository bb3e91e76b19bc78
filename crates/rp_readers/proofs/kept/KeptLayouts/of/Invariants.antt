use Rattle.std.proofs.Common.{◌≡◌, take}
use Rattle.rp_readers.proofs.kept.KeptLayouts.of.Given as goal

abbrev pub invariant-loop-schema : goal.invariant-loop-schema
invariant-loop-schema l = l.layouts.items ≡ take l.schema-index l.schemas
