use Rattle.std.proofs.Common.{◌≡◌, map, take}
use Rattle.rp_readers.specs.Listed.{counted_of}
use Rattle.rp_item_plans.proofs.validation.models_of.Given as goal

abbrev pub invariant-loop-model : goal.invariant-loop-model
invariant-loop-model l = l.models.items ≡ map counted_of (take l.model-index l.counted)
