use Rattle.std.proofs.Common.{◌≡◌, take, map}
use Rattle.rp_sight.specs.Seen.{seen_of}
use Rattle.rp_readers.specs.Told.{model_told}
use Rattle.rp_readers.proofs.items.model_rows.Given as goal

abbrev pub invariant-loop-model : goal.invariant-loop-model
invariant-loop-model l = l.rows.items ≡ map (λ s. model_told (seen_of s)) (take l.model-index l.seen)
