use Rattle.std.proofs.Common.{◌≡◌, take}
use Rattle.std.specs.List.{flat_map}
use Rattle.rp_population.specs.Populations.{placed_all}
use Rattle.rp_readers.specs.Listed.{counted_of}
use Rattle.rp_readers.proofs.Walking.{told_extent}
use Rattle.rp_readers.proofs.populations.extent_in.Given as goal

abbrev pub invariant-loop-model : goal.invariant-loop-model
invariant-loop-model l =
    (l.extent ≡ l.fn.extent) × (l.found.items ≡ flat_map (λ m. told_extent l.fn.extent.schema l.fn.extent.entity (placed_all (counted_of m))) (take l.model-index l.counted))
