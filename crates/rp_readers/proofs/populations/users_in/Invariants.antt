use Rattle.std.proofs.Common.{◌≡◌, take}
use Rattle.std.specs.List.{flat_map}
use Rattle.rp_population.specs.Populations.{placed_all}
use Rattle.rp_readers.specs.Listed.{counted_of}
use Rattle.rp_readers.proofs.Walking.{told_users}
use Rattle.rp_readers.proofs.populations.users_in.Given as goal

abbrev pub invariant-loop-model : goal.invariant-loop-model
invariant-loop-model l =
    (l.users ≡ l.fn.users) × (l.found.items ≡ flat_map (λ m. told_users l.fn.users.schema l.fn.users.role l.fn.users.of (placed_all (counted_of m))) (take l.model-index l.counted))
