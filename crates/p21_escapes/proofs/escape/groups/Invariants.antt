use Rattle.std.proofs.Common.{◌≡◌, ◌+◌, ◌*◌, ◌^◌, ◌<◌, length}
use Rattle.std.specs.Option.{option_map}
use Rattle.p21_escapes.specs.Decoding.{groups}
use Rattle.p21_escapes.proofs.escape.groups.Given as goal

abbrev pub invariant-groups : goal.invariant-groups
invariant-groups l = (option_map (λ k. l.n + k) (groups l.z) ≡ groups l.initial.z) × (4 * l.n + length l.z ≡ length l.initial.z) × (length l.initial.z < 2 ^ 63)

abbrev pub decreases-groups : goal.decreases-groups
decreases-groups l = length l.z
