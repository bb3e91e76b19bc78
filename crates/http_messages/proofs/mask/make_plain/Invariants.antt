use Rattle.std.proofs.Common.{◌≡◌, ℕ, ◌<◌, ◌≤◌, slice_index}
use Rattle.http_messages.specs.Mask.{plain}
use Rattle.http_messages.proofs.mask.make_plain.Given as goal

abbrev pub invariant-loop-byte : goal.invariant-loop-byte
invariant-loop-byte l =
    ((k : ℕ) → k < l.byte-index → slice_index l.target k ≡ plain (slice_index l.fn.target k))
    × ((k : ℕ) → l.byte-index ≤ k → slice_index l.target k ≡ slice_index l.fn.target k)
