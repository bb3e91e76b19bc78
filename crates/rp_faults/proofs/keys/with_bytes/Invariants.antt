use Rattle.std.proofs.Common.{◌≡◌, drop}
use Rattle.rp_faults.specs.Keys.{with_numbers}
use Rattle.rp_faults.proofs.keys.with_bytes.Given as goal

abbrev pub invariant-loop-byte : goal.invariant-loop-byte
invariant-loop-byte l = with_numbers l.key (drop l.byte-index l.bytes) ≡ with_numbers 0 l.bytes
