use Rattle.std.proofs.Common.{◌≡◌, drop}
use Rattle.rp_faults.specs.Keys.{with_bits}
use Rattle.rp_faults.proofs.keys.with_bits.Given as goal

abbrev pub invariant-loop-bit : goal.invariant-loop-bit
invariant-loop-bit l = with_bits l.key (drop l.bit-index l.bits) ≡ with_bits 0 l.bits
