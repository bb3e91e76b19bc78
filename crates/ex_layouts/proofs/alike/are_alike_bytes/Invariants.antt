use Rattle.std.proofs.Common.{◌≡◌, length}
use Rattle.ex_layouts.proofs.alike.are_alike_bytes.Given as goal

abbrev pub invariant-bytes : goal.invariant-bytes
invariant-bytes l = l.bytes ≡ l.others → l.initial.bytes ≡ l.initial.others

abbrev pub decreases-bytes : goal.decreases-bytes
decreases-bytes l = length l.bytes
