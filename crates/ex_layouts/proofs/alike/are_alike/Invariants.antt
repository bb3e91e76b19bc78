use Rattle.std.proofs.Common.{◌≡◌, length}
use Rattle.ex_layouts.proofs.alike.are_alike.Given as goal

abbrev pub invariant-eights : goal.invariant-eights
invariant-eights l = l.bytes ≡ l.others → l.initial.bytes ≡ l.initial.others

abbrev pub decreases-eights : goal.decreases-eights
decreases-eights l = length l.bytes
