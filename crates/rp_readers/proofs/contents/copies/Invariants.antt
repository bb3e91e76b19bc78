use Rattle.std.proofs.Common.{◌≡◌, ◌++◌, drop}
use Rattle.rp_readers.proofs.contents.copies.Given as goal

abbrev pub invariant-loop-link : goal.invariant-loop-link
invariant-loop-link l = l.copies ++ drop l.link-index l.links ≡ l.links
