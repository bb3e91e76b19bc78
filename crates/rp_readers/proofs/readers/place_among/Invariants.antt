use Rattle.std.proofs.Common.{◌≡◌, take, false}
use Rattle.rp_plain.specs.Meaning.{has_text}
use Rattle.rp_readers.proofs.readers.place_among.Given as goal

abbrev pub invariant-loop-i : goal.invariant-loop-i
invariant-loop-i l = has_text (take l.i l.texts) l.text ≡ false
