use Rattle.std.proofs.Common.{◌≡◌, ◌+◌, length, drop}
use Rattle.std.specs.Fmt.{take_chars}
use Rattle.rp_value.proofs.characters.end_of_characters.Given as goal

abbrev pub invariant-loop-place : goal.invariant-loop-place
invariant-loop-place l = l.place + length (take_chars l.left (drop l.place l.text)) ≡ length (take_chars l.count l.text)
