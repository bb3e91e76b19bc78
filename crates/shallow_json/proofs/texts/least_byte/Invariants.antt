use Rattle.std.proofs.Common.{◌≡◌, drop, min}
use Rattle.std.specs.List.{fold}
use Rattle.shallow_json.proofs.texts.least_byte.Given as goal

abbrev pub invariant-loop-byte : goal.invariant-loop-byte
invariant-loop-byte l = fold min l.least (drop l.byte-index l.bytes) ≡ fold min 255 l.bytes
