use Rattle.std.proofs.Common.{◌≡◌, ◌-◌, ◌≤◌, length, drop}
use Rattle.json.specs.Lex.{lex, between}
use Rattle.shallow_json.proofs.texts.after_spaces.Given as goal

abbrev pub invariant-spaces : goal.invariant-spaces
invariant-spaces l = (lex between (drop l.fn.at l.fn.bytes) ≡ lex between (drop l.end l.fn.bytes)) × (l.fn.at ≤ l.end) × (l.end ≤ length l.fn.bytes)

abbrev pub decreases-spaces : goal.decreases-spaces
decreases-spaces l = length l.fn.bytes - l.end
