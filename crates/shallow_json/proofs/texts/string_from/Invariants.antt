use Rattle.std.proofs.Common.{◌≡◌, ◌-◌, ◌≤◌, length, drop, string_bytes}
use Rattle.json.specs.Text.{content, plain, prepend}
use Rattle.json.specs.Lex.{lex, in_string}
use Rattle.shallow_json.proofs.texts.string_from.Given as goal

abbrev pub invariant-pieces : goal.invariant-pieces
invariant-pieces l =
    (content plain (drop l.fn.from l.fn.text) ≡ prepend (string_bytes l.string) (content plain (drop l.at l.fn.text)))
    × (lex in_string (drop l.fn.from l.fn.text) ≡ lex in_string (drop l.at l.fn.text)) × (l.fn.from ≤ l.at) × (l.at ≤ length l.fn.text)

abbrev pub decreases-pieces : goal.decreases-pieces
decreases-pieces l = length l.fn.text - l.at
