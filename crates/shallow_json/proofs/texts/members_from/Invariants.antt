use Rattle.std.proofs.Common.{◌≡◌, ℕ, ◌-◌, ◌≤◌, true, length, drop}
use Rattle.json.specs.Json.{value, members}
use Rattle.json.specs.Lex.{Place, fresh, may_begin, between, lex, punctuate}
use Rattle.serde_json.specs.Data.{no_members}
use Rattle.serde_json.specs.Read.{of_members, converted}
use Rattle.serde_json.specs.View.{members_view}
use Rattle.shallow_json.specs.Shallow.{shallow}
use Rattle.shallow_json.proofs.texts.members_from.Given as goal

abbrev pub invariant-members : goal.invariant-members
invariant-members l =
    let first = punctuate fresh (lex between (drop l.fn.from l.fn.text)) in
    let found = members_view l.found.entries in
    (n : ℕ) × (p : Place) × (may_begin p ≡ true) × (length (punctuate p (lex between (drop l.at l.fn.text))) ≤ n) × (shallow found ≡ found)
    × (converted (λ ms. of_members ms no_members) (members (value 126) (length first) first)
    ≡ converted (λ ms. of_members ms found) (members (value 126) n (punctuate p (lex between (drop l.at l.fn.text)))))
    × (l.at ≤ length l.fn.text)

abbrev pub decreases-members : goal.decreases-members
decreases-members l = length l.fn.text - l.at
