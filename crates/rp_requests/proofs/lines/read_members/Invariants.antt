use Rattle.std.proofs.Common.{◌≡◌, ℕ, ◌≤◌, length}
use Rattle.json.specs.Json.{members, value}
use Rattle.serde_json.specs.Data.{Members, no_members}
use Rattle.serde_json.specs.Read.{of_members, converted}
use Rattle.serde_json.specs.View.{members_view}
use Rattle.shallow_json.specs.Shallow.{shallow}
use Rattle.rp_requests.specs.Asks.{lists_in}
use Rattle.rp_requests.proofs.lines.read_members.Given as goal

abbrev pub invariant-members : goal.invariant-members
invariant-members l =
    (n : ℕ) × (found : Members) × (length l.reader ≤ n) × (shallow found ≡ members_view l.found.entries) × (lists_in found ≡ l.lists)
    × (converted (λ ms. of_members ms no_members) (members (value 126) (length l.initial.reader) l.initial.reader) ≡ converted (λ ms. of_members ms found) (members (value 126) n l.reader))

abbrev pub decreases-members : goal.decreases-members
decreases-members l = length l.reader
