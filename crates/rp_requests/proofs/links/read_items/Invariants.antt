use Rattle.std.proofs.Common.{◌≡◌, ℕ, ◌≤◌, length}
use Rattle.json.specs.Json.{items, parse_map, value}
use Rattle.serde_json.specs.Read.{of_items, converted}
use Rattle.rp_requests.specs.Asks.{links_of}
use Rattle.rp_requests.proofs.LinkLemmas.{behind}
use Rattle.rp_requests.proofs.links.read_items.Given as goal

abbrev pub invariant-items : goal.invariant-items
invariant-items l =
    (n : ℕ) × (length l.reader ≤ n)
    × (parse_map links_of (converted of_items (items (value 125) (length l.initial.reader) l.initial.reader)) ≡ parse_map (λ ds. behind l.links (links_of ds)) (converted of_items (items (value 125) n l.reader)))
    × (length l.reader ≤ length l.initial.reader)

abbrev pub decreases-items : goal.decreases-items
decreases-items l = length l.reader
