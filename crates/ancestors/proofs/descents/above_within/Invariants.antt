use Rattle.std.proofs.Common.{◌≡◌, ℕ, ◌+◌, true, length}
use Rattle.plain_data.specs.Numbers.{is_among}
use Rattle.graphs.proofs.Left.{left}
use Rattle.graphs.proofs.Search.{Search}
use Rattle.ancestors.proofs.Members.{inside}
use Rattle.ancestors.proofs.descents.above_within.Given as goal

abbrev pub invariant-loop-next : goal.invariant-loop-next
invariant-loop-next l = record {
  search : Search l.graph l.member (inside l.graph l.member) l.found.keys l.waiting.items;
  within : (a : ℕ) → is_among l.found.keys a ≡ true → inside l.graph l.member a ≡ true;
}

abbrev pub decreases-loop-next : goal.decreases-loop-next
decreases-loop-next l = length l.waiting.items + left length l.graph l.found.keys
