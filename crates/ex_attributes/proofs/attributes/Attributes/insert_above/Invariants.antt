use Rattle.std.proofs.Common.{◌≡◌, ℕ, not, ◌==◌, ◌&&◌, ◌||◌, drop}
use Rattle.plain_data.specs.Numbers.{is_among}
use Rattle.ex_attributes.proofs.attributes.Attributes.insert_above.Given as goal

abbrev pub invariant-loop-above : goal.invariant-loop-above
invariant-loop-above l = (k : ℕ) →
    (is_among l.set.keys k || (not (l.entity == k) && is_among (drop l.above-index l.above-items) k))
    ≡ (is_among l.initial.set.keys k || (not (l.entity == k) && is_among l.above-items k))
