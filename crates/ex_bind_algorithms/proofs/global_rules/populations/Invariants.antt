use Rattle.std.proofs.Common.{◌≡◌, ℕ, ◌||◌, drop}
use Rattle.std.specs.List.Sorted.{IsStrictlySortedBy}
use Rattle.std.specs.Ordering.{nat_cmp}
use Rattle.plain_data.specs.Numbers.{is_among}
use Rattle.ex_bind_algorithms.specs.Algorithms.{entities_of}
use Rattle.ex_bind_algorithms.proofs.global_rules.populations.Given as goal

-- what is found, or named later, is what is named
abbrev pub invariant-loop-name : goal.invariant-loop-name
invariant-loop-name l = record {
  rising : IsStrictlySortedBy nat_cmp l.found.keys;
  named : (k : ℕ) → (is_among l.found.keys k || is_among (entities_of l.declarations (drop l.name-index l.names)) k) ≡ is_among (entities_of l.declarations l.names) k;
}
