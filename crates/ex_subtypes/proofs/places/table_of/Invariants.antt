use Rattle.std.proofs.Common.{◌≡◌, ℕ, ◌==◌, ◌&&◌, nat_lt}
use Rattle.std.specs.BTreeMap.{get}
use Rattle.std.specs.Ordering.{nat_cmp}
use Rattle.ex_subtypes.specs.Edges.{is_that}
use Rattle.ex_subtypes.specs.Legal.{member}
use Rattle.ex_subtypes.proofs.places.table_of.Given as goal

abbrev pub invariant-loop-place : goal.invariant-loop-place
invariant-loop-place l = (n k : ℕ) → is_that (get nat_cmp l.table n) k ≡ (nat_lt k l.place && (n == member l.named k))
