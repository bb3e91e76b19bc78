use Rattle.std.proofs.Common.{◌≡◌, ◌∙◌, ◌-◌, ℕ, length, get_or, take, drop, true, ltb, leb, ap, sym, subst, rules, arith}
use Rattle.std.specs.List.Sorted.{IsNonDecreasingBy}
use Rattle.std.proofs.lemmas.List.{take_rest}
use Rattle.std.proofs.lemmas.List.Sorted.{IsNonDecreasingBy-drop, IsPartitionedBy-ltb, IsPartitionedBy-leb, IsPartitionPoint-from_clause}
use Rattle.rp_index.specs.Pairs.{has_pair}
use Rattle.rp_index.proofs.Candidates.{behind_has, before_has, isnt_below, isnt_above}
use Rattle.rp_index.proofs.pairs.Pairs.settled_under.Goals as goal

abbrev first_of : ℕ × ℕ → ℕ
first_of q = q.0

pub returns : goal.returns
returns c = λ order u there.
    let first = c.args.first in
    let q : ℕ × ℕ = (first, u) in
    let all = c.args.self.now.settled.items in
    let start = c.partition_point-start.result in
    let count = c.partition_point-count.result in
    let rest = take (length c.deref-2.result.now - start) (drop start c.deref-2.result.now) in
    let behind : rest ≡ drop start all = take_rest c.deref-2.result.now start ∙ ap (drop start) c.deref-2.ensures.value in
    let same : c.deref.result.now ≡ all = c.deref.ensures.value in
    let rises : IsNonDecreasingBy first_of rest = subst (λ l. IsNonDecreasingBy first_of l) (sym behind) (IsNonDecreasingBy-drop first_of start all order) in
    let below = IsPartitionPoint-from_clause (λ p. ltb (first_of p) first) c.deref.result.now start c.partition_point-start.ensures.partitioned (rw same (IsPartitionedBy-ltb first_of all first order)) (λ a r f called. search rules) in
    let above = IsPartitionPoint-from_clause (λ p. leb (first_of p) first) rest count c.partition_point-count.ensures.partitioned (IsPartitionedBy-leb first_of rest first rises) (λ a r f called. search rules) in
    let from_start : has_pair (drop start all) q ≡ true = rw same at (behind_has q c.deref.result.now start (λ k d low. isnt_below (get_or c.deref.result.now k d).0 first (below.0 k d (omega arith) low)) (rw same there)) in
    before_has q rest count (λ k d from within. isnt_above (get_or rest k d).0 first (above.1 k d from within)) (ap (λ l. has_pair l q) behind ∙ from_start)
