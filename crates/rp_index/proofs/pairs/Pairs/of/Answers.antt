use Rattle.std.proofs.Common.{◌∙◌, ℕ, sym, rules}
use Rattle.std.proofs.lemmas.List.Sorted.{list_any-IsPermutation, IsNonDecreasingBy-from_sort_by_key}
use Rattle.std.specs.Ordering.{is_eq}
use Rattle.rp_index.specs.Pairs.{pair_cmp}
use Rattle.rp_index.proofs.Tests.{or_left, all_from}
use Rattle.rp_index.proofs.pairs.Pairs.of.Goals as goal

pub returns-clause-has : goal.returns-clause-has
returns-clause-has c =
    let pairs = c.args.pairs.items in
    let sorted = c.sort_by_key.new.self.items in
    all_from _ pairs
    (λ q e. or_left _ _ (sym (list_any-IsPermutation (λ (p : ℕ × ℕ). is_eq (pair_cmp q p)) pairs sorted c.sort_by_key.ensures.permutation) ∙ e))

pub returns-clause-order : goal.returns-clause-order
returns-clause-order c = IsNonDecreasingBy-from_sort_by_key (λ (q : ℕ × ℕ). q.0) c.sort_by_key.new.self.items c.in_ok-sort_by_key.ensures.sorted (λ a r f called. search rules)
