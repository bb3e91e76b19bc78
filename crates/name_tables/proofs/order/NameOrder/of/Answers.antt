use Rattle.std.proofs.Common.{rules, map, subst}
use Rattle.std.specs.List.Sorted.{IsPermutation, IsStableBy}
use Rattle.name_tables.proofs.Ranks.{comes_before, first_of_sorted, ranked_in, sorted_by, stable_by}
use Rattle.name_tables.proofs.order.NameOrder.of.Goals as goal

pub invariant_of-result : goal.invariant_of-result
invariant_of-result c = sorted_by c.sort_by.new.self.items c.in_ok-sort_by.ensures.sorted (λ a r f called. search rules)

pub returns : goal.returns
returns c =
    let sort = c.in_ok-sort_by.ensures in
    let names = map (λ n. n.now) c.args.names.now in
    let stable = stable_by c.in_ok-rows.rows.items c.sort_by.new.self.items sort.stable (λ a r f called. search rules) in
    let same = subst (λ rows. IsPermutation rows c.sort_by.new.self.items) c.in_ok-rows.ensures sort.permutation in
    record {
      ascending = sorted_by c.sort_by.new.self.items sort.sorted (λ a r f called. search rules);
      same = same;
      first = λ name. first_of_sorted name names c.sort_by.new.self.items (subst (λ rows. IsStableBy comes_before rows c.sort_by.new.self.items) c.in_ok-rows.ensures stable);
      ranked = λ name. ranked_in name names c.sort_by.new.self.items same;
    }
