use Rattle.std.proofs.Common.{rules}
use Rattle.std.proofs.lemmas.Fn.{always_returns_same}
use Rattle.std.specs.Ordering.{is_lt, nat_cmp}
use Rattle.name_tables.proofs.Apart.{rising}
use Rattle.name_tables.proofs.differing.are_ascending.Goals as goal

pub returns : goal.returns
returns c = rising c.args.hashes.now c.is_sorted_by.result (c.is_sorted_by.ensures.cases (λ x y. is_lt (nat_cmp x y)) (always_returns_same _ _ _ (λ a r f called. search rules)))
