use Rattle.std.proofs.Common.{rules}
use Rattle.std.proofs.lemmas.Fn.{always_returns_same}
use Rattle.std.specs.Ordering.{is_lt}
use Rattle.name_tables.specs.Names.{by_lent_bytes}
use Rattle.ex_declarations.proofs.Distinct.{rising}
use Rattle.ex_declarations.proofs.uniqueness.are_ascending.Goals as goal

pub returns : goal.returns
returns c = rising c.args.texts.now c.is_sorted_by.result (c.is_sorted_by.ensures.cases (λ x y. is_lt (by_lent_bytes x y)) (always_returns_same _ _ _ (λ a r f called. search rules)))
