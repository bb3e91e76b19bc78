use Rattle.std.proofs.Common.{◌∙◌, ap, nat_lt, not, rules}
use Rattle.std.proofs.lemmas.Fn.{always_returns_same}
use Rattle.p21_instances.specs.Instances as spec
use Rattle.p21_instances.proofs.SortedNames.{distinct_is, is_one}
use Rattle.p21_mappings.proofs.names.Names.are_distinct.Goals as goal

pub returns : goal.returns
returns c =
    distinct_is c.deref.result.now c.is_sorted_by.result (rw c.deref.ensures.value c.self.invariant)
    (c.is_sorted_by.ensures.cases (λ x y. nat_lt x y) (always_returns_same _ _ _ (λ a r q k. search rules)))
    ∙ ap (λ l. not (spec.has_twice is_one l)) (c.deref.ensures.value ∙ c.self.view_is)
