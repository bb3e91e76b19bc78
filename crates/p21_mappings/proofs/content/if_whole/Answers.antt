use Rattle.std.proofs.Common.{◌≡◌, Bool, true, false, not, refl, sym, ◌∙◌}
use Rattle.std.proofs.lemmas.List.Sorted.{IsPermutation-refl}
use Rattle.std.specs.List.{list_all}
use Rattle.plain_data.specs.Numbers.{is_among}
use Rattle.p21_instances.specs.Instances.{has_twice}
use Rattle.p21_instances.proofs.SortedNames.{is_one, once_in_any_order}
use Rattle.p21_mappings.proofs.Linked.{same_names}
use Rattle.p21_mappings.proofs.content.if_whole.Goals as goal

none : (b : Bool) → true ≡ not b → b ≡ false
none true e = cc
none false e = refl

pub returns-then-are_defined-clause-once : goal.returns-then-are_defined-clause-once
returns-then-are_defined-clause-once c =
    once_in_any_order c.args.names.items c.of_numbers-names.result c.of_numbers-names.ensures (none (has_twice is_one c.of_numbers-names.result) (sym c.if-are_distinct.true ∙ c.are_distinct.ensures))

pub returns-then-are_defined-clause-defined : goal.returns-then-are_defined-clause-defined
returns-then-are_defined-clause-defined c =
    let file = c.of_numbers-names in
    let linked = c.args.linked.now in
    (λ i. list_all (λ n. same_names c.args.names.items file.result linked linked file.ensures (IsPermutation-refl linked) n i) c.args.references.items)
    ∙ (λ i. list_all (is_among (sym c.of.ensures i)) (sym c.deref.ensures.value i))
    ∙ sym c.are_defined.ensures
    ∙ c.if-are_defined.true
