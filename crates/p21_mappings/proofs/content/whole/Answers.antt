use Rattle.std.proofs.Common.{◌∙◌, sym, ap, subst}
use Rattle.std.proofs.lemmas.List.Sorted.{IsPermutation-refl}
use Rattle.std.specs.List.{list_all}
use Rattle.p21_instances.specs.Instances.{has_twice, AreOnce}
use Rattle.p21_instances.proofs.SortedNames.{is_one}
use Rattle.rp_content.specs.Names.{instance_name}
use Rattle.p21_mappings.proofs.Linked.{same_names}
use Rattle.p21_mappings.proofs.Ordered.{once_named}
use Rattle.p21_mappings.proofs.content.whole.Goals as goal

pub content-requires : goal.content-requires
content-requires c =
    subst (AreOnce instance_name) (sym c.in-Some.ensures.instances)
    (once_named instance_name c.args.instances.items (ap (has_twice is_one) (sym c.requires) ∙ c.in-Some.ensures.once))

pub returns-in-Some-clause-defined : goal.returns-in-Some-clause-defined
returns-in-Some-clause-defined c =
    let names = c.args.names.items in
    (λ i. list_all (λ n. same_names names names c.args.linked.now c.in_ok-linked.linked (IsPermutation-refl names) c.in_ok-linked.ensures n i) c.args.references.items)
    ∙ c.in-Some.ensures.defined
