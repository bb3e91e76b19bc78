use Rattle.std.proofs.Common.{◌++◌, false, reverse, sym, ◌∙◌, ap, subst}
use Rattle.std.proofs.lemmas.List.{reverse-reverse}
use Rattle.std.specs.List.Sorted.{IsPermutation}
use Rattle.plain_data.specs.Numbers.{is_among}
use Rattle.p21_instances.specs.Instances.{names}
use Rattle.plain_data.specs.Gives.{Gives}
use Rattle.p21_bind.specs.Files as spec
use Rattle.p21_mappings.proofs.Linked.{same_names}
use Rattle.p21_bind.proofs.file.instances.Goals as goal

pub all_read-requires : goal.all_read-requires
all_read-requires c =
    let turned = ap reverse c.reverse.ensures.items ∙ reverse-reverse c.into_vec-reversed.result.items ∙ c.into_vec-reversed.ensures in
    subst (λ xs. IsPermutation (names xs) c.in_ok-names.names) (c.as_slice.ensures ∙ sym turned) c.in_ok-names.ensures

pub returns : goal.returns
unfolding spec.instances
returns c =
    let schema = c.args.layouts.now in
    let xs = c.args.spelled in
    let turned = ap reverse c.reverse.ensures.items ∙ reverse-reverse c.into_vec-reversed.result.items ∙ c.into_vec-reversed.ensures in
    let same = subst (λ ys. IsPermutation (names ys) c.in_ok-names.names) c.as_slice.ensures c.in_ok-names.ensures in
    subst (λ o. Gives (λ ys. ys.items) c.all_read.result o)
    (ap (spec.instances_after schema (is_among (c.in_ok-names.names ++ c.in_ok-linked.linked)) (λ n. false)) turned
    ∙ (λ i. spec.instances_after schema (λ n. sym (same_names (names xs) c.in_ok-names.names c.args.linked.now c.in_ok-linked.linked same c.in_ok-linked.ensures n) i) (λ n. false) xs))
    c.all_read.ensures
