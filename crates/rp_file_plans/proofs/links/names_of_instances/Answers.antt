use Rattle.std.proofs.Common.{◌==◌, sym, subst}
use Rattle.std.proofs.lemmas.List.Sorted.{list_any-IsPermutation}
use Rattle.std.specs.List.Sorted.{IsPermutation}
use Rattle.rp_rows.specs.Contents as contents
use Rattle.rp_file_plans.proofs.links.names_of_instances.Goals as goal

pub returns : goal.returns
returns c = λ n.
    let same = subst (λ xs. IsPermutation xs c.of_numbers.result) c.in_ok-names.ensures c.of_numbers.ensures in
    sym (list_any-IsPermutation (λ m. m == n) (contents.names c.args.instances.now) c.of_numbers.result same)
