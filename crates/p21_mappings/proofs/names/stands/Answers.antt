use Rattle.std.proofs.Common.{◌∙◌}
use Rattle.p21_instances.proofs.SortedNames.{found_is}
use Rattle.p21_mappings.proofs.names.stands.Goals as goal

pub returns : goal.returns
returns c =
    c.is_ok.ensures.value
    ∙ found_is c.args.numbers.now c.args.name c.binary_search.result c.requires c.binary_search.ensures.position
