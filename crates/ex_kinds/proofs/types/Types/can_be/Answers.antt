use Rattle.std.proofs.Common.{◌∙◌}
use Rattle.ex_kinds.specs.Types as spec
use Rattle.ex_kinds.proofs.Tests.{plain_by_meanings}
use Rattle.ex_kinds.proofs.types.Types.can_be.Goals as goal

pub returns : goal.returns
returns c = c.any_of_sort.ensures ∙ plain_by_meanings c.args.self.now (spec.is_value c.args.sort) c.args.kinds.now
