use Rattle.std.proofs.Common.{◌∙◌}
use Rattle.ex_kinds.specs.Types as spec
use Rattle.ex_kinds.proofs.Tests.{plain_by_meanings}
use Rattle.ex_kinds.proofs.types.Types.can_have_elements.Goals as goal

pub returns : goal.returns
returns c = c.any_with_elements.ensures ∙ plain_by_meanings c.args.self.now spec.has_elements c.args.kinds.now
