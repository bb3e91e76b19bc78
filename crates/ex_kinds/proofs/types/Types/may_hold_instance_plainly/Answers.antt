use Rattle.std.proofs.Common.{◌∙◌}
use Rattle.ex_kinds.specs.Types as spec
use Rattle.ex_kinds.proofs.Tests.{plain_by_meanings, plainly_exact}
use Rattle.ex_kinds.proofs.types.Types.may_hold_instance_plainly.Goals as goal

pub returns : goal.returns
returns c =
    let types = c.args.self.now in
    c.any_with_instances.ensures ∙ plain_by_meanings types (spec.holds_by (spec.holding types)) c.args.kinds.now ∙ plainly_exact types c.args.kinds.now
