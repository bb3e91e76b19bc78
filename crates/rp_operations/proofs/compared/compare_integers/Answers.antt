use Rattle.std.proofs.Common.{rules, ◌≡◌, ◌∙◌, ap}
use Rattle.std.specs.Ordering.{int_cmp}
use Rattle.rp_operations.specs.Order.{of_ordering}
use Rattle.rp_operations.proofs.Scales.{integers}
use Rattle.rp_operations.proofs.compared.compare_integers.Goals as goal

pub returns : goal.returns
returns c =
    let found : c.of.result ≡ of_ordering (int_cmp c.args.number c.args.other) = search rules in
    found ∙ ap of_ordering (integers c.args.number c.args.other)
