use Rattle.std.proofs.Common.{rules, ◌≡◌, Some}
use Rattle.std.specs.List.{position}
use Rattle.rp_operations.specs.Operations.{is_same}
use Rattle.rp_operations.proofs.Taking.{some_found}
use Rattle.rp_operations.proofs.operations.take_same.Goals as goal

pub returns-in-Some-clause-found : goal.returns-in-Some-clause-found
returns-in-Some-clause-found c =
    let at : position (is_same c.args.value.now) c.args.left.now ≡ Some c.in-Some.place = search rules in
    some_found (is_same c.args.value.now) c.args.left.now c.in-Some.place at
