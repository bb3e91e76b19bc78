use Rattle.std.proofs.Common.{rules, ◌≡◌, ◌∙◌, Some}
use Rattle.std.specs.List.{position, remove}
use Rattle.rp_operations.specs.Operations.{is_same, without_first}
use Rattle.rp_operations.proofs.Taking.{some_left}
use Rattle.rp_operations.proofs.operations.difference_with.Goals as goal

pub returns-in_ok-left-in-Some : goal.returns-in_ok-left-in-Some
returns-in_ok-left-in-Some c =
    let at : position (is_same c.args.element.now) c.args.xs.now.items ≡ Some c.in-Some.place = search rules in
    let taken : c.remove.new.self ≡ remove c.args.xs.now.items c.in-Some.place = search rules in
    let left : c.remove.new.self ≡ without_first (is_same c.args.element.now) c.args.xs.now.items = taken ∙ some_left (is_same c.args.element.now) c.args.xs.now.items c.in-Some.place at in
    search (rules, left)
