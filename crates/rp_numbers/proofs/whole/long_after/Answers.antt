use Rattle.std.proofs.Common.{◌+◌, ◌-◌, ◌*◌, ◌<◌, drop, get_or, arith}
use Rattle.std.proofs.lemmas.Grind.{common_steps}
use Rattle.std.proofs.lemmas.Bool.Decides.{nat_tests}
use Rattle.std.proofs.lemmas.List.{at_drop_more}
use Rattle.rp_numbers.specs.Whole.{value_after}
use Rattle.rp_numbers.proofs.Digits.{le-value_after}
use Rattle.rp_numbers.proofs.whole.long_after.Goals as goal

pub returns-in_default : goal.returns-in_default
returns-in_default c =
    let l = c.digits in
    let ds = c.args.digits.now in
    let i = l.digit-index in
    let next = 10 * l.value + (get_or ds i 0 - 48) in
    let turn = at_drop_more (value_after l.value) ds i 0 c.digits-test.true in
    let grown = le-value_after next (drop (i + 1) ds) in
    let large : c.args.most < value_after c.args.start ds = grind (arith, common_steps, c.in_default.ensures) in
    grind (arith, nat_tests, common_steps)

pub returns-in_default-checked_add : goal.returns-in_default-checked_add
returns-in_default-checked_add c =
    let l = c.digits in
    let ds = c.args.digits.now in
    let i = l.digit-index in
    let next = 10 * l.value + (get_or ds i 0 - 48) in
    let turn = at_drop_more (value_after l.value) ds i 0 c.digits-test.true in
    let grown = le-value_after next (drop (i + 1) ds) in
    let large : c.args.most < value_after c.args.start ds =
    grind (arith, common_steps, c.in_default-checked_add.ensures) in
    grind (arith, nat_tests, common_steps)
