use Rattle.std.proofs.Common.{rules, sym, ◌∙◌, arith}
use Rattle.ex_attributes.proofs.InOrder.{told_some, told_none}
use Rattle.ex_attributes.proofs.declared_rows.kinds_in_order.Goals as goal

pub returns-in-Some : goal.returns-in-Some
returns-in-Some c =
    let at = c.first_not_before in
    let row = c.in-Some.row.now in
    let found = c.in-Some.ensures.lookup in
    c.kinds_if.ensures ∙ sym (told_some c.args.place c.args.rows.now c.requires at.result at.ensures.within at.ensures.parts row (grind (arith, found.0)) found.1)

pub returns-in-None : goal.returns-in-None
returns-in-None c =
    let at = c.first_not_before in
    sym (told_none c.args.place c.args.rows.now c.requires at.result at.ensures.within at.ensures.parts (search rules))
