use Rattle.std.proofs.Common.{◌∙◌, ap, get_or}
use Rattle.name_tables.specs.Names.{first_in}
use Rattle.ex_selects.specs.Items.{has_item}
use Rattle.ex_selects.specs.Takers.{takes_item, with_taker}
use Rattle.ex_selects.proofs.Firsts.{type_more}
use Rattle.ex_selects.proofs.takers.takers_among.Goals as goal

pub loop-number-preserved : goal.loop-number-preserved
loop-number-preserved c = λ name.
    let types = c.args.types.now in
    let numbers = c.args.numbers.now in
    let i = c.loop-number.number-index in
    let k = get_or numbers i 0 in
    c.in_ok-add.ensures name
    ∙ ap (λ b. with_taker (has_item types name b) (first_in name c.loop-number.takers) k) c.base_of-base.ensures
    ∙ ap (λ o. with_taker (takes_item types name k) o k) (c.loop-number.invariant name)
    ∙ type_more (takes_item types name) numbers i c.requires c.loop-number-test.true
