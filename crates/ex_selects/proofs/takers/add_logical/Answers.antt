use Rattle.std.proofs.Common.{◌≡◌, ◌∷◌, [], ◌∙◌, ap, subst, OnOk}
use Rattle.std.specs.Str.{bytes_eq}
use Rattle.name_tables.specs.Names.{first_in}
use Rattle.ex_selects.specs.Takers.{with_taker}
use Rattle.ex_selects.specs.Items.{is_boolean}
use Rattle.ex_selects.proofs.Firsts.{either_taker}
use Rattle.ex_selects.proofs.takers.add_logical.Goals as goal

pub returns : goal.returns
returns c = λ other.
    let first = first_in other c.args.takers.now in
    subst (λ o. OnOk c.add_taker.result (first_in other c.add_taker.new.takers ≡ o))
    (ap (λ o. with_taker (bytes_eq (85 ∷ []) other) o c.args.number) (c.in_ok-add_boolean.ensures other)
    ∙ either_taker (is_boolean other) (bytes_eq (85 ∷ []) other) first c.args.number)
    (c.add_taker.ensures other)
