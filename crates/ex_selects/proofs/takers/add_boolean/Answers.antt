use Rattle.std.proofs.Common.{◌≡◌, ◌∷◌, [], ◌∙◌, ap, subst, OnOk}
use Rattle.std.specs.Str.{bytes_eq}
use Rattle.name_tables.specs.Names.{first_in}
use Rattle.ex_selects.specs.Takers.{with_taker}
use Rattle.ex_selects.proofs.Firsts.{either_taker}
use Rattle.ex_selects.proofs.takers.add_boolean.Goals as goal

pub returns : goal.returns
returns c = λ other.
    let first = first_in other c.args.takers.now in
    subst (λ o. OnOk c.add_taker-2.result (first_in other c.add_taker-2.new.takers ≡ o))
    (ap (λ o. with_taker (bytes_eq (84 ∷ []) other) o c.args.number) (c.in_ok-add_taker.ensures other)
    ∙ either_taker (bytes_eq (70 ∷ []) other) (bytes_eq (84 ∷ []) other) first c.args.number)
    (c.add_taker-2.ensures other)
