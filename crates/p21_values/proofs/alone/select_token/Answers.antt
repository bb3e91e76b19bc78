use Rattle.std.proofs.Common.{◌≡◌, subst, IfOk}
use Rattle.p21_values.proofs.Items.{item_known}
use Rattle.p21_values.proofs.alone.select_token.Goals as goal

pub returns-in-Some : goal.returns-in-Some
returns-in-Some c =
    subst (λ o. IfOk c.known_item.result (λ taken. taken ≡ o))
    (item_known c.args.types.now c.args.value.now c.as_slice.result.now c.args.number c.in-Some.by_name.now (rw c.as_slice.ensures c.in-Item.is) c.in-Some.ensures) c.known_item.ensures
