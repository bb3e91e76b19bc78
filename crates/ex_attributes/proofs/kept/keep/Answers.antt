use Rattle.std.proofs.Common.{sym, ◌∙◌, ap}
use Rattle.ex_renamings.specs.Leading.{is_marked, leading}
use Rattle.ex_kinds.specs.Types.{alternatives}
use Rattle.ex_attributes.specs.Kept.{IsKept, found_if, type_found}
use Rattle.ex_attributes.proofs.Alike.{found_in_type}
use Rattle.ex_attributes.proofs.kept.keep.Goals as goal

pub returns : goal.returns
unfolding IsKept
returns c =
    let types = c.args.types.now in
    let attributes = c.args.attributes.now in
    let found = c.in_ok-found.found in
    let own = c.in-Some.own.items in
    λ n. ap (λ l. found_if (is_marked l n) found) (c.in_ok-marks.ensures ∙ ap (leading (alternatives types)) c.deref.ensures.value)
    ∙ found_in_type types attributes c.args.name.now found own (rw c.in-Some.is at c.in_ok-own.ensures) n
    ∙ ap (λ name. type_found types attributes name n) (sym c.in_ok-name.ensures)
